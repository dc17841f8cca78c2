-- The public operations: a number first, then the event. Each way out is one equation.
use Rattle.std.specs.Prelude.{ℕ, zero, suc, ◌+◌, ◌*◌, ◌/◌, ◌≤◌, ◌<◌, Bool, true, false, ◌&&◌, ◌||◌, List, [], eqb, ltb, ℤ, length}
use Rattle.std.specs.List.{list_any}
use Rattle.std.proofs.Math.Bool.{not}
use Rattle.std.proofs.Math.Path.{◌≡◌, sym}
use Rattle.std.proofs.Common.{◌∙◌, arith}
use borrow.Author.Tests.{ltb-false, eqb-true, eq-eqb, ne_eqb, not-false}
use Rattle.std.proofs.Math.ListN.{get_or}
use Rattle.rules.specs.Sizes.{most_waiting}
use Rattle.rules.specs.Partitions.{names, other}
use Rattle.rules.specs.Ledger.{State, Entry, sizes_fit}
use Rattle.rules.specs.Events.{Event, delivery, vote, change, with_k}
use Rattle.rules.specs.Refusals.{is_for, refusal, checks, vote_checks, too_little_room}
use Rattle.laws.specs.Tests.{split, or_left, or_right, and_left}
use Rattle.tables.specs.Layout.{book_words, sums_words}
use Rattle.laws.specs.Cuts.{get_or_cut}
use Rattle.laws.specs.Bits.{names_within}
use Rattle.laws.specs.Tabs.{tab}
use Rattle.claims.specs.Refused.{none_applies}
use Rattle.tables.specs.Rows.{row_transaction, row_entry}
use Rattle.tables.specs.View.{view, clock_view, waiting_words, entry_at, waiting_view}
use Rattle.tables.specs.Good.{waiting_entry_good}
use Rattle.tables.specs.Bytes.{ByteSets, entry_bytes}
use Rattle.tables.specs.Voted.{ballot}
use Rattle.tables.specs.Opened.{opened_book, opened_sums}
use Rattle.tables.specs.Judged.{lent}
use Rattle.tables.specs.Settled.{Ready}
use Rattle.checking.specs.SoundTables.{sound_tables}
use Rattle.refusing.specs.Operands.{short, lent_number, delivery_number, vote_number, change_number, opening_number, index_of, waiting_identities}
use Rattle.refusing.specs.Numbers.{Clear, clear}
use Rattle.refusing.specs.Indexed.{RowOf, row_of, vote_waits}
use Rattle.std.specs.Prelude.{Ok, Err}
use Rattle.std.proofs.Common.{Result}
use Rattle.refusing.specs.declared.refusals.Refusal.{Refusal}
use Rattle.refusing.specs.Told.{numbered, named_numbered, some_number}
use Rattle.engine.specs.declared.answers.Delivered.{Delivered}
use Rattle.engine.specs.Answers.{After}
use Rattle.engine.specs.Delivering.{Accepting}
use Rattle.engine.specs.Voting.{desk_before, change_ready, voted_desk, settled_result, vote_ready}
use Rattle.engine.specs.Storing.{Votable}
use Rattle.engine.specs.Operations.{left, delivered_on, delivering, voted_on, voting, changed_on, changing, opened}

-- Number 0 says that no table is too short.
pub not_short : (words : ℕ) (b : Bool) (e : Event) (s : State) → lent_number words b e s ≡ 0 → b ≡ false
unfolding lent_number
not_short words b e s z =
    split (too_little_room (words / 2) e) (λ q. absurd (let bad : ◌≡◌ {A = ℕ} 15 0 = rw q at z in omega arith))
    (λ q. split b (λ r. absurd (let bad : ◌≡◌ {A = ℕ} 13 0 = rw (q, r) at z in omega arith)) (λ r. r))

pub cleared : (words : ℕ) (b : Bool) (e : Event) (s : State) → lent_number words b e s ≡ 0 → Clear words e s
cleared words b e s z = clear words e s (rw (not_short words b e s z) at z)

pub record LongTables (book : List ℕ) (sums : List ℤ) : Type 0 where
  pub long : book_words ≤ length book
  pub long_sums : sums_words ≤ length sums

pub long_tables : (book : List ℕ) (sums : List ℤ) → short book sums ≡ false → LongTables book sums
unfolding short
long_tables book sums q =
    record {
      long = ltb-false (length book) book_words (or_left (ltb (length book) book_words) (ltb (length sums) sums_words) q);
      long_sums = ltb-false (length sums) sums_words (or_right (ltb (length book) book_words) (ltb (length sums) sums_words) q);
    }

pub room_of : (words : ℕ) → ltb (words / 2) most_waiting ≡ false → 64 ≤ words
room_of words q = let h = ltb-false (words / 2) most_waiting q in omega arith

-- Delivery.
module _ (identity set st : ℕ) (reads keys : List ℕ) (amounts : List ℤ) (book : List ℕ) (sums : List ℤ) (fin : List ℕ) (n : ℕ)
    (is_number : n ≡ delivery_number identity set st reads keys amounts book sums (length fin)) where
  pub delivery_refused : (r : Refusal) → numbered r ≡ n → left (Err r) book sums fin ≡ delivering identity set st reads keys amounts book sums fin
  unfolding delivering
  delivery_refused r e = rw (← is_number, ← e, ne_eqb (numbered r) 0 (some_number r), named_numbered r)

  pub delivery_accepting : n ≡ 0 → Accepting identity set st reads keys amounts book sums fin
  unfolding delivery_number too_little_room
  delivery_accepting none =
      let e = delivery (lent identity set st reads keys amounts) in
      let too_short = short book sums || not (eqb (length amounts) (length keys)) in
      let z : lent_number (length fin) too_short e (view book sums) ≡ 0 = sym is_number ∙ none in
      let c = cleared (length fin) too_short e (view book sums) z in
      let enough = not_short (length fin) too_short e (view book sums) z in
      let tables = long_tables book sums (or_left (short book sums) (not (eqb (length amounts) (length keys))) enough) in
      record {
        long = tables.long;
        long_sums = tables.long_sums;
        same = eqb-true (length amounts) (length keys) (not-false (eqb (length amounts) (length keys)) (or_right (short book sums) (not (eqb (length amounts) (length keys))) enough));
        room = room_of (length fin) c.room;
        sound = (sound_tables book sums c.is_sound).state;
        unrefused = c.allowed;
      }

  pub delivery_tables : n ≡ 0 → LongTables book sums
  delivery_tables none = let a = delivery_accepting none in record { long = a.long; long_sums = a.long_sums }

  pub delivery_taken : (r : After (Result Delivered Refusal)) → n ≡ 0 → r ≡ delivered_on identity set st reads keys amounts book sums fin
      → r ≡ delivering identity set st reads keys amounts book sums fin
  unfolding delivering
  delivery_taken r none h = rw (← is_number, none) h

-- Change.
module _ (k : ℕ) (book : List ℕ) (sums : List ℤ) (fin : List ℕ) (n : ℕ) (is_number : n ≡ change_number k book sums (length fin)) where
  pub change_refuses : (r : Refusal) → numbered r ≡ n → left (Err r) book sums fin ≡ changing k book sums fin
  unfolding changing
  change_refuses r e = rw (← is_number, ← e, ne_eqb (numbered r) 0 (some_number r), named_numbered r)

  change_clear : n ≡ 0 → LongTables book sums × Clear (length fin) (change k) (view book sums)
  unfolding change_number
  change_clear none =
      let z : lent_number (length fin) (short book sums) (change k) (view book sums) ≡ 0 = sym is_number ∙ none in (
        long_tables book sums (not_short (length fin) (short book sums) (change k) (view book sums) z),
        cleared (length fin) (short book sums) (change k) (view book sums) z,
      )

  pub change_tables : n ≡ 0 → LongTables book sums
  change_tables none = (change_clear none).0

  pub change_readies : n ≡ 0 → Ready (with_k k (clock_view book)) (desk_before book sums fin)
  unfolding too_little_room
  change_readies none =
      let c = change_clear none in
      change_ready book sums fin
      (record {
        long = c.0.long;
        long_sums = c.0.long_sums;
        room = room_of (length fin) c.1.room;
        sound = (sound_tables book sums c.1.is_sound).state;
      })
      k c.1.allowed

  pub change_takes : (r : After (Result ℕ Refusal)) → n ≡ 0 → r ≡ settled_result (with_k k (clock_view book)) (desk_before book sums fin) → r ≡ changing k book sums fin
  unfolding changing changed_on
  change_takes r none h = rw (← is_number, none) h

-- Vote: the row of its identity is good, and its partition is one of the eight.
any_tab_at : {A : Type 0} (f : A → Bool) (m : ℕ) (g : ℕ → A) → list_any f (tab m g) ≡ false → (i : ℕ) → i < m → f (g i) ≡ false
unfolding tab
any_tab_at f zero g h i low = absurd (omega arith)
any_tab_at f (suc m) g h zero low = or_left (f (g 0)) (list_any f (tab m (λ j. g (suc j)))) h
any_tab_at f (suc m) g h (suc i) low = any_tab_at f m (λ j. g (suc j)) (or_right (f (g 0)) (list_any f (tab m (λ j. g (suc j)))) h) i (omega arith)

row_word : (book : List ℕ) (i j : ℕ) → j < 24 → get_or (waiting_words book i) j 0 ≡ get_or book (6 + 24 * i + j) 0
unfolding waiting_words
row_word book i j low = get_or_cut (6 + 24 * i) 24 book j 0 low

is_its : (e : Entry) (x : ℕ) → e.transaction.identity ≡ x → is_for x e ≡ true
is_its e x q = eq-eqb e.transaction.identity x q

vote_clears : (identity p : ℕ) (agrees : Bool) (book : List ℕ) (sums : List ℤ) (words n : ℕ) → n ≡ vote_number identity p agrees book sums words → n ≡ 0
    → LongTables book sums × Clear words (vote identity p (ballot agrees)) (view book sums)
unfolding vote_number
vote_clears identity p agrees book sums words n is_number none =
    let e = vote identity p (ballot agrees) in
    let z : lent_number words (short book sums) e (view book sums) ≡ 0 = sym is_number ∙ none in
    (long_tables book sums (not_short words (short book sums) e (view book sums) z), cleared words (short book sums) e (view book sums) z)

module _ (identity p : ℕ) (agrees : Bool) (book : List ℕ) (sums : List ℤ) (fin : List ℕ) (n : ℕ)
    (is_number : n ≡ vote_number identity p agrees book sums (length fin)) where
  pub vote_refuses : (r : Refusal) → numbered r ≡ n → left (Err r) book sums fin ≡ voting identity p agrees book sums fin
  unfolding voting
  vote_refuses r e = rw (← is_number, ← e, ne_eqb (numbered r) 0 (some_number r), named_numbered r)

  abbrev event : Event
  event = vote identity p (ballot agrees)

  abbrev i : ℕ
  i = index_of identity (waiting_identities book)

  vote_clear : n ≡ 0 → LongTables book sums × Clear (length fin) event (view book sums)
  vote_clear none = vote_clears identity p agrees book sums (length fin) n is_number none

  pub vote_tables : n ≡ 0 → LongTables book sums
  vote_tables none = (vote_clear none).0

  pub vote_list : n ≡ 0 → get_or book 5 0 ≤ 32
  vote_list none = (sound_tables book sums (vote_clear none).1.is_sound).few_waiting

  vote_row : n ≡ 0 → RowOf identity book sums i
  vote_row none = row_of identity book sums (vote_waits identity p (ballot agrees) book sums (vote_clear none).1.allowed)

  vote_bytes : n ≡ 0 → ByteSets (get_or book (6 + 24 * i + 1) 0) (get_or book (6 + 24 * i + 4) 0) (get_or book (6 + 24 * i + 5) 0)
  unfolding entry_at clock_view
  vote_bytes none =
      let s = sound_tables book sums (vote_clear none).1.is_sound in
      let good = waiting_entry_good (get_or book 0 0) (get_or book 1 0) (get_or book 3 0) (get_or book 5 0) book sums s.state.entries_good i (vote_row none).below in
      rw (row_word book i 1 (omega arith), row_word book i 4 (omega arith), row_word book i 5 (omega arith))
      at (entry_bytes (get_or book 0 0) (get_or book 1 0) (get_or book 3 0) (waiting_words book i) _ s.few_partitions good)

  vote_other : n ≡ 0 → other (get_or book 1 0) (get_or book (6 + 24 * i + 1) 0) p ≡ true
  unfolding refusal checks vote_checks view waiting_view clock_view entry_at row_entry row_transaction
  vote_other none =
      let r = vote_row none in
      let k = none_applies (vote_checks identity p (view book sums)) (vote_clear none).1.allowed in
      let here = any_tab_at (λ (e : Entry). is_for identity e && not (other (get_or book 1 0) e.transaction.partitions p)) (get_or book 5 0) (entry_at book sums) k.1.0 i r.below in
      rw (row_word book i 1 (omega arith)) at
      (not-false (other (get_or book 1 0) (get_or (waiting_words book i) 1 0) p) (rw (is_its (entry_at book sums i) identity r.its) at here))

  pub vote_partition : n ≡ 0 → p < 8
  unfolding other
  vote_partition none =
      let set = get_or book (6 + 24 * i + 1) 0 in
      names_within 8 set p (vote_bytes none).set_byte (and_left (names set p) (not (eqb p (get_or book 1 0))) (vote_other none))

  pub votable : n ≡ 0 → Votable i p agrees book sums fin
  unfolding too_little_room
  votable none =
      let c = vote_clear none in
      let r = vote_row none in
      let few = vote_list none in
      let low = r.below in
      let bytes = vote_bytes none in
      record {
        long = c.0.long;
        row = omega arith;
        partition = vote_partition none;
        ayes_byte = bytes.ayes_byte;
        nays_byte = bytes.nays_byte;
        ready = vote_ready book sums fin
            (record {
              long = c.0.long;
              long_sums = c.0.long_sums;
              room = room_of (length fin) c.1.room;
              sound = (sound_tables book sums c.1.is_sound).state;
            })
            identity i p agrees r.below r.its c.1.allowed;
      }

  pub vote_takes : (r : After (Result ℕ Refusal)) → n ≡ 0 → r ≡ settled_result (clock_view book) (voted_desk i p agrees book sums fin) → r ≡ voting identity p agrees book sums fin
  unfolding voting voted_on
  vote_takes r none h = rw (← is_number, none) h

  -- the same for the row that was found
  module _ (found : ℕ) (is_row : found ≡ i) where
    pub votable_at : n ≡ 0 → Votable found p agrees book sums fin
    votable_at none = rw is_row (votable none)

    pub vote_takes_at : (r : After (Result ℕ Refusal)) → n ≡ 0 → r ≡ settled_result (clock_view book) (voted_desk found p agrees book sums fin) → r ≡ voting identity p agrees book sums fin
    vote_takes_at r none h = vote_takes r none (rw is_row at h)

-- Opening.
module _ (partitions own k : ℕ) (book : List ℕ) (sums : List ℤ) (n : ℕ) (is_number : n ≡ opening_number partitions own k book sums) where
  pub opening_refuses : (r : Refusal) → numbered r ≡ n → left (Err r) book sums [] ≡ opened partitions own k book sums
  unfolding opened
  opening_refuses r e = rw (← is_number, ← e, ne_eqb (numbered r) 0 (some_number r), named_numbered r)

  pub opening_long : n ≡ 0 → LongTables book sums
  unfolding opening_number
  opening_long none =
      split (short book sums || not (sizes_fit partitions own k))
      (λ q. absurd (let bad : ◌≡◌ {A = ℕ} 13 0 = rw q at (sym is_number ∙ none) in omega arith))
      (λ q. long_tables book sums (or_left (short book sums) (not (sizes_fit partitions own k)) q))

  pub opening_takes : {b : List ℕ} {s : List ℤ} → n ≡ 0 → b ≡ opened_book book partitions own k → s ≡ opened_sums sums
      → left (Ok tt) b s [] ≡ opened partitions own k book sums
  unfolding opened
  opening_takes none eb es = rw (← is_number, none, eb, es)
