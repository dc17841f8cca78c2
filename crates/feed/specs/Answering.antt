-- One record, answered: what the operations leave and what the writers write, together.
use Rattle.std.specs.Prelude.{ℕ, ◌+◌, ◌*◌, ◌≤◌, Bool, true, false, List, ◌++◌, ◌≡◌, refl, ℤ, pos, length, take, get_or, Some, None}
use Rattle.std.specs.declared.option.Option as code
use Rattle.std.proofs.Common.{Result, sym, ap, ap₂, ◌∙◌, arith, append-nil}
use Rattle.rules.specs.Partitions.{is_aye}
use Rattle.rules.specs.Ledger.{Write, Transaction}
use Rattle.records.specs.declared.items.Delivery.{Delivery}
use Rattle.rules.specs.Events.{Event, delivery, vote, change, read}
use Rattle.rules.specs.Soundness.{sound}
use Rattle.rules.specs.AnswerText.{answer_text, delivery_text, vote_text, change_text, read_text}
use Rattle.laws.specs.Tabs.{tab, map_tab, tab_list}
use Rattle.claims.specs.Soundness.{step_sound}
use Rattle.numerals.specs.Writing.{Wrote, wrote_both, wrote_as, wrote_length}
use Rattle.tables.specs.Layout.{book_words, sums_words}
use Rattle.tables.specs.View.{view}
use Rattle.tables.specs.NewRow.{writes_of}
use Rattle.tables.specs.Judged.{lent, lent_keys}
use Rattle.tables.specs.Voted.{ballot}
use Rattle.refusing.specs.declared.refusals.Refusal.{Refusal}
use Rattle.refusing.specs.Snapshots.{asked}
use Rattle.engine.specs.declared.answers.Delivered.{Delivered}
use Rattle.engine.specs.declared.answers.Reading.{Reading}
use Rattle.engine.specs.Answers.{After, delivered_said, delivered_finishes, voted_said, changed_said, finishes_told, reading_said}
use Rattle.engine.specs.Operations.{left, delivering, voting, changing, reading}
use Rattle.engine.specs.Lengths.{delivering_few, voting_few, changing_few, delivering_lengths, voting_lengths, changing_lengths}
use Rattle.engine.specs.Calls.{Memory, held, called, amounts_of, asking, call}
use Rattle.engine.specs.CallMeans.{Long, call_long, call_steps}
use Rattle.answers.specs.declared.TheConstants.{HEAD, LONGEST}
use Rattle.answers.specs.Finishes.{words_text}
use Rattle.feed.specs.Feeding.{called_text}

-- Memory of three lists, and the transaction that a line says.
abbrev pub memory : List ℕ → List ℤ → List ℕ → Memory
memory book sums fin = record { book = book; sums = sums; finishes = fin }

abbrev pub delivery_of : Delivery → Transaction
delivery_of d =
    lent d.identity d.set d.st (take d.reads.count d.reads.items) (take d.writes.count d.writes.keys) (take d.writes.count d.writes.amounts)

-- Tables that were looked at: long enough, with a sound state in them.
pub record Usable (book : List ℕ) (sums : List ℤ) : Type 0 where
  pub long : book_words ≤ length book
  pub long_sums : sums_words ≤ length sums
  pub is_sound : sound (view book sums) ≡ true

pub usable_kept : (e : Event) (m : Memory) → 64 ≤ length m.finishes → Usable m.book m.sums → Usable (call e m).memory.book (call e m).memory.sums
usable_kept e m room u =
    let long : Long m = record { book = u.long; sums = u.long_sums; room = room } in
    let longer = call_long e m long in
    record { long = longer.book; long_sums = longer.sums; is_sound = rw (call_steps e m long u.is_sound).state (step_sound e (held m) u.is_sound) }

-- What an operation leaves of an event: the memory, its own line, and how many finishes it counts.
pub record Did (e : Event) (m m' : Memory) (own : List ℕ) (count : ℕ) : Type 0 where
  pub line : own ≡ answer_text e (call e m).answer
  pub counted : count ≡ (call e m).count
  pub memory : m' ≡ (call e m).memory
  pub few : count ≤ 32
  pub list : length m'.finishes ≡ length m.finishes

-- What an event leaves: the memory, and its text behind what was written before.
pub record Answered (e : Event) (m m' : Memory) (o : List ℕ) (at : ℕ) (o' : List ℕ) (p : ℕ) : Type 0 where
  pub memory : m' ≡ (call e m).memory
  pub wrote : Wrote o at (called_text e (call e m)) o' p
  pub ends : p ≤ at + 832

-- An own line, then the finishes' lines.
module _ {e : Event} {m m' : Memory} {own : List ℕ} {count : ℕ} (d : Did e m m' own count) where
  pub entries_fit : length m.finishes ≡ 64 → 2 * count ≤ length m'.finishes
  entries_fit list = let same = d.list in let few = d.few in omega arith

  module _ {o o1 : List ℕ} {at next : ℕ} (room : at + LONGEST ≤ length o) (one : Wrote o at own o1 next) (ends : next ≤ at + HEAD) where
    own_fits : at + length own ≤ length o
    own_fits = let place = one.place in omega arith

    pub room_left : next + 24 * count + HEAD ≤ length o1
    room_left = let few = d.few in let same = wrote_length own_fits one in omega arith

    pub answered : {o' : List ℕ} {p : ℕ} → Wrote o1 next (words_text count m'.finishes) o' p → p ≤ next + 24 * count → Answered e m m' o at o' p
    answered two more =
        let few = d.few in
        record {
          memory = d.memory;
          wrote = wrote_as (ap₂ (λ (l k : List ℕ). l ++ k) d.line (ap₂ words_text d.counted (ap (λ (x : Memory). x.finishes) d.memory))) (wrote_both own_fits one two);
          ends = omega arith;
        }

-- A delivery as it is lent is the call of its transaction.
lent_amounts : (keys : List ℕ) (amounts : List ℤ) → length amounts ≡ length keys → amounts_of (writes_of keys amounts) ≡ amounts
unfolding writes_of
lent_amounts keys amounts same =
    map_tab (λ (w : Write). w.value) (length keys) (λ j. record { key = get_or keys j 0; value = get_or amounts j (pos 0) })
    ∙ (ap (λ (n : ℕ). tab n (λ j. get_or amounts j (pos 0))) (sym same) ∙ tab_list amounts (pos 0))

pub deliver_called : (identity set st : ℕ) (reads keys : List ℕ) (amounts : List ℤ) (m : Memory) → length amounts ≡ length keys
    → call (delivery (lent identity set st reads keys amounts)) m
    ≡ called delivered_said delivered_finishes (delivering identity set st reads keys amounts m.book m.sums m.finishes)
unfolding call lent
deliver_called identity set st reads keys amounts m same = rw (lent_keys keys amounts, lent_amounts keys amounts same)

is_ballot : (b : Bool) → is_aye (ballot b) ≡ b
is_ballot true = refl
is_ballot false = refl

-- The operations, each by its contract.
module _ {book : List ℕ} {sums : List ℤ} {fin : List ℕ} {m : Memory} where
  pub delivered : {a : Result Delivered Refusal} (identity set st : ℕ) (reads keys : List ℕ) (amounts : List ℤ)
      → left a book sums fin ≡ delivering identity set st reads keys amounts m.book m.sums m.finishes → length amounts ≡ length keys
      → Did (delivery (lent identity set st reads keys amounts)) m (memory book sums fin) (delivery_text identity (delivered_said a)) (delivered_finishes a)
  unfolding answer_text lent
  delivered {a} identity set st reads keys amounts e same =
      let c = deliver_called identity set st reads keys amounts m same in
      let few = delivering_few identity set st reads keys amounts m.book m.sums m.finishes in
      let lengths = delivering_lengths identity set st reads keys amounts m.book m.sums m.finishes in
      record {
        line = rw c (ap (λ (r : After (Result Delivered Refusal)). delivery_text identity (delivered_said r.answer)) e);
        counted = rw c (ap (λ (r : After (Result Delivered Refusal)). delivered_finishes r.answer) e);
        memory = rw c (ap (λ (r : After (Result Delivered Refusal)). memory r.book r.sums r.finishes) e);
        few = rw (← e) at few;
        list = rw (← e) at lengths.finishes;
      }

  pub voted : {a : Result ℕ Refusal} (identity p : ℕ) (agrees : Bool)
      → left a book sums fin ≡ voting identity p agrees m.book m.sums m.finishes
      → Did (vote identity p (ballot agrees)) m (memory book sums fin) (vote_text identity p (voted_said a)) (finishes_told a)
  unfolding answer_text call
  voted {a} identity p agrees e =
      let same = is_ballot agrees in
      let few = voting_few identity p agrees m.book m.sums m.finishes in
      let lengths = voting_lengths m.book m.sums m.finishes identity p agrees in
      record {
        line = rw same (ap (λ (r : After (Result ℕ Refusal)). vote_text identity p (voted_said r.answer)) e);
        counted = rw same (ap (λ (r : After (Result ℕ Refusal)). finishes_told r.answer) e);
        memory = rw same (ap (λ (r : After (Result ℕ Refusal)). memory r.book r.sums r.finishes) e);
        few = rw (← e) at few;
        list = rw (← e) at lengths.finishes;
      }

  pub changed : {a : Result ℕ Refusal} {k : ℕ} → left a book sums fin ≡ changing k m.book m.sums m.finishes
      → Did (change k) m (memory book sums fin) (change_text k (changed_said a)) (finishes_told a)
  unfolding answer_text call
  changed {a} {k} e =
      let few = changing_few k m.book m.sums m.finishes in
      let lengths = changing_lengths m.book m.sums m.finishes k in
      record {
        line = ap (λ (r : After (Result ℕ Refusal)). change_text k (changed_said r.answer)) e;
        counted = ap (λ (r : After (Result ℕ Refusal)). finishes_told r.answer) e;
        memory = ap (λ (r : After (Result ℕ Refusal)). memory r.book r.sums r.finishes) e;
        few = rw (← e) at few;
        list = rw (← e) at lengths.finishes;
      }

as_asked : (st : code.Option ℕ) → asking (asked st) ≡ st
as_asked None = refl
as_asked (Some v) = refl

-- A read finishes nothing.
pub was_read : (key : ℕ) (st : code.Option ℕ) {a : Reading} {m : Memory} {o o' : List ℕ} {at p : ℕ} → a ≡ reading key st m.book m.sums
    → Wrote o at (read_text key (reading_said a)) o' p → p ≤ at + HEAD → Answered (read key (asked st)) m m o at o' p
unfolding answer_text call words_text
was_read key st {a} {m} e w ends =
    let same = as_asked st in
    record {
      memory = refl;
      wrote = wrote_as (ap (λ (r : Reading). read_text key (reading_said r)) (e ∙ ap (λ (s : code.Option ℕ). reading key s m.book m.sums) (sym same))
          ∙ sym (append-nil (read_text key (reading_said (reading key (asking (asked st)) m.book m.sums))))) w;
      ends = omega arith;
    }
