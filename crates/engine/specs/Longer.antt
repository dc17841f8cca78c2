-- "A longer lent table is taken": with anything behind lent tables that are long enough, and behind a finish list with room enough, each operation answers
-- the same and leaves the same, with what stands behind still there.
use Rattle.std.specs.Prelude.{ℕ, ◌+◌, ◌-◌, ◌/◌, ◌≤◌, ◌<◌, Bool, false, not, cond, ◌||◌, ◌≡◌, refl, eqb, leb, ℤ, length, Ok, Err}
use mathlib.Core.List.{List, [], ◌++◌}
use Rattle.std.proofs.Common.{Result, ap, ◌∙◌, arith, eqb-true, leb-true, leb-false, le-ltb, length-append}
use Rattle.std.proofs.Math.ListN.{get_or, get_or-append}
use Rattle.std.specs.declared.option.Option as code
use Rattle.rules.specs.Sizes.{most_waiting}
use Rattle.rules.specs.Ledger.{Clock, sizes_fit}
use Rattle.rules.specs.Delivery.{ticked, Fate, abort, join}
use Rattle.rules.specs.Events.{Event, delivery, vote, change, read, Snapshot, at, newest, snapshot, with_k}
use Rattle.rules.specs.Soundness.{sound}
use Rattle.rules.specs.Refusals.{too_little_room}
use Rattle.laws.specs.Tests.{split}
use Rattle.laws.specs.Tabs.{tab, tab_same}
use Rattle.tables.specs.Layout.{book_words, sums_words, waiting_row}
use Rattle.tables.specs.View.{waiting_words, kept_words, books_view, clock_view, view}
use Rattle.tables.specs.NewRow.{first_words}
use Rattle.tables.specs.Judged.{lent, row_fate}
use Rattle.tables.specs.Closed.{Desk}
use Rattle.tables.specs.Settled.{Ready}
use Rattle.tables.specs.Longer.{counter_longer, waiting_words_longer, kept_words_longer, books_longer, clock_longer, view_longer, voted_longer, opened_longer, opened_sums_longer, joined_longer, joined_sums_longer}
use Rattle.tables.specs.LongerDesks.{longer_desk, closed_longer, settled_longer}
use Rattle.tables.specs.Voted.{ballot}
use Rattle.checking.specs.SoundTables.{sound_tables}
use Rattle.refusing.specs.declared.refusals.Refusal.{Refusal}
use Rattle.refusing.specs.Told.{named}
use Rattle.refusing.specs.Snapshots.{asked}
use Rattle.refusing.specs.Operands.{short, lent_number, delivery_number, vote_number, change_number, read_number, opening_number, index_of, waiting_identities}
use Rattle.engine.specs.declared.answers.Reason.{Reason}
use Rattle.engine.specs.Fates.{fate_of}
use Rattle.engine.specs.Answers.{After}
use Rattle.engine.specs.Delivering.{delivery_desk, delivered_answer, delivered_result, the_fate, within, desk_at, desk_ready, deliverable}
use Rattle.engine.specs.Voting.{desk_before, voted_desk, settled_result}
use Rattle.engine.specs.Operations.{left, delivered_on, delivering, voted_on, voting, changed_on, changing, reading, opened}
use Rattle.engine.specs.Meanings.{long_enough}
use Rattle.engine.specs.Public.{delivery_accepting, votable, change_readies, vote_list}

-- What an operation leaves, with more behind each of the three.
abbrev pub widened : {A : Type 0} → List ℕ → List ℤ → List ℕ → After A → After A
widened x y z r = record { answer = r.answer; book = r.book ++ x; sums = r.sums ++ y; finishes = r.finishes ++ z }

-- "A longer lent table is taken": with more behind what is long enough, an operation answers the same and leaves the same, with that behind it.
abbrev pub TakesLonger : {A : Type 0} → (List ℕ → List ℤ → List ℕ → After A) → Type 0
TakesLonger {A} op =
    (book x : List ℕ) (sums y : List ℤ) (fin z : List ℕ) → book_words ≤ length book → sums_words ≤ length sums → 64 ≤ length fin
    → op (book ++ x) (sums ++ y) (fin ++ z) ≡ widened x y z (op book sums fin)

-- A finish list with room enough has it when longer.
room_longer : (words more : ℕ) (e : Event) → 64 ≤ words → too_little_room ((words + more) / 2) e ≡ too_little_room (words / 2) e
unfolding too_little_room
room_longer words more (delivery t) h = rw (le-ltb (words / 2) most_waiting (omega arith), le-ltb ((words + more) / 2) most_waiting (omega arith))
room_longer words more (vote i p b) h = rw (le-ltb (words / 2) most_waiting (omega arith), le-ltb ((words + more) / 2) most_waiting (omega arith))
room_longer words more (change k) h = rw (le-ltb (words / 2) most_waiting (omega arith), le-ltb ((words + more) / 2) most_waiting (omega arith))
room_longer words more (read key st) h = refl

-- More than 32 can't wait in a sound state.
unsound : (book : List ℕ) (sums : List ℤ) → 32 < get_or book 5 0 → sound (view book sums) ≡ false
unsound book sums many =
    split (sound (view book sums)) (λ q. let few = (sound_tables book sums q).few_waiting in absurd (omega arith)) (λ q. q)

module _ (book x : List ℕ) (sums y : List ℤ) (long : book_words ≤ length book) (long_sums : sums_words ≤ length sums) where
  -- The number that refuses is the same.
  sound_longer : 32 < get_or book 5 0 → sound (view (book ++ x) (sums ++ y)) ≡ false
  sound_longer many =
      let same = counter_longer book x sums y long long_sums 5 (omega arith) in
      unsound (book ++ x) (sums ++ y) (rw same many)

  number_longer : (words more : ℕ) (short_lists : Bool) (e : Event) → too_little_room (more / 2) e ≡ too_little_room (words / 2) e
      → lent_number more short_lists e (view (book ++ x) (sums ++ y)) ≡ lent_number words short_lists e (view book sums)
  unfolding lent_number
  number_longer words more short_lists e room =
      rw room
      (split (leb (get_or book 5 0) 32)
      (λ q. rw (view_longer book x sums y long long_sums (leb-true (get_or book 5 0) 32 q)))
      (λ q. let many = leb-false (get_or book 5 0) 32 q in rw (unsound book sums many, sound_longer many)))

  short_longer : short (book ++ x) (sums ++ y) ≡ short book sums
  short_longer =
      rw (long_enough book sums long long_sums)
      (long_enough (book ++ x) (sums ++ y) (omega (arith, length-append book x)) (omega (arith, length-append sums y)))

-- A desk settled.
module _ (x : List ℕ) (y : List ℤ) (z : List ℕ) (c : Clock) (d : Desk) (h : Ready c d) where
  settled_result_longer : settled_result c (longer_desk x y z d) ≡ widened x y z (settled_result c d)
  unfolding settled_result
  settled_result_longer =
      λ i. record {
        answer = Ok (closed_longer x y z c d h i).finished;
        book = settled_longer x y z c d h i;
        sums = (closed_longer x y z c d h i).sums;
        finishes = (closed_longer x y z c d h i).finishes;
      }

  delivered_result_longer : (set : ℕ) (fate : Result ℕ Reason)
      → delivered_result c set fate (longer_desk x y z d) ≡ widened x y z (delivered_result c set fate d)
  unfolding delivered_result
  delivered_result_longer set fate =
      λ i. record {
        answer = Ok (delivered_answer c set fate (closed_longer x y z c d h i).finished);
        book = settled_longer x y z c d h i;
        sums = (closed_longer x y z c d h i).sums;
        finishes = (closed_longer x y z c d h i).finishes;
      }

-- An operation that goes by its number.
by_same_number : {A : Type 0} (book x : List ℕ) (sums y : List ℤ) (fin z : List ℕ) (n more : ℕ) (r s : After (Result A Refusal)) → more ≡ n
    → (n ≡ 0 → s ≡ widened x y z r)
    → cond (eqb more 0) s (left (Err (named more)) (book ++ x) (sums ++ y) (fin ++ z))
    ≡ widened x y z (cond (eqb n 0) r (left (Err (named n)) book sums fin))
by_same_number book x sums y fin z n more r s e k = rw e (split (eqb n 0) (λ q. rw q (k (eqb-true n 0 q))) (λ q. rw q))

module _ (book x : List ℕ) (sums y : List ℤ) (fin z : List ℕ) (long : book_words ≤ length book) (long_sums : sums_words ≤ length sums)
    (room : 64 ≤ length fin) where
  room_same : (e : Event) → too_little_room (length (fin ++ z) / 2) e ≡ too_little_room (length fin / 2) e
  room_same e = rw (length-append fin z) (room_longer (length fin) (length z) e room)

  -- Change.
  changed_longer : (k : ℕ) → changing k (book ++ x) (sums ++ y) (fin ++ z) ≡ widened x y z (changing k book sums fin)
  unfolding changing changed_on change_number desk_before
  changed_longer k =
      let d = desk_before book sums fin in
      let number = ap (λ (b : Bool). lent_number (length (fin ++ z)) b (change k) (view (book ++ x) (sums ++ y))) (short_longer book x sums y long long_sums)
      ∙ number_longer book x sums y long long_sums (length fin) (length (fin ++ z)) (short book sums) (change k) (room_same (change k)) in
      by_same_number book x sums y fin z _ _ _ _ number
      (λ none. rw (clock_longer book x sums y long long_sums, counter_longer book x sums y long long_sums 2 (omega arith), counter_longer book x sums y long long_sums 5 (omega arith))
      (settled_result_longer x y z (with_k k (clock_view book)) d (change_readies k book sums fin _ refl none)))

  -- Vote.
  identities_longer : get_or book 5 0 ≤ 32 → waiting_identities (book ++ x) ≡ waiting_identities book
  unfolding waiting_identities
  identities_longer few =
      ap (λ (n : ℕ). tab n (λ i. get_or (book ++ x) (waiting_row i) 0)) (counter_longer book x sums y long long_sums 5 (omega arith))
      ∙ tab_same (get_or book 5 0) (λ i. get_or (book ++ x) (waiting_row i) 0) (λ i. get_or book (waiting_row i) 0)
      (λ i low. get_or-append book x 0 (waiting_row i) (omega arith))

  voted_desk_longer : (i p : ℕ) (agrees : Bool) → i < 32
      → voted_desk i p agrees (book ++ x) (sums ++ y) (fin ++ z) ≡ longer_desk x y z (voted_desk i p agrees book sums fin)
  unfolding voted_desk
  voted_desk_longer i p agrees low =
      rw (counter_longer book x sums y long long_sums 2 (omega arith), counter_longer book x sums y long long_sums 5 (omega arith), voted_longer book x sums y long long_sums i p agrees low)

  vote_longer : (identity p : ℕ) (agrees : Bool) → voting identity p agrees (book ++ x) (sums ++ y) (fin ++ z) ≡ widened x y z (voting identity p agrees book sums fin)
  unfolding voting voted_on vote_number
  vote_longer identity p agrees =
      let e = vote identity p (ballot agrees) in
      let i = index_of identity (waiting_identities book) in
      let number = ap (λ (b : Bool). lent_number (length (fin ++ z)) b e (view (book ++ x) (sums ++ y))) (short_longer book x sums y long long_sums)
      ∙ number_longer book x sums y long long_sums (length fin) (length (fin ++ z)) (short book sums) e (room_same e) in
      by_same_number book x sums y fin z _ _ _ _ number
      (λ none. let v = votable identity p agrees book sums fin _ refl none in
      rw (identities_longer (vote_list identity p agrees book sums fin _ refl none), clock_longer book x sums y long long_sums, voted_desk_longer i p agrees v.row)
      (settled_result_longer x y z (clock_view book) (voted_desk i p agrees book sums fin) v.ready))

  -- Delivery.
  fate_longer : (own dc sc n set st : ℕ) (reads keys : List ℕ) → n ≤ 32 → row_fate own dc sc n set st reads keys (book ++ x) ≡ row_fate own dc sc n set st reads keys book
  unfolding row_fate
  fate_longer own dc sc n set st reads keys few =
      rw (
        tab_same (sc - st) (λ j. kept_words (book ++ x) (sc - j)) (λ j. kept_words book (sc - j)) (λ j low. kept_words_longer book x sums y long long_sums (sc - j)),
        tab_same n (waiting_words (book ++ x)) (waiting_words book) (λ i low. waiting_words_longer book x sums y long long_sums i (omega arith)),
      )

  module _ (identity set st : ℕ) (reads keys : List ℕ) (amounts : List ℤ) where
    delivery_desk_longer : (f : Fate) (rt : ℕ) → get_or book 5 0 < 32 → ((i : ℕ) → f ≡ join i → i ≤ get_or book 5 0)
        → length reads ≤ 8 → length keys ≤ 8 → length amounts ≡ length keys
        → delivery_desk f identity set st rt reads keys amounts (book ++ x) (sums ++ y) (fin ++ z)
        ≡ longer_desk x y z (delivery_desk f identity set st rt reads keys amounts book sums fin)
    unfolding delivery_desk
    delivery_desk_longer (abort reason) rt open_list within few_reads few_keys same =
        rw (counter_longer book x sums y long long_sums 2 (omega arith), counter_longer book x sums y long long_sums 5 (omega arith))
    delivery_desk_longer (join i) rt open_list within few_reads few_keys same =
        let n = get_or book 5 0 in
        let first = first_words identity set st rt reads keys in
        let low = within i refl in
        rw (
          counter_longer book x sums y long long_sums 2 (omega arith),
          counter_longer book x sums y long long_sums 5 (omega arith),
          joined_longer book x sums y long long_sums n i first reads keys amounts open_list low refl few_reads few_keys same,
          joined_sums_longer book x sums y long long_sums n i first reads keys amounts open_list low refl few_reads few_keys same,
        )

    delivery_longer : delivering identity set st reads keys amounts (book ++ x) (sums ++ y) (fin ++ z)
        ≡ widened x y z (delivering identity set st reads keys amounts book sums fin)
    unfolding delivering delivered_on delivery_number
    delivery_longer =
        let e = delivery (lent identity set st reads keys amounts) in
        let lists = not (eqb (length amounts) (length keys)) in
        let number = ap (λ (b : Bool). lent_number (length (fin ++ z)) (b || lists) e (view (book ++ x) (sums ++ y))) (short_longer book x sums y long long_sums)
        ∙ number_longer book x sums y long long_sums (length fin) (length (fin ++ z)) (short book sums || lists) e (room_same e) in
        by_same_number book x sums y fin z _ _ _ _ number
        (λ none. let h = delivery_accepting identity set st reads keys amounts book sums fin _ refl none in
        let ok = deliverable identity set st reads keys amounts book sums h.unrefused in
        let open_list = ok.list_open in
        let c = ticked (clock_view book) in
        let f = the_fate identity set st reads keys amounts book sums fin h in
        rw (
          clock_longer book x sums y long long_sums,
          counter_longer book x sums y long long_sums 2 (omega arith),
          counter_longer book x sums y long long_sums 5 (omega arith),
          fate_longer c.own c.dc (get_or book 2 0) (get_or book 5 0) set st reads keys (omega arith),
          delivery_desk_longer f (c.dc + c.k) open_list (within identity set st reads keys amounts book sums fin h) ok.few_reads ok.few_keys h.same,
        )
        (delivered_result_longer x y z c (desk_at identity set st reads keys amounts book sums fin h f)
        (desk_ready identity set st reads keys amounts book sums fin h f refl) set (fate_of f)))

pub delivering_longer : (identity set st : ℕ) (reads keys : List ℕ) (amounts : List ℤ) → TakesLonger (delivering identity set st reads keys amounts)
delivering_longer identity set st reads keys amounts =
    λ book x sums y fin z long long_sums room. delivery_longer book x sums y fin z long long_sums room identity set st reads keys amounts

pub voting_longer : (identity p : ℕ) (agrees : Bool) → TakesLonger (voting identity p agrees)
voting_longer identity p agrees = λ book x sums y fin z long long_sums room. vote_longer book x sums y fin z long long_sums room identity p agrees

pub changing_longer : (k : ℕ) → TakesLonger (changing k)
changing_longer k = λ book x sums y fin z long long_sums room. changed_longer book x sums y fin z long long_sums room k

-- A read and an opening are lent no finish list.
module _ (book x : List ℕ) (sums y : List ℤ) (long : book_words ≤ length book) (long_sums : sums_words ≤ length sums) where
  snapshot_longer : (st : Snapshot) → snapshot st (view (book ++ x) (sums ++ y)) ≡ snapshot st (view book sums)
  unfolding snapshot view books_view
  snapshot_longer (at st) = refl
  snapshot_longer newest = counter_longer book x sums y long long_sums 2 (omega arith)

  pub reading_longer : (key : ℕ) (st : code.Option ℕ) → reading key st (book ++ x) (sums ++ y) ≡ reading key st book sums
  unfolding reading read_number
  reading_longer key st =
      rw (
        short_longer book x sums y long long_sums,
        number_longer book x sums y long long_sums 0 0 (short book sums) (read key (asked st)) refl,
        snapshot_longer (asked st),
        counter_longer book x sums y long long_sums 2 (omega arith),
        books_longer book x sums y long long_sums (get_or book 2 0),
      )

  pub opening_longer : (partitions own k : ℕ) → opened partitions own k (book ++ x) (sums ++ y) ≡ widened x y [] (opened partitions own k book sums)
  unfolding opened opening_number
  opening_longer partitions own k =
      rw (short_longer book x sums y long long_sums, opened_longer book x sums y long long_sums partitions own k, opened_sums_longer book x sums y long long_sums)
      (split (short book sums || not (sizes_fit partitions own k)) (λ q. rw q) (λ q. rw q))
