-- What the operations mean: the rules' desk on the state that the lent tables hold, refusals included. With the claims these are demands 1 and 2.
use Rattle.std.specs.Prelude.{ℕ, ◌/◌, ◌≤◌, Bool, true, false, cond, List, [], ◌≡◌, refl, eqb, ltb, ℤ, length, get_or}
use Rattle.std.proofs.Math.Option.{Option, none, some}
use Rattle.std.proofs.Math.Path.{sym}
use Rattle.std.proofs.Common.{ap, arith, eq-eqb, eqb-true, le-ltb, ltb-false}
use Rattle.std.proofs.lemmas.Bool.{eqb-false}
use Rattle.rules.specs.Sizes.{most_waiting}
use Rattle.rules.specs.Ledger.{sizes_fit, opening}
use Rattle.rules.specs.Events as rules
use Rattle.rules.specs.Events.{Event, delivery, vote, change, read, snapshot, take_read, accepted, Step}
use Rattle.rules.specs.Read.{read_at}
use Rattle.rules.specs.Refusals.{first_of, too_little_room, desk_checks, desk}
use Rattle.laws.specs.Tests.{split}
use Rattle.laws.specs.Cuts.{put_nothing}
use Rattle.claims.specs.Refused.{desk_refused, desk_accepted}
use Rattle.tables.specs.Layout.{book_words, sums_words}
use Rattle.tables.specs.View.{view, books_view}
use Rattle.tables.specs.Opened.{opened_view}
use Rattle.tables.specs.Voted.{ballot}
use Rattle.tables.specs.Judged.{lent}
use Rattle.tables.specs.Closed.{words_of}
use Rattle.checking.specs.SoundTables.{sound_tables}
use Rattle.std.specs.Prelude.{Ok, Err}
use Rattle.std.proofs.Common.{Result, ◌∙◌}
use Rattle.std.specs.declared.option.Option as code
use Rattle.refusing.specs.declared.refusals.Refusal.{Refusal}
use Rattle.refusing.specs.Told.{numbered, named}
use Rattle.refusing.specs.Snapshots.{asked}
use Rattle.engine.specs.Named.{desk_number}
use Rattle.engine.specs.Answers.{After, Means, delivered_said, delivered_finishes, voted_said, changed_said, finishes_told, reading_said}
use Rattle.engine.specs.Delivering.{delivery_means}
use Rattle.engine.specs.Voting.{Lent, change_means, vote_means}
use Rattle.refusing.specs.Operands.{number_of, short, lent_number, delivery_number, vote_number, index_of, waiting_identities, change_number, read_number, opening_number}
use Rattle.engine.specs.Operations.{left, delivered_on, delivering, voted_on, voting, changed_on, changing, reading, opened}
use Rattle.refusing.specs.Indexed.{row_of, vote_waits}
use Rattle.refusing.specs.Numbers.{Clear, clear, lent_number_is, unrefused}

-- Tables that are long enough.
pub long_enough : (book : List ℕ) (sums : List ℤ) → book_words ≤ length book → sums_words ≤ length sums → short book sums ≡ false
unfolding short
long_enough book sums long long_sums = rw (le-ltb (length book) book_words long, le-ltb (length sums) sums_words long_sums)

-- A number given, and the rules' number.
some_number : (o : Option ℕ) (n : ℕ) → number_of o ≡ n → (n ≡ 0 → ⊥) → o ≡ some n
some_number none n e z = absurd (z (sym e))
some_number (some m) n e z = ap some e

-- An operation that goes by its number: the desk's refusal, or the event.
module _ {A : Type 0} (said : Result A Refusal → rules.Answer) (count : Result A Refusal → ℕ)
    (says_refused : (r : Refusal) → said (Err r) ≡ rules.refused (numbered r)) (counts_none : (r : Refusal) → count (Err r) ≡ 0) where
  refused_means : (book : List ℕ) (sums : List ℤ) (fin : List ℕ) (n : ℕ) → numbered (named n) ≡ n
      → Means said count fin (left (Err (named n)) book sums fin) (record { answer = rules.refused n; finishes = []; next = view book sums })
  unfolding words_of
  refused_means book sums fin n e =
      record { says = says_refused (named n) ∙ ap rules.refused e; state = refl; told = sym (put_nothing fin 0); counted = counts_none (named n) }

  pub operation_means : (e : Event) (book : List ℕ) (sums : List ℤ) (fin : List ℕ) (r : After (Result A Refusal))
      → (lent_number (length fin) false e (view book sums) ≡ 0 → Means said count fin r (accepted e (view book sums)))
      → Means said count fin
      (cond (eqb (lent_number (length fin) false e (view book sums)) 0) r
      (left (Err (named (lent_number (length fin) false e (view book sums)))) book sums fin))
      (desk (length fin / 2) e (view book sums))
  operation_means e book sums fin r k =
      let s = view book sums in
      let n = lent_number (length fin) false e s in
      split (eqb n 0)
      (λ q. let z = eqb-true n 0 q in
      rw (q, desk_accepted (length fin / 2) e s (unrefused (length fin) e s z)) (k z))
      (λ q. let given = some_number (first_of (desk_checks (length fin / 2) e s)) n (sym (lent_number_is (length fin) e s)) (eqb-false n 0 q) in
      rw (q, desk_refused (length fin / 2) e s given) (refused_means book sums fin n (desk_number (length fin / 2) e s n given)))

-- A finish list of 32 entries has 64 words.
room_of : (words : ℕ) → ltb (words / 2) most_waiting ≡ false → 64 ≤ words
room_of words q = let h = ltb-false (words / 2) most_waiting q in omega arith

lent_tables : (words : ℕ) (e : Event) (book : List ℕ) (sums : List ℤ) (fin : List ℕ) → book_words ≤ length book → sums_words ≤ length sums
    → Clear words e (view book sums) → 64 ≤ length fin → Lent book sums fin
lent_tables words e book sums fin long long_sums c room =
    record { long = long; long_sums = long_sums; room = room; sound = (sound_tables book sums c.is_sound).state }

-- Delivery.
delivered_on_means : (identity set st : ℕ) (reads keys : List ℕ) (amounts : List ℤ) (book : List ℕ) (sums : List ℤ) (fin : List ℕ)
    → book_words ≤ length book → sums_words ≤ length sums → length amounts ≡ length keys
    → lent_number (length fin) false (delivery (lent identity set st reads keys amounts)) (view book sums) ≡ 0
    → Means delivered_said delivered_finishes fin (delivered_on identity set st reads keys amounts book sums fin)
    (accepted (delivery (lent identity set st reads keys amounts)) (view book sums))
unfolding delivered_on too_little_room
delivered_on_means identity set st reads keys amounts book sums fin long long_sums same z =
    let c = clear (length fin) (delivery (lent identity set st reads keys amounts)) (view book sums) z in
    delivery_means identity set st reads keys amounts book sums fin
    (record {
      long = long;
      long_sums = long_sums;
      same = same;
      room = room_of (length fin) c.room;
      sound = (sound_tables book sums c.is_sound).state;
      unrefused = c.allowed;
    })
    _ refl

pub delivering_means : (identity set st : ℕ) (reads keys : List ℕ) (amounts : List ℤ) (book : List ℕ) (sums : List ℤ) (fin : List ℕ)
    → book_words ≤ length book → sums_words ≤ length sums → length amounts ≡ length keys
    → Means delivered_said delivered_finishes fin (delivering identity set st reads keys amounts book sums fin)
    (desk (length fin / 2) (delivery (lent identity set st reads keys amounts)) (view book sums))
unfolding delivering delivery_number
delivering_means identity set st reads keys amounts book sums fin long long_sums same =
    let e = delivery (lent identity set st reads keys amounts) in
    rw (long_enough book sums long long_sums, eq-eqb (length amounts) (length keys) same)
    (operation_means delivered_said delivered_finishes (λ r. refl) (λ r. refl) e book sums fin
    (delivered_on identity set st reads keys amounts book sums fin)
    (delivered_on_means identity set st reads keys amounts book sums fin long long_sums same))

-- Vote.
pub voting_means : (identity p : ℕ) (agrees : Bool) (book : List ℕ) (sums : List ℤ) (fin : List ℕ) → book_words ≤ length book → sums_words ≤ length sums
    → Means voted_said finishes_told fin (voting identity p agrees book sums fin) (desk (length fin / 2) (vote identity p (ballot agrees)) (view book sums))
unfolding voting vote_number voted_on too_little_room
voting_means identity p agrees book sums fin long long_sums =
    let e = vote identity p (ballot agrees) in
    rw (long_enough book sums long long_sums)
    (operation_means voted_said finishes_told (λ r. refl) (λ r. refl) e book sums fin (voted_on identity p agrees book sums fin)
    (λ z. let c = clear (length fin) e (view book sums) z in
    let r = row_of identity book sums (vote_waits identity p (ballot agrees) book sums c.allowed) in
    vote_means book sums fin (lent_tables (length fin) e book sums fin long long_sums c (room_of (length fin) c.room)) identity
    (index_of identity (waiting_identities book)) p agrees r.below r.its c.allowed))

-- Change.
pub changing_means : (k : ℕ) (book : List ℕ) (sums : List ℤ) (fin : List ℕ) → book_words ≤ length book → sums_words ≤ length sums
    → Means changed_said finishes_told fin (changing k book sums fin) (desk (length fin / 2) (change k) (view book sums))
unfolding changing change_number changed_on too_little_room
changing_means k book sums fin long long_sums =
    rw (long_enough book sums long long_sums)
    (operation_means changed_said finishes_told (λ r. refl) (λ r. refl) (change k) book sums fin (changed_on k book sums fin)
    (λ z. let c = clear (length fin) (change k) (view book sums) z in
    change_means book sums fin (lent_tables (length fin) (change k) book sums fin long long_sums c (room_of (length fin) c.room)) k c.allowed))

read_accepted : (key : ℕ) (st : rules.Snapshot) (book : List ℕ) (sums : List ℤ)
    → rules.value (snapshot st (view book sums)) (read_at key (snapshot st (view book sums)) (books_view (get_or book 2 0) book sums))
    ≡ (accepted (read key st) (view book sums)).answer
unfolding accepted take_read view
read_accepted key st book sums = refl

-- Read: the answer is the rules'; nothing is lent to be changed.
pub reading_means : (key : ℕ) (st : code.Option ℕ) (book : List ℕ) (sums : List ℤ) → book_words ≤ length book → sums_words ≤ length sums
    → reading_said (reading key st book sums) ≡ (desk 0 (read key (asked st)) (view book sums)).answer
unfolding reading read_number
reading_means key st book sums long long_sums =
    let e = read key (asked st) in
    let s = view book sums in
    let n = lent_number 0 false e s in
    rw (long_enough book sums long long_sums)
    (split (eqb n 0)
    (λ q. rw (q, desk_accepted 0 e s (unrefused 0 e s (eqb-true n 0 q))) (read_accepted key (asked st) book sums))
    (λ q. let given = some_number (first_of (desk_checks 0 e s)) n (sym (lent_number_is 0 e s)) (eqb-false n 0 q) in
    rw (q, desk_refused 0 e s given) (ap rules.refused (desk_number 0 e s n given))))

-- Opening: the tables then hold the rules' opening, exactly when the sizes fit.
pub opened_means : (partitions own k : ℕ) (book : List ℕ) (sums : List ℤ) → book_words ≤ length book → sums_words ≤ length sums
    → sizes_fit partitions own k ≡ true
    → ((opened partitions own k book sums).answer ≡ Ok tt)
    × (view (opened partitions own k book sums).book (opened partitions own k book sums).sums ≡ opening partitions own k)
unfolding opened opening_number
opened_means partitions own k book sums long long_sums fits =
    rw (long_enough book sums long long_sums, fits) (refl, opened_view book sums partitions own k long long_sums)
