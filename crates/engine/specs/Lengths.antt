-- Each operation leaves the lent tables and the finish list as long as they were.
use Rattle.std.specs.Prelude.{ℕ, ◌*◌, ◌≤◌, Bool, cond, List, [], ◌∷◌, ◌≡◌, refl, eqb, ℤ, length}
use Rattle.std.proofs.Common.{Result, ap, ◌∙◌, arith, eqb-true}
use Rattle.rules.specs.Ledger.{Entry, Clock, Books}
use Rattle.rules.specs.Closing.{Finish, ready, close, books_after}
use Rattle.laws.specs.Tests.{split}
use Rattle.laws.specs.Cuts.{length_put}
use Rattle.claims.specs.Steps.{close_nil, close_ready, close_rest}
use Rattle.tables.specs.View.{waiting_view, length_waiting, books_view}
use Rattle.tables.specs.Closed.{Desk, entry_words, words_of, close_desk_closes}
use Rattle.tables.specs.Settled.{Ready, closed_desk, settled_book, length_settled, settled_finishes, settled_count}
use Rattle.std.specs.Prelude.{Ok, Err}
use Rattle.rules.specs.Delivery.{ticked}
use Rattle.rules.specs.Events.{with_k}
use Rattle.tables.specs.View.{clock_view}
use Rattle.tables.specs.Voted.{voted_length}
use Rattle.tables.specs.Opened.{opened_book, opened_sums, length_opened, length_opened_sums}
use Rattle.refusing.specs.declared.refusals.Refusal.{Refusal}
use Rattle.refusing.specs.Told.{named}
use Rattle.refusing.specs.Operands.{delivery_number, vote_number, change_number, opening_number, index_of, waiting_identities}
use Rattle.engine.specs.declared.answers.Delivered.{Delivered}
use Rattle.engine.specs.Fates.{fate_of}
use Rattle.engine.specs.Answers.{After, delivered_finishes, finishes_told}
use Rattle.engine.specs.Delivering.{Accepting, delivered_answer, delivered_result, the_fate, desk_at, desk_ready, desk_length, desk_length_sums, desk_finishes}
use Rattle.engine.specs.Voting.{desk_before, voted_desk, settled_result}
use Rattle.engine.specs.Operations.{left, delivered_on, delivering, voted_on, voting, changed_on, changing, opened}
use Rattle.engine.specs.Public.{delivery_accepting, votable, change_readies, opening_long}

pub record SameLengths {A : Type 0} (old : List ℕ) (old_sums : List ℤ) (fin : List ℕ) (r : After A) : Type 0 where
  pub book : length r.book ≡ length old
  pub sums : length r.sums ≡ length old_sums
  pub finishes : length r.finishes ≡ length fin

-- Closing finishes no more than waited.
pub close_few : (c : Clock) (es : List Entry) (b : Books) → length (close c es b).finishes ≤ length es
close_few c [] b = rw (close_nil c b) (omega arith)
close_few c (e ∷ es) b =
    split (ready c e)
    (λ q. let few = close_few c es (books_after c e b) in rw (close_ready c e es b q) (omega arith))
    (λ q. rw (close_rest c e es b q) (omega arith))

pub length_words : (fs : List Finish) → length (words_of fs) ≡ 2 * length fs
unfolding words_of entry_words
length_words [] = refl
length_words (f ∷ fs) = let rest = length_words fs in omega arith

-- A desk settled.
module _ (c : Clock) (d : Desk) (h : Ready c d) where
  settled_sums : length (closed_desk c d).sums ≡ length d.sums
  unfolding closed_desk
  settled_sums = (close_desk_closes c d.waiting d refl h.fit).same_length_sums

  settled_fin : length (closed_desk c d).finishes ≡ length d.finishes
  settled_fin =
      let es = waiting_view d.waiting d.book d.sums in
      let b = books_view d.sc d.book d.sums in
      let few = close_few c es b in
      let waited = length_waiting d.waiting d.book d.sums in
      let words = length_words (close c es b).finishes in
      let room = h.fit.room in
      ap length (settled_finishes c d h) ∙ length_put d.finishes 0 (words_of (close c es b).finishes) (omega arith)

  pub settled_lengths : {A : Type 0} (a : A)
      → SameLengths d.book d.sums d.finishes (record { answer = a; book = settled_book c d; sums = (closed_desk c d).sums; finishes = (closed_desk c d).finishes })
  settled_lengths a = record { book = length_settled c d h; sums = settled_sums; finishes = settled_fin }

  pub settled_few : (closed_desk c d).finished ≤ 32
  settled_few =
      let few = close_few c (waiting_view d.waiting d.book d.sums) (books_view d.sc d.book d.sums) in
      let waited = length_waiting d.waiting d.book d.sums in
      let counted = settled_count c d h in
      let told = h.fit.few_told in
      omega arith

-- An operation that goes by its number.
module _ {A : Type 0} (book : List ℕ) (sums : List ℤ) (fin : List ℕ) where
  by_number : (n : ℕ) (r : After (Result A Refusal)) → (n ≡ 0 → SameLengths book sums fin r)
      → SameLengths book sums fin (cond (eqb n 0) r (left (Err (named n)) book sums fin))
  by_number n r k = split (eqb n 0) (λ q. rw q (k (eqb-true n 0 q))) (λ q. rw q (record { book = refl; sums = refl; finishes = refl }))

module _ (identity set st : ℕ) (reads keys : List ℕ) (amounts : List ℤ) (book : List ℕ) (sums : List ℤ) (fin : List ℕ) where
  delivered_lengths : Accepting identity set st reads keys amounts book sums fin
      → SameLengths book sums fin (delivered_on identity set st reads keys amounts book sums fin)
  unfolding delivered_on delivered_result
  delivered_lengths h =
      let f = the_fate identity set st reads keys amounts book sums fin h in
      let d = desk_at identity set st reads keys amounts book sums fin h f in
      let c = ticked (clock_view book) in
      let same = settled_lengths c d (desk_ready identity set st reads keys amounts book sums fin h f refl) {A = Result Delivered Refusal}
      (Ok (delivered_answer c set (fate_of f) (closed_desk c d).finished)) in
      record {
        book = same.book ∙ desk_length identity set st reads keys amounts book sums fin h f refl;
        sums = same.sums ∙ desk_length_sums identity set st reads keys amounts book sums fin h f refl;
        finishes = same.finishes ∙ ap length (desk_finishes identity set st reads keys amounts book sums fin h f);
      }

  pub delivering_lengths : SameLengths book sums fin (delivering identity set st reads keys amounts book sums fin)
  unfolding delivering
  delivering_lengths =
      let n = delivery_number identity set st reads keys amounts book sums (length fin) in
      by_number book sums fin n (delivered_on identity set st reads keys amounts book sums fin)
      (λ z. delivered_lengths (delivery_accepting identity set st reads keys amounts book sums fin n refl z))

module _ (book : List ℕ) (sums : List ℤ) (fin : List ℕ) where
  pub voting_lengths : (identity p : ℕ) (agrees : Bool) → SameLengths book sums fin (voting identity p agrees book sums fin)
  unfolding voting voted_on settled_result voted_desk
  voting_lengths identity p agrees =
      let n = vote_number identity p agrees book sums (length fin) in
      let i = index_of identity (waiting_identities book) in
      let c = clock_view book in
      let d = voted_desk i p agrees book sums fin in
      by_number book sums fin n (voted_on identity p agrees book sums fin)
      (λ z. let same = settled_lengths c d (votable identity p agrees book sums fin n refl z).ready {A = Result ℕ Refusal} (Ok (closed_desk c d).finished) in
      record { book = same.book ∙ voted_length book i p agrees; sums = same.sums; finishes = same.finishes })

  pub changing_lengths : (k : ℕ) → SameLengths book sums fin (changing k book sums fin)
  unfolding changing changed_on settled_result desk_before
  changing_lengths k =
      let n = change_number k book sums (length fin) in
      let c = with_k k (clock_view book) in
      let d = desk_before book sums fin in
      by_number book sums fin n (changed_on k book sums fin)
      (λ z. settled_lengths c d (change_readies k book sums fin n refl z) {A = Result ℕ Refusal} (Ok (closed_desk c d).finished))

  pub opened_lengths : (partitions own k : ℕ) → SameLengths book sums [] (opened partitions own k book sums)
  unfolding opened
  opened_lengths partitions own k =
      let n = opening_number partitions own k book sums in
      by_number book sums [] n (left (Ok tt) (opened_book book partitions own k) (opened_sums sums) [])
      (λ z. let long = opening_long partitions own k book sums n refl z in
      record {
        book = length_opened book sums partitions own k long.long long.long_sums;
        sums = length_opened_sums book sums partitions own k long.long long.long_sums;
        finishes = refl;
      })

-- No operation finishes more than 32: so many entries the finish list has at least.
module _ {A : Type 0} (count : Result A Refusal → ℕ) (none : (r : Refusal) → count (Err r) ≡ 0) where
  few_by_number : (n : ℕ) (r : After (Result A Refusal)) (book : List ℕ) (sums : List ℤ) (fin : List ℕ) → (n ≡ 0 → count r.answer ≤ 32)
      → count (cond (eqb n 0) r (left (Err (named n)) book sums fin)).answer ≤ 32
  few_by_number n r book sums fin k = split (eqb n 0) (λ q. rw q (k (eqb-true n 0 q))) (λ q. rw (q, none (named n)) (omega arith))

pub delivering_few : (identity set st : ℕ) (reads keys : List ℕ) (amounts : List ℤ) (book : List ℕ) (sums : List ℤ) (fin : List ℕ)
    → delivered_finishes (delivering identity set st reads keys amounts book sums fin).answer ≤ 32
unfolding delivering delivered_on delivered_result
delivering_few identity set st reads keys amounts book sums fin =
    let n = delivery_number identity set st reads keys amounts book sums (length fin) in
    few_by_number delivered_finishes (λ r. refl) n (delivered_on identity set st reads keys amounts book sums fin) book sums fin
    (λ z. let h = delivery_accepting identity set st reads keys amounts book sums fin n refl z in
    let f = the_fate identity set st reads keys amounts book sums fin h in
    settled_few (ticked (clock_view book)) (desk_at identity set st reads keys amounts book sums fin h f)
    (desk_ready identity set st reads keys amounts book sums fin h f refl))

pub voting_few : (identity p : ℕ) (agrees : Bool) (book : List ℕ) (sums : List ℤ) (fin : List ℕ)
    → finishes_told (voting identity p agrees book sums fin).answer ≤ 32
unfolding voting voted_on settled_result
voting_few identity p agrees book sums fin =
    let n = vote_number identity p agrees book sums (length fin) in
    few_by_number finishes_told (λ r. refl) n (voted_on identity p agrees book sums fin) book sums fin
    (λ z. settled_few (clock_view book) (voted_desk (index_of identity (waiting_identities book)) p agrees book sums fin)
    (votable identity p agrees book sums fin n refl z).ready)

pub changing_few : (k : ℕ) (book : List ℕ) (sums : List ℤ) (fin : List ℕ) → finishes_told (changing k book sums fin).answer ≤ 32
unfolding changing changed_on settled_result
changing_few k book sums fin =
    let n = change_number k book sums (length fin) in
    few_by_number finishes_told (λ r. refl) n (changed_on k book sums fin) book sums fin
    (λ z. settled_few (with_k k (clock_view book)) (desk_before book sums fin) (change_readies k book sums fin n refl z))
