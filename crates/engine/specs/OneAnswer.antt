-- "prove that no second answer could satisfy it": whatever two runs of an operation leave, if both meet its contract on the same arguments, they leave the same.
use Rattle.std.specs.Prelude.{ℕ, Bool, List, [], ◌≡◌, ℤ}
use Rattle.std.proofs.Common.{Result, sym, ap, ◌∙◌}
use Rattle.std.specs.declared.option.Option as code
use Rattle.refusing.specs.declared.refusals.Refusal.{Refusal}
use Rattle.engine.specs.declared.answers.Delivered.{Delivered}
use Rattle.engine.specs.declared.answers.Reading.{Reading}
use Rattle.engine.specs.Answers.{After}
use Rattle.engine.specs.Operations.{left, delivering, voting, changing, reading, opened}

-- Two answers are one, with every word and amount of the lent tables.
pub record Same {A : Type 0} (a : A) (book : List ℕ) (sums : List ℤ) (fin : List ℕ) (a' : A) (book' : List ℕ) (sums' : List ℤ) (fin' : List ℕ) : Type 0 where
  pub answers : a ≡ a'
  pub books : book ≡ book'
  pub amounts : sums ≡ sums'
  pub finishes : fin ≡ fin'

module _ {A : Type 0} {a a' : A} {book book' : List ℕ} {sums sums' : List ℤ} {fin fin' : List ℕ} where
  one_answer : (r : After A) → left a book sums fin ≡ r → left a' book' sums' fin' ≡ r → Same a book sums fin a' book' sums' fin'
  one_answer r one other =
      let e : left a book sums fin ≡ left a' book' sums' fin' = one ∙ sym other in
      record {
        answers = ap (λ (x : After A). x.answer) e;
        books = ap (λ (x : After A). x.book) e;
        amounts = ap (λ (x : After A). x.sums) e;
        finishes = ap (λ (x : After A). x.finishes) e;
      }

module _ {book book' : List ℕ} {sums sums' : List ℤ} {fin fin' : List ℕ} (old : List ℕ) (old_sums : List ℤ) (old_fin : List ℕ) where
  pub one_delivery : {a a' : Result Delivered Refusal} (identity set st : ℕ) (reads keys : List ℕ) (amounts : List ℤ)
      → left a book sums fin ≡ delivering identity set st reads keys amounts old old_sums old_fin
      → left a' book' sums' fin' ≡ delivering identity set st reads keys amounts old old_sums old_fin
      → Same a book sums fin a' book' sums' fin'
  one_delivery identity set st reads keys amounts = one_answer (delivering identity set st reads keys amounts old old_sums old_fin)

  pub one_vote : {a a' : Result ℕ Refusal} (identity partition : ℕ) (agrees : Bool)
      → left a book sums fin ≡ voting identity partition agrees old old_sums old_fin
      → left a' book' sums' fin' ≡ voting identity partition agrees old old_sums old_fin
      → Same a book sums fin a' book' sums' fin'
  one_vote identity partition agrees = one_answer (voting identity partition agrees old old_sums old_fin)

  pub one_change : {a a' : Result ℕ Refusal} (k : ℕ)
      → left a book sums fin ≡ changing k old old_sums old_fin
      → left a' book' sums' fin' ≡ changing k old old_sums old_fin
      → Same a book sums fin a' book' sums' fin'
  one_change k = one_answer (changing k old old_sums old_fin)

-- A read is lent nothing that it could change.
pub one_reading : {a a' : Reading} (key : ℕ) (st : code.Option ℕ) (old : List ℕ) (old_sums : List ℤ)
    → a ≡ reading key st old old_sums → a' ≡ reading key st old old_sums → a ≡ a'
one_reading key st old old_sums one other = one ∙ sym other

-- Opening is lent no finish list.
pub one_opening : {a a' : Result (Unit {0}) Refusal} {book book' : List ℕ} {sums sums' : List ℤ} (partitions own k : ℕ) (old : List ℕ) (old_sums : List ℤ)
    → left a book sums [] ≡ opened partitions own k old old_sums
    → left a' book' sums' [] ≡ opened partitions own k old old_sums
    → Same a book sums [] a' book' sums' []
one_opening partitions own k old old_sums = one_answer (opened partitions own k old old_sums)
