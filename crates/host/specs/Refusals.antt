-- "Every refusal returns its number alone, finishes nothing, leaves DC and all lent memory untouched": what C finds where the number isn't 0. And when tables are too short.
use Rattle.std.specs.Prelude.{ℕ, ◌/◌, Bool, true, false, not, cond, ◌||◌, List, [], ◌≡◌, refl, eqb, ltb, ℤ, length, Ok, Err}
use Rattle.std.proofs.Common.{Result, ap, ◌∙◌}
use Rattle.std.specs.declared.option.Option as code
use Rattle.rules.specs.Sizes.{most_waiting}
use Rattle.rules.specs.Ledger.{sizes_fit}
use Rattle.rules.specs.Refusals.{too_little_room}
use Rattle.laws.specs.Tests.{split}
use Rattle.refusing.specs.declared.refusals.Refusal.{Refusal}
use Rattle.refusing.specs.Told.{named, told}
use Rattle.refusing.specs.Operands.{short, lent_number, delivery_number, vote_number, change_number, read_number, opening_number}
use Rattle.engine.specs.Answers.{After}
use Rattle.engine.specs.Delivering.{delivered_result}
use Rattle.engine.specs.Voting.{settled_result}
use Rattle.engine.specs.Operations.{left, opened, delivered_on, delivering, voted_on, voting, changed_on, changing, reading}
use Rattle.host.specs.Faces.{flagged, delivery_refused, settling_refused, read_refused, delivered_face, settled_face, reading_face}
use Rattle.host.specs.Left.{faced}

-- An operation goes by its number: taken, with the number 0, or refused.
by_number : {A B : Type 0} (face : Result A Refusal → B) (number : B → ℕ) (alone : ℕ → B)
    → ((a : A) → number (face (Ok a)) ≡ 0) → ((r : Refusal) → face (Err r) ≡ alone (number (face (Err r))))
    → (is_taken : Bool) (a : A) (taken : After (Result A Refusal)) → taken.answer ≡ Ok a → (r : Refusal) (book : List ℕ) (sums : List ℤ) (fin : List ℕ)
    → let after = faced face (cond is_taken taken (left (Err r) book sums fin)) in
    (number after.answer ≡ 0 → ⊥) → after ≡ left (alone (number after.answer)) book sums fin
by_number face number alone of_taken of_refused true a taken e r book sums fin some = absurd (some (ap (λ x. number (face x)) e ∙ of_taken a))
by_number face number alone of_taken of_refused false a taken e r book sums fin some = ap (λ b. left b book sums fin) (of_refused r)

module _ (book : List ℕ) (sums : List ℤ) where
  module _ (fin : List ℕ) where
    module _ (identity set st : ℕ) (reads keys : List ℕ) (amounts : List ℤ) where
      pub refused_delivery : let after = faced delivered_face (delivering identity set st reads keys amounts book sums fin) in
          (after.answer.refusal ≡ 0 → ⊥) → after ≡ left (delivery_refused after.answer.refusal) book sums fin
      unfolding delivering delivered_on delivered_result
      refused_delivery =
          by_number delivered_face (λ d. d.refusal) delivery_refused (λ a. refl) (λ r. refl)
          (eqb (delivery_number identity set st reads keys amounts book sums (length fin)) 0) _
          (delivered_on identity set st reads keys amounts book sums fin) refl (named (delivery_number identity set st reads keys amounts book sums (length fin)))
          book sums fin

      -- "15 and 13, in that order", of keys and amounts too whose numbers differ.
      pub short_delivery : (short book sums || not (eqb (length amounts) (length keys))) ≡ true
          → faced delivered_face (delivering identity set st reads keys amounts book sums fin)
          ≡ left (delivery_refused (cond (ltb (length fin / 2) most_waiting) 15 13)) book sums fin
      unfolding delivering delivery_number lent_number too_little_room
      short_delivery q = split (ltb (length fin / 2) most_waiting) (λ r. rw (q, r)) (λ r. rw (q, r))

    module _ (identity partition agrees : ℕ) where
      pub refused_vote : let after = faced settled_face (voting identity partition (flagged agrees) book sums fin) in
          (after.answer.refusal ≡ 0 → ⊥) → after ≡ left (settling_refused after.answer.refusal) book sums fin
      unfolding voting voted_on settled_result
      refused_vote =
          by_number settled_face (λ s. s.refusal) settling_refused (λ a. refl) (λ r. refl)
          (eqb (vote_number identity partition (flagged agrees) book sums (length fin)) 0) _
          (voted_on identity partition (flagged agrees) book sums fin) refl (named (vote_number identity partition (flagged agrees) book sums (length fin)))
          book sums fin

      pub short_vote : short book sums ≡ true → faced settled_face (voting identity partition (flagged agrees) book sums fin)
          ≡ left (settling_refused (cond (ltb (length fin / 2) most_waiting) 15 13)) book sums fin
      unfolding voting vote_number lent_number too_little_room
      short_vote q = split (ltb (length fin / 2) most_waiting) (λ r. rw (q, r)) (λ r. rw (q, r))

    module _ (k : ℕ) where
      pub refused_change : let after = faced settled_face (changing k book sums fin) in
          (after.answer.refusal ≡ 0 → ⊥) → after ≡ left (settling_refused after.answer.refusal) book sums fin
      unfolding changing changed_on settled_result
      refused_change =
          by_number settled_face (λ s. s.refusal) settling_refused (λ a. refl) (λ r. refl) (eqb (change_number k book sums (length fin)) 0) _
          (changed_on k book sums fin) refl (named (change_number k book sums (length fin))) book sums fin

      pub short_change : short book sums ≡ true → faced settled_face (changing k book sums fin)
          ≡ left (settling_refused (cond (ltb (length fin / 2) most_waiting) 15 13)) book sums fin
      unfolding changing change_number lent_number too_little_room
      short_change q = split (ltb (length fin / 2) most_waiting) (λ r. rw (q, r)) (λ r. rw (q, r))

  pub refused_opening : (partitions own k : ℕ) → let after = faced told (opened partitions own k book sums) in
      (after.answer ≡ 0 → ⊥) → after ≡ left after.answer book sums []
  unfolding opened
  refused_opening partitions own k =
      by_number told (λ n. n) (λ n. n) (λ a. refl) (λ r. refl) (eqb (opening_number partitions own k book sums) 0) _ (left (Ok tt) _ _ []) refl
      (named (opening_number partitions own k book sums)) book sums []

  -- "opening: sizes outside the table [..] a lent table too short"
  pub unfit_opening : (partitions own k : ℕ) → (short book sums || not (sizes_fit partitions own k)) ≡ true
      → faced told (opened partitions own k book sums) ≡ left 13 book sums []
  unfolding opened opening_number
  unfit_opening partitions own k q = rw q

  pub short_read : (key : ℕ) (st : code.Option ℕ) → short book sums ≡ true → reading_face (reading key st book sums) ≡ read_refused 13
  unfolding reading read_number lent_number too_little_room
  short_read key st q = rw q
