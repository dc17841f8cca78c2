-- Ascending lists: what is left of one, and what is taken, is ascending too; and what a walk over neighbours answers.
use Rattle.std.specs.Prelude.{ℕ, zero, suc, ◌+◌, ◌<◌, Bool, true, false, ◌&&◌, List, [], ◌∷◌, ◌≡◌, refl, ltb, length, take, drop, get_or}
use Rattle.std.proofs.Common.{arith, sym}
use Rattle.std.specs.List.{IsAllAdjacentAnswer}
use Rattle.rules.specs.Keys.{above, ascending}
use Rattle.laws.specs.Tests.{and_left, and_right, and_both}
use Rattle.laws.specs.Members.{ascending_rest}

-- What is left of an ascending list is ascending, and so is what is taken of it.
pub ascending_drop : (n : ℕ) (xs : List ℕ) → ascending xs ≡ true → ascending (drop n xs) ≡ true
unfolding ascending
ascending_drop zero xs h = h
ascending_drop (suc n) [] h = refl
ascending_drop (suc n) (x ∷ xs) h = ascending_drop n xs (ascending_rest x xs h)

above_take : (n x : ℕ) (xs : List ℕ) → above x xs ≡ true → above x (take n xs) ≡ true
unfolding above
above_take zero x xs h = refl
above_take (suc n) x [] h = refl
above_take (suc n) x (y ∷ xs) h =
    and_both (ltb x y) (above y (take n xs)) (and_left (ltb x y) (above y xs) h)
    (above_take n y xs (and_right (ltb x y) (above y xs) h))

pub ascending_take : (n : ℕ) (xs : List ℕ) → ascending xs ≡ true → ascending (take n xs) ≡ true
unfolding ascending
ascending_take zero xs h = refl
ascending_take (suc n) [] h = refl
ascending_take (suc n) (x ∷ xs) h = above_take n x xs h

behind : (k : ℕ) → suc k + 1 ≡ suc (k + 1)
behind k = omega arith

and_false : (b : Bool) → (b && false) ≡ false
and_false true = refl
and_false false = refl

-- What the library's walk over neighbours answers.
sorted_above : (x : ℕ) (xs : List ℕ) → ((k : ℕ) (d : ℕ) → k + 1 < length (x ∷ xs) → true ≡ ltb (get_or (x ∷ xs) k d) (get_or (x ∷ xs) (k + 1) d)) → true ≡ above x xs
unfolding above
sorted_above x [] h = refl
sorted_above x (y ∷ ys) h =
    sym (and_both (ltb x y) (above y ys) (sym (h 0 0 (omega arith))) (sym (sorted_above y ys (λ k d l. rw (behind k) at (h (suc k) d (omega arith))))))

unsorted_above : (x : ℕ) (xs : List ℕ) (k : ℕ) → k + 1 < length (x ∷ xs) → ((d : ℕ) → false ≡ ltb (get_or (x ∷ xs) k d) (get_or (x ∷ xs) (k + 1) d)) → false ≡ above x xs
unfolding above
unsorted_above x [] k l h = absurd (omega arith)
unsorted_above x (y ∷ ys) zero l h = rw (← h 0)
unsorted_above x (y ∷ ys) (suc k) l h = rw (← unsorted_above y ys k (omega arith) (λ d. rw (behind k) at (h d))) (sym (and_false (ltb x y)))

pub sorted_ascends : (xs : List ℕ) (answer : Bool) → IsAllAdjacentAnswer (λ x y b. b ≡ ltb x y) xs answer → answer ≡ ascending xs
unfolding ascending
sorted_ascends [] true h = refl
sorted_ascends [] false h = absurd (omega (arith, h.1))
sorted_ascends (x ∷ xs) true h = sorted_above x xs h
sorted_ascends (x ∷ xs) false h = unsorted_above x xs h.0 h.1 h.2
