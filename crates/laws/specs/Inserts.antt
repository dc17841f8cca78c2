-- A newcomer put into a list at a place: how long the list is then, what a test and a map see of it.
use Rattle.std.specs.Prelude.{ℕ, zero, suc, Bool, false, List, [], ◌∷◌, map, ◌≡◌, refl, length, insert}
use Rattle.std.specs.List.{list_any}
use Rattle.std.proofs.Common.{ap}
use Rattle.laws.specs.Tests.{or_left, or_right, or_neither}

module _ {A : Type 0} where
  pub length_insert : (i : ℕ) (x : A) (xs : List A) → length (insert xs i x) ≡ suc (length xs)
  length_insert zero x xs = refl
  length_insert (suc i) x [] = refl
  length_insert (suc i) x (y ∷ ys) = ap suc (length_insert i x ys)

  pub none_insert : (f : A → Bool) (i : ℕ) (x : A) (xs : List A) → f x ≡ false → list_any f xs ≡ false → list_any f (insert xs i x) ≡ false
  none_insert f zero x xs p h = or_neither (f x) (list_any f xs) p h
  none_insert f (suc i) x [] p h = or_neither (f x) false p refl
  none_insert f (suc i) x (y ∷ ys) p h =
      or_neither (f y) (list_any f (insert ys i x)) (or_left (f y) (list_any f ys) h) (none_insert f i x ys p (or_right (f y) (list_any f ys) h))

pub map_insert : {A B : Type 0} (f : A → B) (i : ℕ) (x : A) (xs : List A) → map f (insert xs i x) ≡ insert (map f xs) i (f x)
map_insert f zero x xs = refl
map_insert f (suc i) x [] = refl
map_insert f (suc i) x (y ∷ ys) = ap (λ l. f y ∷ l) (map_insert f i x ys)
