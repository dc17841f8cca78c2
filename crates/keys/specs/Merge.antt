-- Two ascending lists walked side by side: what they share, by what is shared behind the smaller of their first keys.
use Rattle.std.specs.Prelude.{ℕ, ◌<◌, true, false, List, [], ◌∷◌, ◌≡◌, refl, ltb, length}
use Rattle.std.specs.Prelude.{Some, None, is_some}
use Rattle.std.proofs.Math.Option.{Option, none, some}
use borrow.Author.Tests.{ltb-true, lt-ltb, eq-eqb, ne_eqb}
use native.Mathlib.Omega.{arith}
use Rattle.rules.specs.Lists.{member, some_found}
use Rattle.rules.specs.Keys.{above, ascending, shared, meet}
use Rattle.laws.specs.Tests.{split, and_left, and_right, and_both}
use Rattle.laws.specs.Members.{member_exactly, above_larger}
use Rattle.laws.specs.Options.{given}

-- A key that a list stands above isn't in it: it is passed, in front of either list.
member_above : (x : ℕ) (ys : List ℕ) → above x ys ≡ true → member x ys ≡ false
member_above x ys h =
    split (member x ys)
    (λ q. let l : x < x = above_larger x ys h x ((member_exactly x ys).0 q) in absurd (omega arith))
    (λ q. q)

pass_one : (x : ℕ) (xs ys : List ℕ) → above x ys ≡ true → shared (x ∷ xs) ys ≡ shared xs ys
unfolding shared
pass_one x xs ys h = rw (member_above x ys h)

-- What stands above a key stands above a smaller one.
above_lower : (x y : ℕ) (ys : List ℕ) → x < y → above y ys ≡ true → above x ys ≡ true
unfolding above
above_lower x y [] l h = refl
above_lower x y (z ∷ ys) l h =
    let m : y < z = ltb-true y z (and_left (ltb y z) (above z ys) h) in
    and_both (ltb x z) (above z ys) (lt-ltb x z (omega arith)) (and_right (ltb y z) (above z ys) h)

pass_other : (y : ℕ) (xs ys : List ℕ) → above y xs ≡ true → shared xs (y ∷ ys) ≡ shared xs ys
unfolding shared above
pass_other y [] ys h = refl
pass_other y (x ∷ xs) ys h =
    let l : y < x = ltb-true y x (and_left (ltb y x) (above x xs) h) in
    rw (ne_eqb x y (λ e. omega arith), pass_other y xs ys (above_lower y x xs l (and_right (ltb y x) (above x xs) h)))

-- A smaller key stands below all of an ascending list.
above_first : (x y : ℕ) (ys : List ℕ) → x < y → above y ys ≡ true → above x (y ∷ ys) ≡ true
unfolding above
above_first x y ys l a = and_both (ltb x y) (above y ys) (lt-ltb x y l) a

shared_nothing : (xs : List ℕ) → shared xs [] ≡ none
unfolding shared
shared_nothing [] = refl
shared_nothing (x ∷ xs) = shared_nothing xs

is_given : (found : Option ℕ) → is_some (given found) ≡ some_found found
is_given none = refl
is_given (some x) = refl

-- Nothing is shared with an empty list.
pub shared_end : (xs ys : List ℕ) → length xs ≡ 0 → None ≡ given (shared xs ys)
unfolding shared
shared_end [] ys e = refl
shared_end (x ∷ xs) ys e = absurd (omega arith)

pub shared_end_other : (xs ys : List ℕ) → length ys ≡ 0 → None ≡ given (shared xs ys)
shared_end_other xs [] e = rw (shared_nothing xs)
shared_end_other xs (y ∷ ys) e = absurd (omega arith)

-- The three ways on, with the first key of each list in hand.
module _ (x y : ℕ) {xs ys ours theirs : List ℕ} (one : ours ≡ x ∷ xs) (other : theirs ≡ y ∷ ys) where
  pub shared_met : x ≡ y → Some x ≡ given (shared ours theirs)
  unfolding shared
  shared_met e = rw (one, other, eq-eqb x y e)

  pub shared_one : ascending theirs ≡ true → x < y → shared ours theirs ≡ shared xs theirs
  unfolding ascending
  shared_one a h = rw (one, other) (pass_one x xs (y ∷ ys) (above_first x y ys h (rw other at a)))

  pub shared_other : ascending ours ≡ true → y < x → shared ours theirs ≡ shared ours ys
  unfolding ascending
  shared_other a h = rw (one, other) (pass_other y (x ∷ xs) ys (above_first y x xs h (rw one at a)))

-- Two lists meet exactly where they share a key.
pub given_meets : (xs ys : List ℕ) → is_some (given (shared xs ys)) ≡ meet xs ys
unfolding meet
given_meets xs ys = is_given (shared xs ys)
