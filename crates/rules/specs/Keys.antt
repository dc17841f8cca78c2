-- Lists of keys: ascending, within their limits, and what two of them share.
use Rattle.std.specs.Prelude.{ℕ, Bool, true, not, cond, ◌&&◌, ◌||◌, List, [], ◌∷◌, leb, ltb, length}
use Rattle.std.specs.List.{list_any}
use Rattle.std.proofs.Math.Option.{Option, none, some}
use Rattle.rules.specs.Lists.{member, some_found}
use Rattle.rules.specs.Sizes.{keys, most_keys}

-- "strictly ascending": each key is below the one after it.
unfoldable pub above : ℕ → List ℕ → Bool
above x [] = true
above x (y ∷ ys) = ltb x y && above y ys

unfoldable pub ascending : List ℕ → Bool
ascending [] = true
ascending (x ∷ xs) = above x xs

-- "a key over 1,023"
abbrev pub bad_key : ℕ → Bool
bad_key x = leb keys x

-- "more than 8 keys"
abbrev pub too_many : List ℕ → Bool
too_many xs = ltb most_keys (length xs)

-- "a key over 1,023; [..] keys not strictly ascending"
unfoldable pub bad_keys : List ℕ → Bool
bad_keys xs = list_any bad_key xs || not (ascending xs)

-- "every stored set is within its limits and ascending"
unfoldable pub good_set : List ℕ → Bool
good_set xs = not (too_many xs) && not (bad_keys xs)

-- The smallest key of one ascending list that the other holds too.
unfoldable pub shared : List ℕ → List ℕ → Option ℕ
shared [] ys = none
shared (x ∷ xs) ys = cond (member x ys) (some x) (shared xs ys)

-- Two lists have a key in common.
unfoldable pub meet : List ℕ → List ℕ → Bool
meet xs ys = some_found (shared xs ys)
