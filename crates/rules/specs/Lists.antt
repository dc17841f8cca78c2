-- The tests that the rules are written with, beside those of the library: whether there is something, whether a number is in a list.
use Rattle.std.specs.Prelude.{ℕ, Bool, true, false, List, eqb}
use Rattle.std.specs.List.{list_any}
use Rattle.std.proofs.Math.Option.{Option, none, some}

abbrev pub some_found : {A : Type 0} → Option A → Bool
some_found none = false
some_found (some x) = true

abbrev pub member : ℕ → List ℕ → Bool
member x xs = list_any (eqb x) xs
