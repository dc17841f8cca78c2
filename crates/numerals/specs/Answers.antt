-- What the readers answer: a value where the rules give one, else none.
use Rattle.std.specs.Prelude.{ℕ, suc, ◌-◌, ◌^◌, ◌≤◌, List, ◌≡◌, ℤ, pos, negsuc, ◌-ℤ◌, Some, None, SomeIff, FitsSigned}
use Rattle.std.specs.Int.{w64}
use Rattle.std.specs.declared.option.Option as code
use Rattle.std.proofs.Math.Option.{Option, some, map}
use Rattle.std.proofs.Common.{sym, ap, ◌∙◌, arith, rules}
use Rattle.std.proofs.lemmas.Int.{ints}
use Rattle.rules.specs.Bytes.{number, below_zero}
use Rattle.laws.specs.Options.{given, some_given, none_given, given_some, given_none}
use Rattle.numerals.specs.Texts.{numeral}

-- A number that was read is within its limit.
pub value_within : (limit : ℕ) (bs : List ℕ) (v : ℕ) → Some v ≡ given (number limit bs) → v ≤ limit
value_within limit bs v e = (numeral limit bs v (given_some (number limit bs) v e)).low

-- A number that was read, with its sign.
pub plain_value : (o : Option ℕ) (v : ℕ) (z : ℤ) → Some v ≡ given o → z ≡ pos v → Some z ≡ given (map pos o)
plain_value o v z e s = some_given (ap (map pos) (given_some o v e) ∙ ap some (sym s))

pub plain_unreadable : (o : Option ℕ) → None ≡ given o → None ≡ given (map pos o)
plain_unreadable o e = none_given (ap (map pos) (given_none o e))

-- A magnitude taken from 0.
pub below_value : (v : ℕ) (r : code.Option ℤ) → (v ≡ 0 → ⊥) → v ≤ 2 ^ 63 → SomeIff r (FitsSigned w64 (pos 0 -ℤ pos v)) (pos 0 -ℤ pos v)
    → r ≡ Some (negsuc (v - 1))
below_value v None n h f = absurd (f (search rules))
below_value v (Some z) n h f = ap Some (omega (arith, ints, f.1))

pub negative_value : (o : Option ℕ) (v : ℕ) (z : ℤ) → Some v ≡ given o → (v ≡ 0 → ⊥) → z ≡ negsuc (v - 1)
    → Some z ≡ given (below_zero o)
negative_value o v z e n s =
    let one : v ≡ suc (v - 1) = omega arith in
    some_given (ap below_zero (given_some o v e ∙ ap some one) ∙ ap some (sym s))

pub negative_zero : (o : Option ℕ) (v : ℕ) → Some v ≡ given o → v ≡ 0 → None ≡ given (below_zero o)
negative_zero o v e z = none_given (ap below_zero (given_some o v e ∙ ap some z))

pub negative_unreadable : (o : Option ℕ) → None ≡ given o → None ≡ given (below_zero o)
negative_unreadable o e = none_given (ap below_zero (given_none o e))
