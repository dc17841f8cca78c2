-- The number of the first check that holds, as a chain of tests.
use Rattle.std.specs.Prelude.{ℕ, cond, List, [], ◌∷◌, ◌≡◌, refl}
use Rattle.rules.specs.Refusals.{Check, first_of}
use Rattle.laws.specs.Tests.{split}
use Rattle.refusing.specs.Operands.{number_of}

abbrev pub chain : List Check → ℕ
chain [] = 0
chain (c ∷ cs) = cond c.holds c.number (chain cs)

pub first_chain : (cs : List Check) → number_of (first_of cs) ≡ chain cs
unfolding first_of
first_chain [] = refl
first_chain (c ∷ cs) = split c.holds (λ q. rw q) (λ q. rw q (first_chain cs))
