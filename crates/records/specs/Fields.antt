-- Fields of one byte: the dash, and a vote's letter.
use Rattle.std.specs.Prelude.{ℕ, true, false, List, [], ◌∷◌, ◌≡◌, refl, length, get_or}
use Rattle.std.proofs.Common.{arith, eq-eqb, ne_eqb}
use Rattle.std.proofs.Math.Option.{none, some}
use Rattle.rules.specs.Partitions.{aye, nay}
use Rattle.rules.specs.Bytes.{minus}
use Rattle.rules.specs.Records.{is_dash, a_ballot}

-- "`-` for an empty list", and for SC.
pub dash_alone : (s : List ℕ) → length s ≡ 1 → get_or s 0 0 ≡ minus → is_dash s ≡ true
dash_alone [] h e = absurd (omega arith)
dash_alone (b ∷ []) h e = eq-eqb b minus e
dash_alone (b ∷ c ∷ bs) h e = absurd (omega arith)

pub dash_other : (s : List ℕ) → (get_or s 0 0 ≡ minus → ⊥) → is_dash s ≡ false
dash_other [] h = refl
dash_other (b ∷ []) h = ne_eqb b minus h
dash_other (b ∷ c ∷ bs) h = refl

pub dash_longer : (s : List ℕ) → (length s ≡ 1 → ⊥) → is_dash s ≡ false
dash_longer [] h = refl
dash_longer (b ∷ []) h = absurd (h refl)
dash_longer (b ∷ c ∷ bs) h = refl

pub ruleset dashes = (dash_alone, dash_other, dash_longer)

-- "Y or N"
pub ballot_yes : (s : List ℕ) → length s ≡ 1 → get_or s 0 0 ≡ 89 → a_ballot s ≡ some aye
unfolding a_ballot
ballot_yes [] h e = absurd (omega arith)
ballot_yes (b ∷ []) h e = rw (eq-eqb b 89 e)
ballot_yes (b ∷ c ∷ bs) h e = absurd (omega arith)

pub ballot_no : (s : List ℕ) → length s ≡ 1 → get_or s 0 0 ≡ 78 → a_ballot s ≡ some nay
unfolding a_ballot
ballot_no [] h e = absurd (omega arith)
ballot_no (b ∷ []) h e = rw e
ballot_no (b ∷ c ∷ bs) h e = absurd (omega arith)

pub ballot_other : (s : List ℕ) → length s ≡ 1 → (get_or s 0 0 ≡ 89 → ⊥) → (get_or s 0 0 ≡ 78 → ⊥) → a_ballot s ≡ none
unfolding a_ballot
ballot_other [] h y n = refl
ballot_other (b ∷ []) h y n = rw (ne_eqb b 89 y, ne_eqb b 78 n)
ballot_other (b ∷ c ∷ bs) h y n = refl

pub ballot_long : (s : List ℕ) → (length s ≡ 1 → ⊥) → a_ballot s ≡ none
unfolding a_ballot
ballot_long [] h = refl
ballot_long (b ∷ []) h = absurd (h refl)
ballot_long (b ∷ c ∷ bs) h = refl

pub ruleset ballots = (ballot_yes, ballot_no, ballot_other, ballot_long)
