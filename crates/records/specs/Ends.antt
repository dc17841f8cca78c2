-- Where the parts of a line end: at the next byte that parts them, or at the end of the line.
use Rattle.std.specs.Prelude.{ℕ, ◌+◌, ◌-◌, ◌≤◌, ◌<◌, Bool, true, false, List, [], ◌∷◌, ◌≡◌, refl, eqb, Some, None, length, take, drop}
use Rattle.std.specs.declared.option.Option as code
use Rattle.std.proofs.Common.{arith, eqb-true, length-drop, take_all}
use Rattle.std.proofs.lemmas.Bool.{eqb-false}
use Rattle.rules.specs.Bytes.{onto_first, split}
use Rattle.laws.specs.Tests as tests
use Rattle.numerals.specs.Parts.{until, split_at_find, split_no_find}

-- One part, and no more.
abbrev pub is_one : List (List ℕ) → Bool
is_one [] = false
is_one (part ∷ []) = true
is_one (part ∷ next ∷ parts) = false

-- The part of the line that starts at a place and is the last one.
abbrev pub LastFrom : ℕ → List ℕ → ℕ → Type 0
LastFrom c line from = split c (drop from line) ≡ take (length line - from) (drop from line) ∷ []

-- The part that starts at a place ends at e, and another one stands behind it; or it is the last.
abbrev pub EndsAt : code.Option ℕ → ℕ → List ℕ → ℕ → Type 0
EndsAt None c line from = LastFrom c line from
EndsAt (Some e) c line from = (from ≤ e) × (e < length line) × (split c (drop from line) ≡ take (e - from) (drop from line) ∷ split c (drop (e + 1) line))

-- Whether it is the last.
abbrev pub IsLast : Bool → ℕ → List ℕ → ℕ → Type 0
IsLast true c line from = LastFrom c line from
IsLast false c line from = is_one (split c (drop from line)) ≡ false

-- There is always a part more behind a byte that parts.
joined : (b : ℕ) (part : List ℕ) (parts : List (List ℕ)) → is_one (part ∷ onto_first b parts) ≡ false
joined b part [] = refl
joined b part (first ∷ rest) = refl

pub several : (c : ℕ) (bs part : List ℕ) → is_one (part ∷ split c bs) ≡ false
unfolding split
several c [] part = refl
several c (b ∷ bs) part = tests.split (eqb b c) (λ q. rw q) (λ q. rw q (joined b part (split c bs)))

-- What a search for the end of a part finds.
module _ (c : ℕ) (line : List ℕ) (from e : ℕ) (h : (e ≡ from + until c (drop from line)) × (e ≤ length line)) where
  pub end_found : (e ≡ length line → ⊥) → EndsAt (Some e) c line from
  end_found n = (omega arith, omega arith, split_at_find c line from e h.0 (omega arith))

  whole : take (length line - from) (drop from line) ≡ drop from line
  whole = let long = length-drop from line in take_all (length line - from) (drop from line) (omega arith)

  pub no_end_found : e ≡ length line → EndsAt None c line from
  no_end_found n = rw whole (split_no_find c line from e h.0 (omega arith))

  pub last_found : IsLast (eqb e (length line)) c line from
  last_found =
      tests.split (eqb e (length line)) (λ q. rw q (no_end_found (eqb-true e (length line) q)))
      (λ q. rw q (rw (end_found (eqb-false e (length line) q)).2 (several c (drop (e + 1) line) (take (e - from) (drop from line)))))

-- What `part_end` and `is_last` go by.
pub ruleset ends = (end_found, no_end_found, last_found)
