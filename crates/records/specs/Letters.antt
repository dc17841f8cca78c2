-- The letter in front of the fields, and the record that it picks.
use Rattle.std.specs.Prelude.{ℕ, zero, suc, ◌≤◌, ◌<◌, List, [], ◌∷◌, ◌≡◌, refl, eqb, Some, None, length, get_or, take, drop}
use Rattle.std.specs.declared.option.Option as code
use Rattle.std.proofs.Common.{arith, ne_eqb, lt-ltb, le-ltb}
use Rattle.std.proofs.Math.Option.{none}
use Rattle.rules.specs.Bytes.{split, tab_byte}
use Rattle.rules.specs.Records.{unreadable, line_limit, opening_fields, delivery_fields, vote_fields, change_fields, read_fields, by_letter, by_fields, record_of}
use Rattle.laws.specs.Tests as tests
use Rattle.records.specs.Short.{short_record}
use Rattle.records.specs.Kinds.{by_rule}

-- One letter stands in front of other fields; or the line is no record.
abbrev pub LetterOf : code.Option ℕ → List ℕ → Type 0
LetterOf None line = by_rule by_fields (split tab_byte line) ≡ unreadable
LetterOf (Some letter) line = (2 ≤ length line) × (by_rule by_fields (split tab_byte line) ≡ by_rule (by_letter letter) (split tab_byte (drop 2 line)))

-- A letter alone is no record: each kind has a field.
no_fields : (letter : ℕ) → by_letter letter [] ≡ none
unfolding by_letter opening_fields delivery_fields vote_fields change_fields read_fields
no_fields letter =
    tests.split (eqb letter 79) (λ q. rw q)
    (λ q. tests.split (eqb letter 68) (λ r. rw (q, r))
    (λ r. tests.split (eqb letter 86) (λ s. rw (q, r, s))
    (λ s. tests.split (eqb letter 75) (λ t. rw (q, r, s, t))
    (λ t. tests.split (eqb letter 82) (λ u. rw (q, r, s, t, u)) (λ u. rw (q, r, s, t, u))))))

pub letter_alone : (x : List ℕ) → by_rule by_fields (x ∷ []) ≡ unreadable
unfolding by_rule by_fields short_record
letter_alone [] = refl
letter_alone (letter ∷ []) = rw (no_fields letter)
letter_alone (letter ∷ more ∷ rest) = refl

-- What stands in front is a letter, or it is none or more than one.
pub letter_one : (line : List ℕ) (n : ℕ) (fields : List (List ℕ)) → n ≡ 1 → n < length line
    → by_rule by_fields (take n line ∷ fields) ≡ by_rule (by_letter (get_or line 0 0)) fields
unfolding by_rule by_fields
letter_one [] n fields e h = absurd (omega arith)
letter_one (letter ∷ line) n fields e h = rw e

pub letter_other : (line : List ℕ) (n : ℕ) (fields : List (List ℕ)) → (n ≡ 1 → ⊥) → n < length line → by_rule by_fields (take n line ∷ fields) ≡ unreadable
unfolding by_rule by_fields short_record
letter_other line zero fields n h = refl
letter_other [] (suc n) fields d h = absurd (omega arith)
letter_other (letter ∷ []) (suc n) fields d h = absurd (omega arith)
letter_other (letter ∷ more ∷ line) (suc zero) fields d h = absurd (d refl)
letter_other (letter ∷ more ∷ line) (suc (suc n)) fields d h = refl

-- What `first_letter` goes by.
pub ruleset first_letters = (letter_alone, letter_one, letter_other)

-- "A line over 512 bytes without its newline [..] is 14"
pub line_over : (line : List ℕ) → line_limit < length line → short_record (record_of line) ≡ unreadable
unfolding record_of short_record
line_over line h = rw (lt-ltb line_limit (length line) h)

pub line_within : (line : List ℕ) → length line ≤ line_limit → short_record (record_of line) ≡ by_rule by_fields (split tab_byte line)
unfolding record_of by_rule
line_within line h = rw (le-ltb line_limit (length line) h)

-- "The first letter picks the record"
module _ (fields : List (List ℕ)) where
  pub letter_o : by_rule (by_letter 79) fields ≡ by_rule opening_fields fields
  unfolding by_rule by_letter
  letter_o = refl

  pub letter_d : by_rule (by_letter 68) fields ≡ by_rule delivery_fields fields
  unfolding by_rule by_letter
  letter_d = refl

  pub letter_v : by_rule (by_letter 86) fields ≡ by_rule vote_fields fields
  unfolding by_rule by_letter
  letter_v = refl

  pub letter_k : by_rule (by_letter 75) fields ≡ by_rule change_fields fields
  unfolding by_rule by_letter
  letter_k = refl

  pub letter_r : by_rule (by_letter 82) fields ≡ by_rule read_fields fields
  unfolding by_rule by_letter
  letter_r = refl

pub no_letter : (letter : ℕ) (fields : List (List ℕ)) → (letter ≡ 79 → ⊥) → (letter ≡ 68 → ⊥) → (letter ≡ 86 → ⊥) → (letter ≡ 75 → ⊥) → (letter ≡ 82 → ⊥)
    → by_rule (by_letter letter) fields ≡ unreadable
unfolding by_rule by_letter short_record
no_letter letter fields o d v k r = rw (ne_eqb letter 79 o, ne_eqb letter 68 d, ne_eqb letter 86 v, ne_eqb letter 75 k, ne_eqb letter 82 r)

-- What `read_record` goes by.
pub ruleset letters = (line_over, line_within, letter_o, letter_d, letter_v, letter_k, letter_r, no_letter)
