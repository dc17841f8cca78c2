-- 01, "The log as text": bytes, parts of a line, numbers.
use Rattle.std.specs.Prelude.{ℕ, zero, suc, ◌+◌, ◌*◌, ◌-◌, ◌/◌, ◌%◌, Bool, true, false, not, cond, ◌&&◌, List, [], ◌∷◌, ◌++◌, eqb, leb, ltb, ℤ, pos, negsuc}
use Rattle.std.specs.List.{list_all}
use Rattle.std.proofs.Math.Option.{Option, none, some, map}

-- The bytes that have a meaning.
abbrev pub tab_byte : ℕ
tab_byte = 9

abbrev pub newline : ℕ
newline = 10

abbrev pub comma : ℕ
comma = 44

abbrev pub minus : ℕ
minus = 45

abbrev pub zero_digit : ℕ
zero_digit = 48

abbrev pub equals : ℕ
equals = 61

-- "parted by": the parts of some bytes at every c. There is always one, perhaps empty.
abbrev pub onto_first : ℕ → List (List ℕ) → List (List ℕ)
onto_first b [] = (b ∷ []) ∷ []
onto_first b (part ∷ parts) = (b ∷ part) ∷ parts

unfoldable pub split : ℕ → List ℕ → List (List ℕ)
split c [] = [] ∷ []
split c (b ∷ bs) = cond (eqb b c) ([] ∷ split c bs) (onto_first b (split c bs))

-- "decimal numbers": every byte is a digit, read from the left.
unfoldable pub is_digit : ℕ → Bool
is_digit b = leb zero_digit b && leb b 57

unfoldable pub digits_value : ℕ → List ℕ → ℕ
digits_value v [] = v
digits_value v (b ∷ bs) = digits_value (v * 10 + (b - zero_digit)) bs

-- "with no leading zeros": there is a digit, and the first is 0 only where it is the last.
unfoldable pub well_led : List ℕ → Bool
well_led [] = false
well_led (b ∷ []) = true
well_led (b ∷ c ∷ bs) = not (eqb b zero_digit)

-- "a number too large for its field" is unreadable, and so is "anything not of these forms".
unfoldable pub number : ℕ → List ℕ → Option ℕ
number limit bs = cond (well_led bs && list_all is_digit bs && leb (digits_value 0 bs) limit) (some (digits_value 0 bs)) none

-- "value signed 64-bit": a minus may stand first. "`-0` is unreadable."
abbrev pub below_zero : Option ℕ → Option ℤ
below_zero none = none
below_zero (some zero) = none
below_zero (some (suc n)) = some (negsuc n)

unfoldable pub signed : List ℕ → Option ℤ
signed [] = none
signed (b ∷ bs) =
    cond (eqb b minus) (below_zero (number 9_223_372_036_854_775_808 bs)) (map pos (number 9_223_372_036_854_775_807 (b ∷ bs)))

-- A number as text: its decimal digits, the last one last.
unfoldable pub decimal_from : ℕ → ℕ → Bool → List ℕ
decimal_from zero v small = []
decimal_from (suc fuel) v true = (zero_digit + v) ∷ []
decimal_from (suc fuel) v false = decimal_from fuel (v / 10) (ltb (v / 10) 10) ++ (zero_digit + v % 10) ∷ []

unfoldable pub decimal_text : ℕ → List ℕ
decimal_text v = decimal_from (suc v) v (ltb v 10)

unfoldable pub signed_text : ℤ → List ℕ
signed_text (pos n) = decimal_text n
signed_text (negsuc n) = minus ∷ decimal_text (suc n)
