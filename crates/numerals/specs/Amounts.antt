-- Signed 64-bit values and their texts: where the sign stands, what is written is read back, and a value has one text.
use Rattle.std.specs.Prelude.{ℕ, zero, suc, ◌-◌, ◌^◌, ◌≤◌, ◌<◌, Bool, true, false, List, [], ◌∷◌, ◌≡◌, refl, eqb, ℤ, pos, negsuc, nat_abs, length, take, drop, get_or}
use Rattle.std.specs.List.{list_all}
use Rattle.std.proofs.Common.{true≢false, sym, ap, ap₂, ◌∙◌, eq-eqb, ne_eqb, eqb-true, le-ltb, arith, take_all}
use Rattle.std.proofs.lemmas.Bool.{false≢true}
use Rattle.std.proofs.Math.Option.{Option, none, some, map}
use Rattle.std.specs.Int.Signed.{lt_z, mag}
use Rattle.rules.specs.Lists.{member}
use Rattle.rules.specs.Bytes.{is_digit, number, signed, below_zero, decimal_text, signed_text}
use Rattle.laws.specs.Tests.{split, and_left, or_neither}
use Rattle.numerals.specs.Decimal.{decimal_digits, decimal_absent, decimal_some, decimal_fits_signed, digit_range}
use Rattle.numerals.specs.Texts.{numeral, number_read_back, number_one_text}

unfoldable pub is_below : ℤ → Bool
is_below (pos n) = false
is_below (negsuc n) = true

-- The code's test is this one.
pub below_test : (z : ℤ) → lt_z z (pos 0) ≡ is_below z
unfolding is_below
below_test (pos n) = le-ltb n 0 (omega arith)
below_test (negsuc n) = refl

-- The text is a minus, where there is one, and the magnitude's digits.
pub text_below : (z : ℤ) → is_below z ≡ true → signed_text z ≡ 45 ∷ decimal_text (nat_abs z)
unfolding is_below signed_text
text_below (pos n) h = absurd (false≢true h)
text_below (negsuc n) h = refl

pub text_above : (z : ℤ) → is_below z ≡ false → signed_text z ≡ decimal_text (nat_abs z)
unfolding is_below signed_text
text_above (pos n) h = refl
text_above (negsuc n) h = absurd (true≢false h)

-- A magnitude of 64 bits has at most 19 digits, so a value and its minus take at most 20 bytes.
pub magnitude_fits : (z : ℤ) → mag z < 2 ^ 63 → length (decimal_text (nat_abs z)) ≤ 19
magnitude_fits (pos n) h = decimal_fits_signed n (omega arith)
magnitude_fits (negsuc n) h = decimal_fits_signed (suc n) (omega arith)

pub signed_text_fits : (z : ℤ) → mag z < 2 ^ 63 → length (signed_text z) ≤ 20
unfolding signed_text
signed_text_fits (pos n) h = let digits = magnitude_fits (pos n) h in omega arith
signed_text_fits (negsuc n) h = let digits = magnitude_fits (negsuc n) h in omega arith

pub signed_text_some : (z : ℤ) → 0 < length (signed_text z)
unfolding signed_text
signed_text_some (pos n) = decimal_some n
signed_text_some (negsuc n) = omega arith

-- A byte that is neither a digit nor the minus isn't in it: neither tab, newline, comma nor `=`.
pub signed_text_absent : (c : ℕ) (z : ℤ) → is_digit c ≡ false → (c ≡ 45 → ⊥) → member c (signed_text z) ≡ false
unfolding signed_text
signed_text_absent c (pos n) h m = decimal_absent c n h
signed_text_absent c (negsuc n) h m = or_neither (eqb c 45) (member c (decimal_text (suc n))) (ne_eqb c 45 m) (decimal_absent c (suc n) h)

-- A value by its first byte.
pub signed_nothing : (s : List ℕ) → length s ≡ 0 → signed s ≡ none
unfolding signed
signed_nothing [] h = refl
signed_nothing (b ∷ bs) h = absurd (omega arith)

pub signed_minus : (s : List ℕ) → (length s ≡ 0 → ⊥) → get_or s 0 0 ≡ 45
    → signed s ≡ below_zero (number 9_223_372_036_854_775_808 (take (length s - 1) (drop 1 s)))
unfolding signed
signed_minus [] n e = absurd (n refl)
signed_minus (b ∷ bs) n e = rw (eq-eqb b 45 e, take_all (suc (length bs) - 1) bs (omega arith))

pub signed_plain : (s : List ℕ) → (length s ≡ 0 → ⊥) → (get_or s 0 0 ≡ 45 → ⊥) → signed s ≡ map pos (number 9_223_372_036_854_775_807 s)
unfolding signed
signed_plain [] n e = absurd (n refl)
signed_plain (b ∷ bs) n e = rw (ne_eqb b 45 e)

-- What `read_signed` goes by.
pub ruleset first_byte = (signed_nothing, signed_minus, signed_plain)

-- What is written is read back.
signed_digits : (bs : List ℕ) → 0 < length bs → list_all is_digit bs ≡ true → signed bs ≡ map pos (number 9_223_372_036_854_775_807 bs)
signed_digits [] l h = absurd (omega arith)
signed_digits (b ∷ bs) l h =
    let digit = digit_range b (and_left (is_digit b) (list_all is_digit bs) h) in
    signed_plain (b ∷ bs) (λ e. omega arith) (λ e. omega arith)

pub signed_read_back : (z : ℤ) → mag z < 2 ^ 63 → signed (signed_text z) ≡ some z
unfolding signed signed_text
signed_read_back (pos n) h =
    signed_digits (decimal_text n) (decimal_some n) (decimal_digits n)
    ∙ ap (map pos) (number_read_back n 9_223_372_036_854_775_807 (omega arith))
signed_read_back (negsuc n) h =
    ap below_zero (number_read_back (suc n) 9_223_372_036_854_775_808 (omega arith))

-- A value has one text, and is of 64 bits.
below_some : (o : Option ℕ) (z : ℤ) → below_zero o ≡ some z → (n : ℕ) × ((o ≡ some (suc n)) × (z ≡ negsuc n))
below_some none z h = let e : ◌≡◌ {A = ℕ} 0 1 = cc in absurd (omega arith)
below_some (some zero) z h = let e : ◌≡◌ {A = ℕ} 0 1 = cc in absurd (omega arith)
below_some (some (suc n)) z h = (n, (refl, cc))

plain_some : (o : Option ℕ) (z : ℤ) → map pos o ≡ some z → (n : ℕ) × ((o ≡ some n) × (z ≡ pos n))
plain_some none z h = let e : ◌≡◌ {A = ℕ} 0 1 = cc in absurd (omega arith)
plain_some (some n) z h = (n, (refl, cc))

-- What a value that was read says of its bytes.
pub record Signed (bs : List ℕ) (z : ℤ) : Type 0 where
  pub text : bs ≡ signed_text z
  pub low : mag z < 2 ^ 63

negative_value : (b : ℕ) (bs : List ℕ) (z : ℤ) → b ≡ 45 → below_zero (number 9_223_372_036_854_775_808 bs) ≡ some z → Signed (b ∷ bs) z
unfolding signed_text
negative_value b bs z e h =
    let read = below_some (number 9_223_372_036_854_775_808 bs) z h in
    let small = (numeral 9_223_372_036_854_775_808 bs (suc read.0) read.1.0).low in
    let low : read.0 < 2 ^ 63 = omega arith in
    record {
      text = ap₂ (λ (x : ℕ) (l : List ℕ). x ∷ l) e (number_one_text 9_223_372_036_854_775_808 (suc read.0) bs read.1.0) ∙ ap signed_text (sym read.1.1);
      low = rw read.1.1 low;
    }

plain_value : (bs : List ℕ) (z : ℤ) → map pos (number 9_223_372_036_854_775_807 bs) ≡ some z → Signed bs z
unfolding signed_text
plain_value bs z h =
    let read = plain_some (number 9_223_372_036_854_775_807 bs) z h in
    let small = (numeral 9_223_372_036_854_775_807 bs read.0 read.1.0).low in
    let low : read.0 < 2 ^ 63 = omega arith in
    record {
      text = number_one_text 9_223_372_036_854_775_807 read.0 bs read.1.0 ∙ ap signed_text (sym read.1.1);
      low = rw read.1.1 low;
    }

signed_value : (bs : List ℕ) (z : ℤ) → signed bs ≡ some z → Signed bs z
unfolding signed
signed_value [] z h = let e : ◌≡◌ {A = ℕ} 0 1 = cc in absurd (omega arith)
signed_value (b ∷ bs) z h =
    split (eqb b 45) (λ q. negative_value b bs z (eqb-true b 45 q) (rw q at h)) (λ q. plain_value (b ∷ bs) z (rw q at h))

pub signed_one_text : (bs : List ℕ) (z : ℤ) → signed bs ≡ some z → bs ≡ signed_text z
signed_one_text bs z h = (signed_value bs z h).text

pub signed_low : (bs : List ℕ) (z : ℤ) → signed bs ≡ some z → mag z < 2 ^ 63
signed_low bs z h = (signed_value bs z h).low
