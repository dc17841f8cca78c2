-- Numbers and their texts: what is written is read back, and a number has one text.
use Rattle.std.specs.Prelude.{ℕ, ◌+◌, ◌*◌, ◌-◌, ◌≤◌, ◌<◌, Bool, true, false, cond, ◌&&◌, List, [], ◌∷◌, ◌++◌, ◌≡◌, refl, eqb, leb}
use Rattle.std.specs.List.{list_all}
use Rattle.std.proofs.lemmas.Bool.{false≢true, eqb-false, not-true}
use Rattle.std.proofs.Common.{append-nil, append_assoc, sym, ap, ◌∙◌, le-leb, leb-true, leb-false, arith}
use Rattle.std.proofs.Math.Option.{none, some}
use Rattle.rules.specs.Bytes.{is_digit, digits_value, well_led, number, decimal_text}
use Rattle.laws.specs.Tests.{split, and_left, and_right}
use Rattle.numerals.specs.Decimal.{decimal_small, decimal_more, decimal_digits, decimal_value, decimal_well_led, digit_range}

-- What is written is read back.
pub number_read_back : (v limit : ℕ) → v ≤ limit → number limit (decimal_text v) ≡ some v
unfolding number
number_read_back v limit h =
    rw (decimal_well_led v, decimal_digits v, decimal_value v, le-leb v limit h)

-- What a number that was read says of its bytes.
pub record Numeral (limit : ℕ) (bs : List ℕ) (v : ℕ) : Type 0 where
  pub led : well_led bs ≡ true
  pub digits : list_all is_digit bs ≡ true
  pub value : digits_value 0 bs ≡ v
  pub low : v ≤ limit

chosen : {A : Type 0} (t : Bool) (x y : A) → cond t (some x) none ≡ some y → (t ≡ true) × (x ≡ y)
chosen true x y h = (refl, cc)
chosen false x y h = let z : ◌≡◌ {A = ℕ} 0 1 = cc in absurd (omega arith)

pub numeral : (limit : ℕ) (bs : List ℕ) (v : ℕ) → number limit bs ≡ some v → Numeral limit bs v
unfolding number
numeral limit bs v h =
    let tests = well_led bs && list_all is_digit bs && leb (digits_value 0 bs) limit in
    let both = chosen tests (digits_value 0 bs) v h in
    let front = and_left (well_led bs && list_all is_digit bs) (leb (digits_value 0 bs) limit) both.0 in
    let most = leb-true (digits_value 0 bs) limit (and_right (well_led bs && list_all is_digit bs) (leb (digits_value 0 bs) limit) both.0) in
    let value = both.1 in
    record {
      led = and_left (well_led bs) (list_all is_digit bs) front;
      digits = and_right (well_led bs) (list_all is_digit bs) front;
      value = value;
      low = omega arith;
    }

-- A number has one text. Digits behind a number above zero are the digits of what they make of it.
decimal_onward : (v : ℕ) (bs : List ℕ) → 0 < v → list_all is_digit bs ≡ true → decimal_text (digits_value v bs) ≡ decimal_text v ++ bs
unfolding digits_value
decimal_onward v [] p h = sym (append-nil (decimal_text v))
decimal_onward v (b ∷ bs) p h =
    let digit = digit_range b (and_left (is_digit b) (list_all is_digit bs) h) in
    let same : 48 + (b - 48) ≡ b = omega arith in
    decimal_onward (v * 10 + (b - 48)) bs (omega arith) (and_right (is_digit b) (list_all is_digit bs) h)
    ∙ (ap (λ (l : List ℕ). l ++ bs) (decimal_more v (b - 48) p (omega arith) ∙ ap (λ (k : ℕ). decimal_text v ++ k ∷ []) same)
    ∙ append_assoc (decimal_text v) (b ∷ []) bs)

first_digit : (b v : ℕ) → 48 ≤ b → b ≤ 57 → v ≡ b - 48 → decimal_text v ≡ b ∷ []
first_digit b v low high e =
    let same : 48 + v ≡ b = omega arith in
    decimal_small v (omega arith) ∙ ap (λ (k : ℕ). k ∷ []) same

decimal_of : (bs : List ℕ) → well_led bs ≡ true → list_all is_digit bs ≡ true → decimal_text (digits_value 0 bs) ≡ bs
unfolding digits_value well_led
decimal_of [] l h = absurd (false≢true l)
decimal_of (b ∷ []) l h =
    let digit = digit_range b (and_left (is_digit b) true h) in
    first_digit b (0 * 10 + (b - 48)) digit.0 digit.1 (omega arith)
decimal_of (b ∷ c ∷ bs) l h =
    let digit = digit_range b (and_left (is_digit b) (list_all is_digit (c ∷ bs)) h) in
    let nonzero = eqb-false b 48 (not-true (eqb b 48) l) in
    let low : 48 < b = split (leb b 48) (λ q. let most = leb-true b 48 q in absurd (nonzero (omega arith))) (λ q. let more = leb-false b 48 q in more) in
    decimal_onward (0 * 10 + (b - 48)) (c ∷ bs) (omega arith) (and_right (is_digit b) (list_all is_digit (c ∷ bs)) h)
    ∙ ap (λ (l : List ℕ). l ++ c ∷ bs) (first_digit b (0 * 10 + (b - 48)) digit.0 digit.1 (omega arith))

pub number_one_text : (limit v : ℕ) (bs : List ℕ) → number limit bs ≡ some v → bs ≡ decimal_text v
number_one_text limit v bs h =
    let read = numeral limit bs v h in
    sym (decimal_of bs read.led read.digits) ∙ ap decimal_text read.value
