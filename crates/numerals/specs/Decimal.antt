-- A number's decimal digits: by their last digit, and what follows for every number by going from digit to digit.
use Rattle.std.specs.Prelude.{ℕ, zero, suc, ◌+◌, ◌*◌, ◌-◌, ◌/◌, ◌%◌, ◌^◌, ◌≤◌, ◌<◌, Bool, true, false, not, ◌&&◌, ◌≡◌, refl, eqb, leb, ltb, length}
use Rattle.std.specs.List.{list_all}
use Rattle.std.proofs.lemmas.Bool.{false≢true}
use mathlib.Core.List.{List, [], ◌∷◌, ◌++◌, Memᴰ}
use Rattle.std.proofs.Common.{sym, ap, ap₂, subst, ◌∙◌, lt-ltb, le-ltb, le-leb, ltb-true, ltb-false, leb-true, ne_eqb, eqb-true, arith, length-append}
use Rattle.rules.specs.Lists.{member}
use Rattle.rules.specs.Bytes.{tab_byte, newline, comma, minus, equals, is_digit, digits_value, well_led, decimal_from, decimal_text}
use Rattle.laws.specs.Members.{member_exactly}
use Rattle.laws.specs.Tests.{split, never, and_left, and_right, and_both, or_neither, all_append}

-- Any fuel above the number gives the same digits.
fuel_enough : (f g v : ℕ) → v < f → v < g → decimal_from f v (ltb v 10) ≡ decimal_from g v (ltb v 10)
unfolding decimal_from
fuel_enough zero g v l m = absurd (omega arith)
fuel_enough (suc f) zero v l m = absurd (omega arith)
fuel_enough (suc f) (suc g) v l m =
    split (ltb v 10) (λ q. rw q)
    (λ q. let large = ltb-false v 10 q in
    rw (q, fuel_enough f g (v / 10) (omega arith) (omega arith)))

pub decimal_small : (v : ℕ) → v < 10 → decimal_text v ≡ (48 + v) ∷ []
unfolding decimal_text decimal_from
decimal_small v h = rw (lt-ltb v 10 h)

pub decimal_large : (v : ℕ) → 10 ≤ v → decimal_text v ≡ decimal_text (v / 10) ++ (48 + v % 10) ∷ []
unfolding decimal_text decimal_from
decimal_large v h = rw (le-ltb v 10 h, fuel_enough v (suc (v / 10)) (v / 10) (omega arith) (omega arith))

pub decimal_more : (v d : ℕ) → 0 < v → d < 10 → decimal_text (v * 10 + d) ≡ decimal_text v ++ (48 + d) ∷ []
decimal_more v d p h =
    let front : (v * 10 + d) / 10 ≡ v = omega arith in
    let last : (v * 10 + d) % 10 ≡ d = omega arith in
    decimal_large (v * 10 + d) (omega arith) ∙ ap₂ (λ (n m : ℕ). decimal_text n ++ (48 + m) ∷ []) front last

-- What holds of one digit, and goes on when a digit is added behind a number above zero, holds of every number and its text.
module _ (P : ℕ → List ℕ → Type 0) (one : (d : ℕ) → d < 10 → P d ((48 + d) ∷ []))
    (more : (v d : ℕ) (l : List ℕ) → 0 < v → d < 10 → P v l → P (v * 10 + d) (l ++ (48 + d) ∷ [])) where
  from_digits : (most v : ℕ) → v ≤ most → P v (decimal_text v)
  from_digits zero v h = subst (P v) (sym (decimal_small v (omega arith))) (one v (omega arith))
  from_digits (suc most) v h =
      split (ltb v 10)
      (λ q. let small = ltb-true v 10 q in subst (P v) (sym (decimal_small v small)) (one v small))
      (λ q. let large = ltb-false v 10 q in
      let whole : v / 10 * 10 + v % 10 ≡ v = omega arith in
      subst (P v) (sym (decimal_large v large))
      (subst (λ (n : ℕ). P n (decimal_text (v / 10) ++ (48 + v % 10) ∷ [])) whole
      (more (v / 10) (v % 10) (decimal_text (v / 10)) (omega arith) (omega arith) (from_digits most (v / 10) (omega arith)))))

  pub by_digits : (v : ℕ) → P v (decimal_text v)
  by_digits v = from_digits v v (omega arith)

-- Digits alone.
digit_is : (d : ℕ) → d < 10 → is_digit (48 + d) ≡ true
unfolding is_digit
digit_is d h = and_both (leb 48 (48 + d)) (leb (48 + d) 57) (le-leb 48 (48 + d) (omega arith)) (le-leb (48 + d) 57 (omega arith))

pub decimal_digits : (v : ℕ) → list_all is_digit (decimal_text v) ≡ true
decimal_digits v =
    by_digits (λ n l. list_all is_digit l ≡ true) (λ d h. and_both (is_digit (48 + d)) true (digit_is d h) refl)
    (λ n d l p h so. all_append is_digit l ((48 + d) ∷ [])
    ∙ and_both (list_all is_digit l) (is_digit (48 + d) && true) so (and_both (is_digit (48 + d)) true (digit_is d h) refl)) v

-- So a byte that is no digit isn't in it: neither tab, newline, comma, minus nor `=`.
absent_digits : (c : ℕ) (l : List ℕ) → is_digit c ≡ false → list_all is_digit l ≡ true → member c l ≡ false
absent_digits c [] n h = refl
absent_digits c (b ∷ bs) n h =
    or_neither (eqb c b) (member c bs)
    (split (eqb c b)
    (λ q. never (is_digit b) (and_left (is_digit b) (list_all is_digit bs) h) (subst (λ (k : ℕ). is_digit k ≡ false) (eqb-true c b q) n))
    (λ q. q))
    (absent_digits c bs n (and_right (is_digit b) (list_all is_digit bs) h))

pub decimal_absent : (c v : ℕ) → is_digit c ≡ false → member c (decimal_text v) ≡ false
decimal_absent c v n = absent_digits c (decimal_text v) n (decimal_digits v)

pub tab_no_digit : is_digit tab_byte ≡ false
unfolding is_digit
tab_no_digit = refl

pub newline_no_digit : is_digit newline ≡ false
unfolding is_digit
newline_no_digit = refl

pub comma_no_digit : is_digit comma ≡ false
unfolding is_digit
comma_no_digit = refl

pub minus_no_digit : is_digit minus ≡ false
unfolding is_digit
minus_no_digit = refl

pub equals_no_digit : is_digit equals ≡ false
unfolding is_digit
equals_no_digit = refl

-- Each is at least 48 and at most 57.
pub digit_range : (b : ℕ) → is_digit b ≡ true → (48 ≤ b) × (b ≤ 57)
unfolding is_digit
digit_range b h = (leb-true 48 b (and_left (leb 48 b) (leb b 57) h), leb-true b 57 (and_right (leb 48 b) (leb b 57) h))

pub decimal_each : (v b : ℕ) → Memᴰ b (decimal_text v) → (48 ≤ b) × (b ≤ 57)
decimal_each v b m =
    split (is_digit b) (λ q. digit_range b q)
    (λ q. never (member b (decimal_text v)) ((member_exactly b (decimal_text v)).1 m) (decimal_absent b v q))

-- Their value, read from the left, is the number.
pub value_append : (v : ℕ) (l : List ℕ) (b : ℕ) → digits_value v (l ++ b ∷ []) ≡ digits_value v l * 10 + (b - 48)
unfolding digits_value
value_append v [] b = refl
value_append v (x ∷ l) b = value_append (v * 10 + (x - 48)) l b

pub decimal_value : (v : ℕ) → digits_value 0 (decimal_text v) ≡ v
unfolding digits_value
decimal_value v =
    by_digits (λ n l. digits_value 0 l ≡ n) (λ d h. omega arith)
    (λ n d l p h so. let last = value_append 0 l (48 + d) in omega arith) v

-- There is a digit, and the first is 0 only where it is the last.
unfoldable led : List ℕ → Bool
led [] = false
led (b ∷ bs) = not (eqb b 48)

led_append : (l more : List ℕ) → led l ≡ true → led (l ++ more) ≡ true
unfolding led
led_append [] more h = absurd (false≢true h)
led_append (b ∷ bs) more h = h

led_well : (l : List ℕ) → led l ≡ true → well_led l ≡ true
unfolding led well_led
led_well [] h = h
led_well (b ∷ []) h = refl
led_well (b ∷ c ∷ bs) h = h

decimal_led : (v : ℕ) → 0 < v → led (decimal_text v) ≡ true
unfolding led
decimal_led v =
    by_digits (λ n l. 0 < n → led l ≡ true) (λ d h p. rw (ne_eqb (48 + d) 48 (λ e. omega arith)))
    (λ n d l p h so q. led_append l ((48 + d) ∷ []) (so p)) v

pub decimal_well_led : (v : ℕ) → well_led (decimal_text v) ≡ true
unfolding well_led
decimal_well_led zero = rw (decimal_small 0 (omega arith))
decimal_well_led (suc v) = led_well (decimal_text (suc v)) (decimal_led (suc v) (omega arith))

pub decimal_some : (v : ℕ) → 0 < length (decimal_text v)
decimal_some v =
    by_digits (λ n l. 0 < length l) (λ d h. omega arith)
    (λ n d l p h so. let long = length-append l ((48 + d) ∷ []) in omega arith) v

-- A number below a power of ten has at most as many digits as its exponent says.
pub decimal_length : (n v : ℕ) → v < 10 ^ suc n → length (decimal_text v) ≤ suc n
decimal_length n v h =
    by_digits (λ m l. (k : ℕ) → m < 10 ^ suc k → length l ≤ suc k) (λ d low k q. omega arith)
    longer v n h
  where
    longer : (m d : ℕ) (l : List ℕ) → 0 < m → d < 10 → ((k : ℕ) → m < 10 ^ suc k → length l ≤ suc k) → (k : ℕ) → m * 10 + d < 10 ^ suc k
        → length (l ++ (48 + d) ∷ []) ≤ suc k
    longer m d l p low so zero q = absurd (omega arith)
    longer m d l p low so (suc k) q =
        let long = length-append l ((48 + d) ∷ []) in
        let before = so k (omega arith) in
        omega arith

pub decimal_fits : (v : ℕ) → v < 2 ^ 64 → length (decimal_text v) ≤ 20
decimal_fits v h = decimal_length 19 v (omega arith)

-- The magnitude of a signed 64-bit value leaves room for its minus.
pub decimal_fits_signed : (v : ℕ) → v ≤ 9_223_372_036_854_775_808 → length (decimal_text v) ≤ 19
decimal_fits_signed v h = decimal_length 18 v (omega arith)

-- All but the last digit are one fewer.
pub decimal_length_large : (v : ℕ) → 10 ≤ v → length (decimal_text v) ≡ length (decimal_text (v / 10)) + 1
decimal_length_large v h = ap length (decimal_large v h) ∙ length-append (decimal_text (v / 10)) ((48 + v % 10) ∷ [])
