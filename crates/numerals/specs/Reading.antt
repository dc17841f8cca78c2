-- Digits read from the left within a limit, as the loop reads them, and that this is the rules' number.
use Rattle.std.specs.Prelude.{ℕ, ◌+◌, ◌*◌, ◌-◌, ◌≤◌, ◌<◌, true, false, not, cond, ◌&&◌, List, [], ◌∷◌, ◌⊎◌, ◌≡◌, refl, eqb, leb, length, drop, get_or}
use Rattle.std.specs.List.{list_all}
use Rattle.std.proofs.Common.{inl, inr, ap, ◌∙◌, add-one, arith, drop_of_length-le, drop-cons}
use Rattle.std.proofs.Math.Option.{Option, none, some}
use borrow.Author.Tests.{le-leb, lt-leb}
use Rattle.rules.specs.Bytes.{is_digit, digits_value, well_led, number}
use Rattle.laws.specs.Tests.{split}

-- The number that the digits bs make behind a number v that was read already, where it is within the limit.
unfoldable pub read_from : ℕ → ℕ → List ℕ → Option ℕ
read_from limit v bs = cond (list_all is_digit bs && leb (digits_value v bs) limit) (some (digits_value v bs)) none

-- The rules look at the leading digit, and then at this.
pub number_led : (limit : ℕ) (bs : List ℕ) → well_led bs ≡ true → number limit bs ≡ read_from limit 0 bs
unfolding number read_from
number_led limit bs h = rw h

pub number_unled : (limit : ℕ) (bs : List ℕ) → well_led bs ≡ false → number limit bs ≡ none
unfolding number
number_unled limit bs h = rw h

-- The value only grows.
value_grows : (v : ℕ) (bs : List ℕ) → v ≤ digits_value v bs
unfolding digits_value
value_grows v [] = omega arith
value_grows v (b ∷ bs) = let rest = value_grows (v * 10 + (b - 48)) bs in omega arith

-- A byte: a digit that stays within the limit, a digit that doesn't, no digit.
is_not_digit : (b : ℕ) → (b < 48) ⊎ (57 < b) → is_digit b ≡ false
unfolding is_digit
is_not_digit b (inl h) = rw (lt-leb 48 b h)
is_not_digit b (inr h) = rw (le-leb 48 b (omega arith), lt-leb b 57 h)

module _ (limit v b : ℕ) (bs : List ℕ) where
  read_digit : 48 ≤ b → b ≤ 57 → read_from limit v (b ∷ bs) ≡ read_from limit (v * 10 + (b - 48)) bs
  unfolding read_from is_digit digits_value
  read_digit low high = rw (le-leb 48 b low, le-leb b 57 high)

  read_no_digit : (b < 48) ⊎ (57 < b) → read_from limit v (b ∷ bs) ≡ none
  unfolding read_from
  read_no_digit h = rw (is_not_digit b h)

read_over : (limit v : ℕ) (bs : List ℕ) → limit < v → read_from limit v bs ≡ none
unfolding read_from
read_over limit v bs h =
    let most = value_grows v bs in
    split (list_all is_digit bs)
    (λ q. rw (q, lt-leb (digits_value v bs) limit (omega arith))) (λ q. rw q)

-- The loop stands at i and has read v.
pub record Reads (s : List ℕ) (limit v i : ℕ) : Type 0 where
  pub most : i ≤ length s
  pub low : v ≤ limit
  pub same : read_from limit 0 s ≡ read_from limit v (drop i s)

pub read_start : (s : List ℕ) (limit : ℕ) → Reads s limit 0 0
read_start s limit = record { most = omega arith; low = omega arith; same = refl }

from_here : (s : List ℕ) (i : ℕ) → i < length s → drop i s ≡ get_or s i 0 ∷ drop (i + 1) s
from_here s i l = rw add-one (drop-cons s i 0 l)

module _ {s : List ℕ} {limit v i : ℕ} (k : Reads s limit v i) (l : i < length s) where
  here : read_from limit 0 s ≡ read_from limit v (get_or s i 0 ∷ drop (i + 1) s)
  here = k.same ∙ ap (read_from limit v) (from_here s i l)

  -- a byte that is no digit
  pub read_stops_other : (get_or s i 0 < 48) ⊎ (57 < get_or s i 0) → read_from limit 0 s ≡ none
  read_stops_other h = here ∙ read_no_digit limit v (get_or s i 0) (drop (i + 1) s) h

  module _ (low : 48 ≤ get_or s i 0) (high : get_or s i 0 ≤ 57) where
    next : read_from limit 0 s ≡ read_from limit (v * 10 + (get_or s i 0 - 48)) (drop (i + 1) s)
    next = here ∙ read_digit limit v (get_or s i 0) (drop (i + 1) s) low high

    -- a digit that makes the number too large
    pub read_stops_over : limit < v * 10 + (get_or s i 0 - 48) → read_from limit 0 s ≡ none
    read_stops_over h = next ∙ read_over limit (v * 10 + (get_or s i 0 - 48)) (drop (i + 1) s) h

    pub read_step : v * 10 + (get_or s i 0 - 48) ≤ limit → Reads s limit (v * 10 + (get_or s i 0 - 48)) (i + 1)
    read_step h = record { most = omega arith; low = h; same = next }

pub read_end : {s : List ℕ} {limit v i : ℕ} → Reads s limit v i → length s ≤ i → read_from limit 0 s ≡ some v
unfolding read_from digits_value
read_end {s} {limit} {v} {i} k l = k.same ∙ rw (drop_of_length-le s l, le-leb v limit k.low)

-- The leading digit, by the length and the first byte.
pub led_nothing : (s : List ℕ) → length s ≡ 0 → well_led s ≡ false
unfolding well_led
led_nothing [] h = refl
led_nothing (b ∷ bs) h = absurd (omega arith)

pub led_alone : (s : List ℕ) → length s ≡ 1 → well_led s ≡ true
unfolding well_led
led_alone [] h = absurd (omega arith)
led_alone (b ∷ []) h = refl
led_alone (b ∷ c ∷ bs) h = absurd (omega arith)

pub led_first : (s : List ℕ) → (length s ≡ 0 → ⊥) → (length s ≡ 1 → ⊥) → well_led s ≡ not (eqb (get_or s 0 0) 48)
unfolding well_led
led_first [] n m = absurd (n refl)
led_first (b ∷ []) n m = absurd (m refl)
led_first (b ∷ c ∷ bs) n m = refl

-- What `is_well_led` and `digits` go by.
pub ruleset leading = (led_nothing, led_alone, led_first)

pub ruleset reading = (read_start, read_step, read_end, read_stops_other, read_stops_over)
