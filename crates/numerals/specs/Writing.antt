-- Text laid over a buffer: what a writer leaves, and that two writers one behind the other leave what one would.
use Rattle.std.specs.Prelude.{ℕ, ◌+◌, ◌/◌, ◌^◌, ◌≤◌, ◌<◌, List, [], ◌∷◌, ◌++◌, ◌↔◌, ◌≡◌, refl, ℤ, nat_abs, length, set}
use Rattle.std.proofs.Common.{to_z-of_z, sym, ap, ◌∙◌, arith, length-append}
use Rattle.std.specs.Int.Signed.{mag}
use Rattle.rules.specs.Bytes.{decimal_text}
use Rattle.laws.specs.Cuts.{put, set_put, put_put, length_put}
use Rattle.numerals.specs.Decimal.{decimal_small, decimal_large, decimal_length_large, decimal_some, decimal_fits}
use Rattle.numerals.specs.Amounts.{below_test, text_below, text_above, magnitude_fits}

-- The buffer o with the text s at a place is o', and p is the place behind s.
pub record Wrote (o : List ℕ) (at : ℕ) (s o' : List ℕ) (p : ℕ) : Type 0 where
  pub text : o' ≡ put o at s
  pub place : p ≡ at + length s

pub wrote_exactly : (o : List ℕ) (at : ℕ) (s o' : List ℕ) (p : ℕ) → Wrote o at s o' p ↔ ((o' ≡ put o at s) × (p ≡ at + length s))
wrote_exactly o at s o' p = (λ w. (w.text, w.place), λ w. record { text = w.0; place = w.1 })

pub wrote_byte : (o : List ℕ) (at b : ℕ) → at < length o → Wrote o at (b ∷ []) (set o at b) (at + 1)
wrote_byte o at b h = record { text = set_put o at b h; place = refl }

-- One writer behind another.
pub wrote_both : {o o' o'' : List ℕ} {at p q : ℕ} {s t : List ℕ} → at + length s ≤ length o → Wrote o at s o' p → Wrote o' p t o'' q
    → Wrote o at (s ++ t) o'' q
wrote_both {o} {o'} {o''} {at} {p} {q} {s} {t} fits one other =
    let long = length-append s t in
    record {
      text = other.text ∙ (ap (λ (l : List ℕ). put l p t) one.text ∙ put_put o at s t p one.place fits);
      place = omega arith;
    }

-- The same text by another name.
pub wrote_as : {o o' : List ℕ} {at p : ℕ} {s t : List ℕ} → s ≡ t → Wrote o at s o' p → Wrote o at t o' p
wrote_as {o} {o'} {at} {p} e w =
    record { text = w.text ∙ ap (put o at) e; place = w.place ∙ ap (λ (l : List ℕ). at + length l) e }

-- A writer leaves the buffer as long as it was.
pub wrote_length : {o o' : List ℕ} {at p : ℕ} {s : List ℕ} → at + length s ≤ length o → Wrote o at s o' p → length o' ≡ length o
wrote_length {o} {o'} {at} {p} {s} fits w = ap length w.text ∙ length_put o at s fits

-- There is room for a number; for its last digit behind the others; for a value's magnitude, and behind a byte.
pub room_number : (at v n : ℕ) → v < 2 ^ 64 → at + 20 ≤ n → at + length (decimal_text v) ≤ n
room_number at v n h fits = let digits = decimal_fits v h in omega arith

pub room_small : (at v n : ℕ) → at + length (decimal_text v) ≤ n → at < n
room_small at v n fits = let some = decimal_some v in omega arith

pub room_front : (at v n : ℕ) → 10 ≤ v → at + length (decimal_text v) ≤ n → at + length (decimal_text (v / 10)) ≤ n
room_front at v n h fits = let long = decimal_length_large v h in omega arith

pub room_last : {o o' : List ℕ} {at v p : ℕ} → 10 ≤ v → at + length (decimal_text v) ≤ length o → Wrote o at (decimal_text (v / 10)) o' p → p < length o'
room_last {o} {o'} {at} {v} h fits w =
    let front = room_front at v (length o) h fits in
    let long = decimal_length_large v h in
    let same = wrote_length front w in
    let place = w.place in
    omega arith

pub room_plain : (z : ℤ) (at n : ℕ) → mag z < 2 ^ 63 → at + 20 ≤ n → at + length (decimal_text (nat_abs z)) ≤ n
room_plain z at n h fits = let digits = magnitude_fits z h in omega arith

pub room_below : {o o' : List ℕ} {at p b : ℕ} (z : ℤ) → mag z < 2 ^ 63 → at + 20 ≤ length o → Wrote o at (b ∷ []) o' p
    → p + length (decimal_text (nat_abs z)) ≤ length o'
room_below {o} {o'} {at} {p} z h fits w =
    let digits = magnitude_fits z h in
    let same : length o' ≡ length o = wrote_length (omega arith) w in
    let place : p ≡ at + 1 = w.place in
    omega arith

-- A number is its digits before the last one and the last one, and a value its magnitude's digits, behind a minus where it is below zero: what `write_digits` and
-- `write_signed` go by.
pub ruleset digit_by_digit = (decimal_small, decimal_large, room_small, room_front, room_last, put_put, length-append)

pub ruleset behind_a_minus = (to_z-of_z, below_test, text_above, text_below, room_plain, room_below, put_put)
