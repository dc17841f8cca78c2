-- What the language's operations on bits do to a set: the partitions that the result names.
use Rattle.std.specs.Prelude.{ℕ, zero, suc, ◌+◌, ◌-◌, ◌*◌, ◌^◌, ◌/◌, ◌%◌, ◌≤◌, ◌<◌, min, max, false, not, ◌&&◌, ◌||◌, ◌≡◌, eqb}
use Rattle.std.proofs.Math.Bool.{or_comm}
use Rattle.std.proofs.Common.{sym, ◌∙◌, eqb-true, eq-eqb, ne_eqb, mod-eq_of_lt, one-mul, arith}
use Rattle.std.proofs.lemmas.Bool.{eqb-false}
use Rattle.std.proofs.Math.Nat.{div-div-eq-div-mul, pow-succ'}
use Rattle.std.specs.Int.Bits.{bit_and, bit_or, and_step, or_step}
use Rattle.std.proofs.Math.Pow.{pow-lt}
use Rattle.rules.specs.Partitions.{names, with_partition, only}
use Rattle.laws.specs.Tests.{split}
use Rattle.laws.specs.Bits.{names_with, names_only, names_within, same_bits}

-- The lowest bit of a number, and the rest of it.
low : (w b : ℕ) → b < 2 → (w * 2 + b) % 2 ≡ b
low w b l = omega arith

rest : (w b : ℕ) → b < 2 → (w * 2 + b) / 2 ≡ w
rest w b l = omega arith

-- Both of two bits, and one of two.
both_bits : (x y : ℕ) → x < 2 → y < 2 → eqb (min x y) 1 ≡ (eqb x 1 && eqb y 1)
both_bits x y l m =
    split (eqb x 1)
    (λ p. split (eqb y 1)
    (λ q. let a = eqb-true x 1 p in let b = eqb-true y 1 q in rw (p, q) (eq-eqb (min x y) 1 (omega arith)))
    (λ q. let b = eqb-false y 1 q in rw (p, q) (ne_eqb (min x y) 1 (λ e. omega arith))))
    (λ p. let a = eqb-false x 1 p in rw p (ne_eqb (min x y) 1 (λ e. omega arith)))

one_bit : (x y : ℕ) → x < 2 → y < 2 → eqb (max x y) 1 ≡ (eqb x 1 || eqb y 1)
one_bit x y l m =
    split (eqb x 1)
    (λ p. let a = eqb-true x 1 p in rw p (eq-eqb (max x y) 1 (omega arith)))
    (λ p. let a = eqb-false x 1 p in
    split (eqb y 1)
    (λ q. let b = eqb-true y 1 q in rw (p, q) (eq-eqb (max x y) 1 (omega arith)))
    (λ q. let b = eqb-false y 1 q in rw (p, q) (ne_eqb (max x y) 1 (λ e. omega arith))))

-- Of two sets: what both name, and what one of them names.
pub names_and : (a b p : ℕ) → names (bit_and a b) p ≡ (names a p && names b p)
unfolding names
names_and a b zero =
    rw (and_step a b, low (bit_and (a / 2) (b / 2)) (min (a % 2) (b % 2)) (omega arith))
    (both_bits (a % 2) (b % 2) (omega arith) (omega arith))
names_and a b (suc p) =
    rw (and_step a b, rest (bit_and (a / 2) (b / 2)) (min (a % 2) (b % 2)) (omega arith)) (names_and (a / 2) (b / 2) p)

pub names_or : (a b p : ℕ) → names (bit_or a b) p ≡ (names a p || names b p)
unfolding names
names_or a b zero =
    rw (or_step a b, low (bit_or (a / 2) (b / 2)) (max (a % 2) (b % 2)) (omega arith))
    (one_bit (a % 2) (b % 2) (omega arith) (omega arith))
names_or a b (suc p) =
    rw (or_step a b, rest (bit_or (a / 2) (b / 2)) (max (a % 2) (b % 2)) (omega arith)) (names_or (a / 2) (b / 2) p)

-- Of a set of n partitions: those that it does not name.
turned : (x y : ℕ) → x + y ≡ 1 → eqb x 1 ≡ not (eqb y 1)
turned x y e =
    split (eqb y 1)
    (λ q. let b = eqb-true y 1 q in rw q (ne_eqb x 1 (λ f. omega arith)))
    (λ q. let b = eqb-false y 1 q in rw q (eq-eqb x 1 (omega arith)))

pub names_not : (n a p : ℕ) → a < 2 ^ n → p < n → names (2 ^ n - 1 - a) p ≡ not (names a p)
unfolding names
names_not zero a p l m = absurd (omega arith)
names_not (suc n) a zero l m = turned ((2 ^ suc n - 1 - a) % 2) (a % 2) (omega arith)
names_not (suc n) a (suc p) l m =
    let half : (2 ^ suc n - 1 - a) / 2 ≡ 2 ^ n - 1 - a / 2 = omega arith in
    rw half (names_not n (a / 2) p (omega arith) (omega arith))

-- A bit by a shift to the right.
pub names_shifted : (set p : ℕ) → eqb (set / 2 ^ p % 2) 1 ≡ names set p
unfolding names
names_shifted set zero = let whole : set / 1 ≡ set = omega arith in rw whole
names_shifted set (suc p) =
    let halves : set / 2 ^ suc p ≡ set / 2 / 2 ^ p = rw pow-succ' (sym (div-div-eq-div-mul set 2 (2 ^ p))) in
    rw halves (names_shifted (set / 2) p)

-- A word of n bits names no partition from n on; a word of the tables has 32.
pub names_outside : (n set p : ℕ) → set < 2 ^ n → n ≤ p → false ≡ names set p
names_outside n set p l m = split (names set p) (λ q. let k : p < n = names_within n set p l q in absurd (omega arith)) (λ q. sym q)

pub names_outside_word : (set p : ℕ) → set < 2 ^ 32 → 32 ≤ p → false ≡ names set p
names_outside_word set p l m = names_outside 32 set p l m

-- The set of p alone by a shift to the left, in a word of n bits.
pub shift_only : (n p : ℕ) → p < n → 1 * 2 ^ p % 2 ^ n ≡ only p
shift_only n p l = rw (one-mul (2 ^ p)) (mod-eq_of_lt (pow-lt l))

-- The set with p in it too, by the set of p alone.
pub or_only : (set p : ℕ) → bit_or set (only p) ≡ with_partition p set
or_only set p =
    same_bits (bit_or set (only p)) (with_partition p set)
    (λ q. names_or set (only p) q ∙ rw (names_only p q, names_with p set q) (or_comm (names set q) (eqb p q)))
