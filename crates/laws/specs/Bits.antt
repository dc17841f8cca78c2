-- Sets of partitions, one bit each: what the set with one more partition names, how large it is, and that a set is settled by what it names.
use Rattle.std.specs.Prelude.{ℕ, zero, suc, ◌+◌, ◌*◌, ◌^◌, ◌/◌, ◌%◌, ◌≤◌, ◌<◌, true, false, ◌||◌, ◌≡◌, refl, eqb}
use Rattle.std.proofs.Common.{suc-le-suc, arith, sym, ◌∙◌, eqb-true, eq-eqb}
use Rattle.std.proofs.Math.Dec.{eqb-zero-suc, eqb-suc-zero, eqb-suc-suc}
use Rattle.std.proofs.lemmas.Bool.{eqb-false}
use Rattle.rules.specs.Partitions.{names, with_partition, only}
use Rattle.laws.specs.Tests.{split, never}

-- A number by its halves: an even or odd one above w.
half_odd : (w : ℕ) → (w * 2 + 1) / 2 ≡ w
half_odd w = omega arith

half_with : (w set : ℕ) → (w * 2 + set % 2) / 2 ≡ w
half_with w set = omega arith

bit_with : (w set : ℕ) → (w * 2 + set % 2) % 2 ≡ set % 2
bit_with w set = omega arith

bit_odd : (w : ℕ) → (w * 2 + 1) % 2 ≡ 1
bit_odd w = omega arith

-- The set with p in it too names p and what it named before.
pub names_with : (p set q : ℕ) → names (with_partition p set) q ≡ (eqb p q || names set q)
unfolding names with_partition
names_with zero set zero = eq-eqb ((set / 2 * 2 + 1) % 2) 1 (bit_odd (set / 2))
names_with zero set (suc q) = rw (half_odd (set / 2), eqb-zero-suc q)
names_with (suc p) set zero = rw (bit_with (with_partition p (set / 2)) set, eqb-suc-zero p)
names_with (suc p) set (suc q) =
    rw (half_with (with_partition p (set / 2)) set, eqb-suc-suc p q) (names_with p (set / 2) q)

-- The empty set names nobody.
pub names_zero : (p : ℕ) → names 0 p ≡ false
unfolding names
names_zero zero = refl
names_zero (suc p) = names_zero p

-- The set of p alone names p alone.
half_double : (p : ℕ) → 2 ^ suc p / 2 ≡ 2 ^ p
half_double p = omega arith

bit_double : (p : ℕ) → 2 ^ suc p % 2 ≡ 0
bit_double p = omega arith

pub names_only : (p q : ℕ) → names (only p) q ≡ eqb p q
unfolding names
names_only zero zero = refl
names_only zero (suc q) = rw eqb-zero-suc (names_zero q)
names_only (suc p) zero = rw (bit_double p, eqb-suc-zero p)
names_only (suc p) (suc q) = rw (half_double p, eqb-suc-suc p q) (names_only p q)

-- A set that names p is no smaller than the set of p alone.
pub names_below : (set p : ℕ) → names set p ≡ true → 2 ^ p ≤ set
unfolding names
names_below set zero h = let odd : set % 2 ≡ 1 = eqb-true (set % 2) 1 h in omega arith
names_below set (suc p) h = let below : 2 ^ p ≤ set / 2 = names_below (set / 2) p h in omega arith

-- A set of partitions below n names none beyond.
pub names_within : (n set p : ℕ) → set < 2 ^ n → names set p ≡ true → p < n
unfolding names
names_within zero set p l h =
    let empty : set ≡ 0 = omega arith in
    never (names set p) h (rw empty (names_zero p))
names_within (suc n) set zero l h = omega arith
names_within (suc n) set (suc p) l h = suc-le-suc (names_within n (set / 2) p (omega arith) h)

-- A set of partitions below n stays one when a partition below n is put in.
pub with_below : (n p set : ℕ) → p < n → set < 2 ^ n → with_partition p set < 2 ^ n
unfolding with_partition
with_below zero p set l h = omega arith
with_below (suc n) zero set l h = omega arith
with_below (suc n) (suc p) set l h =
    let below : with_partition p (set / 2) < 2 ^ n = with_below n p (set / 2) (omega arith) (omega arith) in omega arith

-- Two sets that name the same partitions are the same number.
same_bit : (s t : ℕ) → eqb (s % 2) 1 ≡ eqb (t % 2) 1 → s % 2 ≡ t % 2
same_bit s t h =
    split (eqb (s % 2) 1)
    (λ q. eqb-true (s % 2) 1 q ∙ sym (eqb-true (t % 2) 1 (sym h ∙ q)))
    (λ q. let even = eqb-false (s % 2) 1 q in let also = eqb-false (t % 2) 1 (sym h ∙ q) in omega arith)

bits : (n s t : ℕ) → s ≤ n → t ≤ n → ((p : ℕ) → names s p ≡ names t p) → s ≡ t
unfolding names
bits zero s t k l h = omega arith
bits (suc n) s t k l h =
    let halves : s / 2 ≡ t / 2 = bits n (s / 2) (t / 2) (omega arith) (omega arith) (λ p. h (suc p)) in
    let low : s % 2 ≡ t % 2 = same_bit s t (h zero) in
    omega arith

pub same_bits : (s t : ℕ) → ((p : ℕ) → names s p ≡ names t p) → s ≡ t
same_bits s t h = bits (s + t) s t (omega arith) (omega arith) h
