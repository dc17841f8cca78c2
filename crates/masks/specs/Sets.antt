-- A set of partitions by its words in the rules: one of the others, one more, a bad set. Each law takes what a test or a shift of the code gives.
use Rattle.std.specs.Prelude.{ℕ, ◌*◌, ◌^◌, ◌%◌, ◌≤◌, ◌<◌, Bool, true, false, not, ◌≡◌, leb}
use Rattle.std.proofs.Math.Bool.{and-true, and-false}
use Rattle.std.proofs.Common.{sym, ◌∙◌, eq-eqb, ne_eqb, arith}
use Rattle.std.proofs.lemmas.Bool.{not-true, not-false}
use Rattle.std.specs.Int.Bits.{bit_or}
use Rattle.rules.specs.Partitions.{names, with_partition, bad_set, other}
use Rattle.masks.specs.Operations.{shift_only, or_only}

-- One of "the involved partitions, less our own".
pub own_is_no_other : (own set p : ℕ) → p ≡ own → false ≡ other own set p
unfolding other
own_is_no_other own set p e = rw (eq-eqb p own e) (sym (and-false (names set p)))

pub other_is_named : (own set p : ℕ) → (p ≡ own → ⊥) → names set p ≡ other own set p
unfolding other
other_is_named own set p n = rw (ne_eqb p own n) (sym (and-true (names set p)))

-- The set with p in it too, by a shift in a byte.
pub with_shift : (set p : ℕ) → p < 8 → bit_or set (1 * 2 ^ p % 256) ≡ with_partition p set
with_shift set p l = rw (shift_only 8 p l) (or_only set p)

-- "partition set lacks our own, or names one beyond the number opened"
pub lacks_own : (opened own set : ℕ) (r : Bool) → r ≡ names set own → not r ≡ true → true ≡ bad_set opened own set
unfolding bad_set
lacks_own opened own set r e n = rw (sym e ∙ not-true r n)

pub beyond_shift : (opened own set : ℕ) (r : Bool) → opened ≤ 8 → r ≡ names set own → not r ≡ false
    → leb (1 * 2 ^ opened % 2 ^ 32) set ≡ bad_set opened own set
unfolding bad_set
beyond_shift opened own set r l e n = rw (shift_only 32 opened (omega arith), sym e ∙ not-false r n)
