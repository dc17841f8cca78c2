-- An empty mask: no bit counts, and every partition fails the test that the mask stands for.
use Rattle.std.specs.Prelude.{ℕ, zero, suc, ◌+◌, ◌/◌, ◌%◌, ◌≤◌, ◌<◌, Bool, true, false, not, List, [], ◌∷◌, ◌≡◌, refl, eqb}
use Rattle.std.specs.List.{list_any, list_all}
use Rattle.std.proofs.Common.{sym, ap, ◌∙◌, eqb-true, eq-eqb, ne_eqb, arith}
use Rattle.std.proofs.lemmas.Bool.{eqb-false, not-true}
use Rattle.std.specs.Int.Count.{ones, ones_in, ones_step}
use Rattle.rules.specs.Partitions.{names, every_partition}
use Rattle.laws.specs.Tests.{split, never}
use Rattle.laws.specs.Bits.{names_zero, names_within, same_bits}
use Rattle.laws.specs.Partitions.{every_partition_passes}

-- No bit counts exactly in the number 0.
none_counts : (k n : ℕ) → n ≤ k → ones n ≡ 0 → n ≡ 0
none_counts zero n l e = omega arith
none_counts (suc k) n l e =
    let step : ones n ≡ n % 2 + ones (n / 2) = ones_step n in
    let half : n / 2 ≡ 0 = none_counts k (n / 2) (omega arith) (omega arith) in
    omega arith

pub ones_none : (n : ℕ) → eqb (ones n) 0 ≡ eqb n 0
unfolding ones ones_in
ones_none n =
    split (eqb n 0)
    (λ q. rw q (eq-eqb (ones n) 0 (ap ones (eqb-true n 0 q))))
    (λ q. rw q (ne_eqb (ones n) 0 (λ e. eqb-false n 0 q (none_counts n n (omega arith) e))))

-- A mask of 8 bits that names nobody below 8 is empty.
pub names_nobody : (m : ℕ) → m < 256 → ((p : ℕ) → p < 8 → names m p ≡ false) → m ≡ 0
names_nobody m l k = same_bits m 0 (λ p. nobody p ∙ sym (names_zero p))
  where
    nobody : (p : ℕ) → names m p ≡ false
    nobody p = split (names m p) (λ q. never (names m p) q (k p (names_within 8 m p l q))) (λ q. q)

-- A mask that names the partitions which pass a test is empty exactly where every partition fails it.
pub empty_mask : (f : ℕ → Bool) (m : ℕ) → m < 256 → ((p : ℕ) → p < 8 → names m p ≡ f p)
    → eqb m 0 ≡ list_all (λ p. not (f p)) every_partition
empty_mask f m l k =
    split (list_all (λ p. not (f p)) every_partition)
    (λ q. rw q (eq-eqb m 0 (names_nobody m l (λ p low. k p low ∙ fails q p low))))
    (λ q. rw q (ne_eqb m 0 (λ e. never (list_all (λ p. not (f p)) every_partition) ((every_partition_passes (λ p. not (f p))).1 (empty e)) q)))
  where
    fails : list_all (λ p. not (f p)) every_partition ≡ true → (p : ℕ) → p < 8 → f p ≡ false
    fails q p low = not-true (f p) ((every_partition_passes (λ r. not (f r))).0 q p low)

    empty : m ≡ 0 → (p : ℕ) → p < 8 → not (f p) ≡ true
    empty e p low = ap not (sym (k p low) ∙ ap (λ (n : ℕ). names n p) e ∙ names_zero p)

-- None passes exactly where all fail.
pub none_passes : (f : ℕ → Bool) (xs : List ℕ) → not (list_any f xs) ≡ list_all (λ x. not (f x)) xs
none_passes f [] = refl
none_passes f (x ∷ xs) = split (f x) (λ q. rw q) (λ q. rw q (none_passes f xs))
