-- A test of every partition, as the rules run it over the list 0 to 7, and as a claim of each number below 8.
use Rattle.std.specs.Prelude.{ℕ, zero, suc, ◌+◌, ◌≤◌, ◌<◌, Bool, true, false, not, List, [], ◌∷◌, ◌↔◌, ◌≡◌, refl, leb}
use Rattle.std.specs.List.{list_any, list_all}
use Rattle.std.proofs.Common.{subst, leb-true, leb-false, arith}
use Rattle.std.proofs.lemmas.Bool.{not-true}
use Rattle.rules.specs.Partitions.{every_partition}
use Rattle.laws.specs.Tests.{split, none_all, and_left, and_right, and_both}

-- The numbers from i on, n of them: partitions 0 to 7 are such a list.
abbrev from : ℕ → ℕ → List ℕ
from i zero = []
from i (suc n) = i ∷ from (suc i) n

from_all : (f : ℕ → Bool) (n i : ℕ) → list_all f (from i n) ≡ true → (p : ℕ) → i ≤ p → p < i + n → f p ≡ true
from_all f zero i h p low high = absurd (omega arith)
from_all f (suc n) i h p low high =
    split (leb (suc i) p)
    (λ q. from_all f n (suc i) (and_right (f i) (list_all f (from (suc i) n)) h) p (leb-true (suc i) p q) (omega arith))
    (λ q. let past = leb-false (suc i) p q in
    let e : i ≡ p = omega arith in
    subst (λ (m : ℕ). f m ≡ true) e (and_left (f i) (list_all f (from (suc i) n)) h))

all_from : (f : ℕ → Bool) (n i : ℕ) → ((p : ℕ) → i ≤ p → p < i + n → f p ≡ true) → list_all f (from i n) ≡ true
all_from f zero i k = refl
all_from f (suc n) i k =
    and_both (f i) (list_all f (from (suc i) n)) (k i (omega arith) (omega arith))
    (all_from f n (suc i) (λ p low high. k p (omega arith) (omega arith)))

-- A test of every partition, 0 to 7.
pub every_partition_passes : (f : ℕ → Bool) → list_all f every_partition ≡ true ↔ ((p : ℕ) → p < 8 → f p ≡ true)
every_partition_passes f =
    (λ h p low. from_all f 8 0 h p (omega arith) (omega arith), λ k. all_from f 8 0 (λ p low high. k p (omega arith)))

pub no_partition_passes : (f : ℕ → Bool) → list_any f every_partition ≡ false ↔ ((p : ℕ) → p < 8 → f p ≡ false)
no_partition_passes f = (
  λ h p low. not-true (f p) ((every_partition_passes (λ q. not (f q))).0 ((none_all f every_partition).0 h) p low),
  λ k. (none_all f every_partition).1 ((every_partition_passes (λ q. not (f q))).1 (λ p low. rw (k p low))),
)
