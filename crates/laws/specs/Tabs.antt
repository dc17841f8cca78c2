-- The list of a function's first values, and what taking, dropping, mapping, testing and inserting make of it.
use Prim.Native.Nat.{ℕ, zero, suc, ◌+◌, ◌-◌, ◌≤◌, ◌<◌, min}
use mathlib.Core.List.{List, [], ◌∷◌, ◌++◌, map}
use Rattle.std.specs.Prelude.{◌≡◌, length, take, drop, insert}
use Rattle.std.proofs.Math.Path.{refl, ap, ap₂}
use Rattle.std.proofs.Common.{◌∙◌, le_of_suc-le-suc, not-suc-le-zero, drop-cons}
use native.Mathlib.Omega.{arith}
use Rattle.std.proofs.Math.ListN.{get_or}
use Rattle.laws.specs.Cuts.{cut}

shift : (o j : ℕ) → o + suc j ≡ suc o + j
shift o j = omega arith

module _ {A : Type 0} where
  -- f 0, f 1, .., f (n - 1)
  unfoldable pub tab : ℕ → (ℕ → A) → List A
  tab zero f = []
  tab (suc n) f = f 0 ∷ tab n (λ i. f (suc i))

  pub length_tab : (n : ℕ) (f : ℕ → A) → length (tab n f) ≡ n
  unfolding tab
  length_tab zero f = refl
  length_tab (suc n) f = ap suc (length_tab n (λ i. f (suc i)))

  pub tab_same : (n : ℕ) (f g : ℕ → A) → ((i : ℕ) → i < n → f i ≡ g i) → tab n f ≡ tab n g
  unfolding tab
  tab_same zero f g k = refl
  tab_same (suc n) f g k = ap₂ (λ (x : A) (l : List A). x ∷ l) (k 0 (omega arith)) (tab_same n (λ i. f (suc i)) (λ i. g (suc i)) (λ i h. k (suc i) (omega arith)))

  pub get_or_tab : (n : ℕ) (f : ℕ → A) (i : ℕ) (d : A) → i < n → get_or (tab n f) i d ≡ f i
  unfolding tab
  get_or_tab zero f i d h = absurd (not-suc-le-zero h)
  get_or_tab (suc n) f zero d h = refl
  get_or_tab (suc n) f (suc i) d h = get_or_tab n (λ j. f (suc j)) i d (le_of_suc-le-suc h)

  -- one value more, in front; at the end
  pub tab_cons : (n : ℕ) (f : ℕ → A) → tab (suc n) f ≡ f 0 ∷ tab n (λ i. f (suc i))
  unfolding tab
  tab_cons n f = refl

  pub tab_suc : (n : ℕ) (f : ℕ → A) → tab (suc n) f ≡ tab n f ++ f n ∷ []
  unfolding tab
  tab_suc zero f = refl
  tab_suc (suc n) f = ap (λ (l : List A). f 0 ∷ l) (tab_suc n (λ i. f (suc i)))

  pub take_tab : (m n : ℕ) (f : ℕ → A) → m ≤ n → take m (tab n f) ≡ tab m f
  unfolding tab
  take_tab zero n f h = refl
  take_tab (suc m) zero f h = absurd (not-suc-le-zero h)
  take_tab (suc m) (suc n) f h = ap (λ (l : List A). f 0 ∷ l) (take_tab m n (λ i. f (suc i)) (le_of_suc-le-suc h))

  pub tab_as : (n m : ℕ) (f g : ℕ → A) → n ≡ m → ((i : ℕ) → f i ≡ g i) → tab n f ≡ tab m g
  tab_as n m f g e k = tab_same n f g (λ i h. k i) ∙ ap (λ (n : ℕ). tab n g) e

  pub take_tab_min : (m n : ℕ) (f : ℕ → A) → take m (tab n f) ≡ tab (min m n) f
  unfolding tab
  take_tab_min zero n f = tab_as 0 (min 0 n) f f (omega arith) (λ i. refl)
  take_tab_min (suc m) zero f = tab_as 0 (min (suc m) 0) f f (omega arith) (λ i. refl)
  take_tab_min (suc m) (suc n) f =
      ap (λ (l : List A). f 0 ∷ l) (take_tab_min m n (λ i. f (suc i)))
      ∙ tab_as (suc (min m n)) (min (suc m) (suc n)) f f (omega arith) (λ i. refl)

  pub drop_tab : (m n : ℕ) (f : ℕ → A) → drop m (tab n f) ≡ tab (n - m) (λ i. f (m + i))
  unfolding tab
  drop_tab zero n f = tab_as n (n - 0) f (λ i. f (0 + i)) (omega arith) (λ i. ap f (omega arith))
  drop_tab (suc m) zero f = tab_as 0 (0 - suc m) (λ i. f (suc m + i)) (λ i. f (suc m + i)) (omega arith) (λ i. refl)
  drop_tab (suc m) (suc n) f =
      drop_tab m n (λ i. f (suc i))
      ∙ tab_as (n - m) (suc n - suc m) (λ i. f (suc (m + i))) (λ i. f (suc m + i)) (omega arith) (λ i. ap f (omega arith))

  -- a newcomer put in at a place
  pub tab_insert : (n i : ℕ) (x : A) (f g : ℕ → A) → i ≤ n → ((j : ℕ) → j < i → g j ≡ f j) → g i ≡ x
      → ((j : ℕ) → i ≤ j → j < n → g (suc j) ≡ f j) → tab (suc n) g ≡ insert (tab n f) i x
  unfolding tab
  tab_insert n zero x f g low before at behind =
      ap₂ (λ (y : A) (l : List A). y ∷ l) at (tab_same n (λ j. g (suc j)) f (λ j h. behind j (omega arith) h))
  tab_insert zero (suc i) x f g low before at behind = absurd (not-suc-le-zero low)
  tab_insert (suc n) (suc i) x f g low before at behind =
      ap₂ (λ (y : A) (l : List A). y ∷ l) (before 0 (omega arith))
      (tab_insert n i x (λ j. f (suc j)) (λ j. g (suc j)) (le_of_suc-le-suc low) (λ j h. before (suc j) (omega arith)) at
      (λ j h k. behind (suc j) (omega arith) (omega arith)))

  -- a list is the tab of its elements, and so is a cut of it
  pub tab_list : (l : List A) (d : A) → tab (length l) (λ j. get_or l j d) ≡ l
  unfolding tab
  tab_list [] d = refl
  tab_list (x ∷ l) d = ap (λ (xs : List A). x ∷ xs) (tab_list l d)

  pub tab_cut : (o n : ℕ) (l : List A) (d : A) → o + n ≤ length l → tab n (λ j. get_or l (o + j) d) ≡ cut o n l
  unfolding tab cut
  tab_cut o zero l d h = refl
  tab_cut o (suc n) l d h =
      let e : o + 0 ≡ o = omega arith in
      rw (drop-cons l o d (omega arith))
      (ap₂ (λ (x : A) (xs : List A). x ∷ xs) (ap (λ (k : ℕ). get_or l k d) e)
      (tab_same n (λ j. get_or l (o + suc j) d) (λ j. get_or l (suc o + j) d) (λ j low. ap (λ (k : ℕ). get_or l k d) (shift o j))
      ∙ tab_cut (suc o) n l d (omega arith)))

pub map_tab : {A B : Type 0} (h : A → B) (n : ℕ) (f : ℕ → A) → map h (tab n f) ≡ tab n (λ i. h (f i))
unfolding tab
map_tab h zero f = refl
map_tab {B} h (suc n) f = ap (λ (l : List B). h (f 0) ∷ l) (map_tab h n (λ i. f (suc i)))
