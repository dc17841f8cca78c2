-- The library's walks over a range of numbers, as tests of all elements of a list.
use Rattle.std.specs.Prelude.{ℕ, zero, suc, ◌+◌, Bool, ◌≡◌, refl}
use Rattle.std.proofs.Common.{ap, ap₂, sym, ◌∙◌, arith}
use Rattle.std.proofs.Math.Bool.{◌&&◌, ◌||◌}
use Rattle.std.specs.List.{list_any, list_all, range_with_len}
use Rattle.std.specs.declared.ops.Range.{Range}
use Rattle.std.specs.Fn.{Called}
use Rattle.std.specs.Iterator.{ChecksAny, ChecksAll}
use Rattle.std.proofs.lemmas.Iterator.{YieldsList-from_range}
use Rattle.std.proofs.lemmas.Iterator.Search.{any_from_yields_List, all_from_yields_List}
use Rattle.std.proofs.iter.Yields.{nat_range_steps}
use denote.Param.Members.{Mut}
use Rattle.laws.specs.Tabs.{tab}

same_place : (a : ℕ) → a ≡ a + 0
same_place a = omega arith

next_place : (a i : ℕ) → a + suc i ≡ a + 1 + i
next_place a i = omega arith

next_zero : (i : ℕ) → i ≡ 0 + i
next_zero i = omega arith

module _ {A : Type 0} where
  module _ (f : A → Bool) (g : ℕ → A) where
    any_from : (h : ℕ → A) (a n : ℕ) → ((i : ℕ) → g (a + i) ≡ h i) → list_any (λ i. f (g i)) (range_with_len a n) ≡ list_any f (tab n h)
    unfolding tab
    any_from h a zero same = refl
    any_from h a (suc n) same =
        ap₂ ◌||◌ (ap f (ap g (same_place a) ∙ same 0))
        (any_from (λ i. h (suc i)) (a + 1) n (λ i. sym (ap g (next_place a i)) ∙ same (suc i)))

    all_from : (h : ℕ → A) (a n : ℕ) → ((i : ℕ) → g (a + i) ≡ h i) → list_all (λ i. f (g i)) (range_with_len a n) ≡ list_all f (tab n h)
    unfolding tab
    all_from h a zero same = refl
    all_from h a (suc n) same =
        ap₂ ◌&&◌ (ap f (ap g (same_place a) ∙ same 0))
        (all_from (λ i. h (suc i)) (a + 1) n (λ i. sym (ap g (next_place a i)) ∙ same (suc i)))

    -- A test asked of the first n numbers, by what a function gives at each.
    pub any_range : (n : ℕ) → list_any (λ i. f (g i)) (range_with_len 0 n) ≡ list_any f (tab n g)
    any_range n = any_from g 0 n (λ i. ap g (sym (next_zero i)))

    pub all_range : (n : ℕ) → list_all (λ i. f (g i)) (range_with_len 0 n) ≡ list_all f (tab n g)
    all_range n = all_from g 0 n (λ i. ap g (sym (next_zero i)))

-- The numbers below n.
abbrev pub below : ℕ → Range ℕ
below n = record { start = 0; end = n }

-- What a closure answers at the numbers below n, where it asks a test of what a function gives at each: `any` and `all` answer the test of the first n values.
module _ {A F : Type 0} {g : Mut F (ℕ × Unit {0}) Bool} (test : A → Bool) (f : ℕ → A) (asked : F)
    (says : (x : ℕ) (b : Bool) (q : F) → Called g asked (x, tt) b q → (q ≡ asked) × (b ≡ test (f x))) (n : ℕ) (u : Range ℕ) (r : Bool) where
  pub asked_any : ChecksAny nat_range_steps g (below n) asked r u → r ≡ list_any test (tab n f)
  asked_any d = any_from_yields_List (λ i. test (f i)) u asked r d (YieldsList-from_range 0 n n refl (omega arith)) says ∙ any_range test f n

  pub asked_all : ChecksAll nat_range_steps g (below n) asked r u → r ≡ list_all test (tab n f)
  asked_all d = all_from_yields_List (λ i. test (f i)) u asked r d (YieldsList-from_range 0 n n refl (omega arith)) says ∙ all_range test f n
