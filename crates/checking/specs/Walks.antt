-- Walks over the first values of a function, from the front: what is asked of all of them is what is asked of those still to come.
use Rattle.std.specs.Prelude.{ℕ, zero, suc, ◌+◌, ◌-◌, ◌≤◌, ◌<◌, Bool, not, ◌&&◌, ◌||◌, List, [], ◌∷◌, ◌≡◌, refl, length, drop}
use Rattle.std.proofs.Common.{ap, sym, ◌∙◌, arith, drop-cons, drop_of_length-le}
use Rattle.std.proofs.Math.Numerals.{add-one}
use Rattle.std.specs.List.{list_any, list_all, range_with_len}
use Rattle.rules.specs.Lists.{member}
use Rattle.rules.specs.Soundness.{different}
use Rattle.laws.specs.Tabs.{tab, length_tab, get_or_tab}

module _ {A : Type 0} where
  -- g i, .., g (n - 1): those still to come.
  unfoldable pub rest : ℕ → (ℕ → A) → ℕ → List A
  rest n g i = drop i (tab n g)

  rest_here : (n : ℕ) (g : ℕ → A) (i : ℕ) → i < n → rest n g i ≡ g i ∷ rest n g (i + 1)
  unfolding rest
  rest_here n g i low =
      let within : i < length (tab n g) = rw (length_tab n g) low in
      rw add-one (drop-cons (tab n g) i (g i) within ∙ ap (λ (x : A). x ∷ drop (suc i) (tab n g)) (get_or_tab n g i (g i) low))

  rest_none : (n : ℕ) (g : ℕ → A) (i : ℕ) → n ≤ i → rest n g i ≡ []
  unfolding rest
  rest_none n g i past = let beyond : length (tab n g) ≤ i = rw (length_tab n g) past in drop_of_length-le (tab n g) beyond

  rest_all : (n : ℕ) (g : ℕ → A) → rest n g 0 ≡ tab n g
  unfolding rest
  rest_all n g = refl

  -- A test asked of the numbers from a place on, by what a function gives at each.
  any_from : (f : A → Bool) (g : ℕ → A) (n i m : ℕ) → m ≡ n - i → list_any (λ j. f (g j)) (range_with_len i m) ≡ list_any f (rest n g i)
  any_from f g n i zero e = ap (list_any f) (sym (rest_none n g i (omega arith)))
  any_from f g n i (suc m) e =
      ap (λ (b : Bool). f (g i) || b) (any_from f g n (i + 1) m (omega arith)) ∙ ap (list_any f) (sym (rest_here n g i (omega arith)))

  pub any_rest : (f : A → Bool) (g : ℕ → A) (n i : ℕ) → list_any (λ j. f (g j)) (range_with_len i (n - i)) ≡ list_any f (rest n g i)
  any_rest f g n i = any_from f g n i (n - i) refl

-- They differ exactly if none of them is among those behind it.
different_from : (g : ℕ → ℕ) (n i m : ℕ) → m ≡ n - i
    → list_all (λ j. not (member (g j) (rest n g (j + 1)))) (range_with_len i m) ≡ different (rest n g i)
unfolding different
different_from g n i zero e = ap different (sym (rest_none n g i (omega arith)))
different_from g n i (suc m) e =
    ap (λ (b : Bool). not (member (g i) (rest n g (i + 1))) && b) (different_from g n (i + 1) m (omega arith))
    ∙ ap different (sym (rest_here n g i (omega arith)))

pub different_all : (g : ℕ → ℕ) (n : ℕ) → list_all (λ j. not (member (g j) (rest n g (j + 1)))) (range_with_len 0 n) ≡ different (tab n g)
different_all g n = different_from g n 0 n (omega arith) ∙ ap different (rest_all n g)
