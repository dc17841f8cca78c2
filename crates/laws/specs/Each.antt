-- A property of every element of a list, what a test doesn't see of a list, and a place at which a test holds. Nothing here is about the ledger.
use Rattle.std.specs.Prelude.{ℕ, zero, suc, Bool, true, false, ◌⊎◌, ◌≡◌, refl, insert}
use Rattle.std.specs.List.{list_any, list_all}
use Rattle.std.proofs.lemmas.Bool.{false≢true}
use mathlib.Core.List.{List, [], ◌∷◌, ◌++◌, map, head-eq_of_cons-eq, tail-eq_of_cons-eq, append_assoc}
use Rattle.std.proofs.Common.{inl, inr, sym, ap, ◌∙◌}
use Rattle.laws.specs.Tests.{split, or_left, or_right, or_neither}

-- The element at which a test holds, with what stands before and behind it.
pub record Found {A : Type 0} (f : A → Bool) (xs : List A) : Type 0 where
  pub front : List A
  pub element : A
  pub back : List A
  pub stands : xs ≡ front ++ element ∷ back
  pub holds : f element ≡ true

module _ {A : Type 0} where
  abbrev pub Each : (A → Type 0) → List A → Type 0
  Each P [] = Unit {0}
  Each P (x ∷ xs) = P x × Each P xs

  pub each_map : (f : A → A) (P Q : A → Type 0) → ((x : A) → P x → Q (f x)) → (xs : List A) → Each P xs → Each Q (map f xs)
  each_map f P Q k [] h = tt
  each_map f P Q k (x ∷ xs) h = (k x h.0, each_map f P Q k xs h.1)

  pub each_weaken : (P Q : A → Type 0) → ((x : A) → P x → Q x) → (xs : List A) → Each P xs → Each Q xs
  each_weaken P Q k [] h = tt
  each_weaken P Q k (x ∷ xs) h = (k x h.0, each_weaken P Q k xs h.1)

  pub each_always : (P : A → Type 0) → ((x : A) → P x) → (xs : List A) → Each P xs
  each_always P k [] = tt
  each_always P k (x ∷ xs) = (k x, each_always P k xs)

  pub each_both : (P Q : A → Type 0) (xs : List A) → Each P xs → Each Q xs → Each (λ x. P x × Q x) xs
  each_both P Q [] g h = tt
  each_both P Q (x ∷ xs) g h = ((g.0, h.0), each_both P Q xs g.1 h.1)

  -- a newcomer joins a list
  pub each_insert : (P : A → Type 0) (i : ℕ) (x : A) (xs : List A) → P x → Each P xs → Each P (insert xs i x)
  each_insert P zero x xs p h = (p, h)
  each_insert P (suc i) x [] p h = (p, h)
  each_insert P (suc i) x (y ∷ xs) p h = (h.0, each_insert P i x xs p h.1)

  -- a test that holds of none
  pub each_false : (f : A → Bool) (xs : List A) → list_any f xs ≡ false → Each (λ x. f x ≡ false) xs
  each_false f [] h = tt
  each_false f (x ∷ xs) h = (or_left (f x) (list_any f xs) h, each_false f xs (or_right (f x) (list_any f xs) h))

  pub any_false : (f : A → Bool) (xs : List A) → Each (λ x. f x ≡ false) xs → list_any f xs ≡ false
  any_false f [] h = refl
  any_false f (x ∷ xs) h = or_neither (f x) (list_any f xs) h.0 (any_false f xs h.1)

  -- two tests that agree wherever a third fails
  pub all_same_where : (f g k : A → Bool) → ((x : A) → k x ≡ false → f x ≡ g x) → (xs : List A) → list_any k xs ≡ false → list_all f xs ≡ list_all g xs
  all_same_where f g k same [] h = refl
  all_same_where f g k same (x ∷ xs) h =
      rw (same x (or_left (k x) (list_any k xs) h), all_same_where f g k same xs (or_right (k x) (list_any k xs) h))

  -- a map that a test doesn't see, that another map doesn't see, that changes nothing
  module _ (f : A → A) where
    pub any_unseen : (k : A → Bool) → ((x : A) → k (f x) ≡ k x) → (xs : List A) → list_any k (map f xs) ≡ list_any k xs
    any_unseen k same [] = refl
    any_unseen k same (x ∷ xs) = rw (same x, any_unseen k same xs)

    pub all_unseen : (k : A → Bool) → ((x : A) → k (f x) ≡ k x) → (xs : List A) → list_all k (map f xs) ≡ list_all k xs
    all_unseen k same [] = refl
    all_unseen k same (x ∷ xs) = rw (same x, all_unseen k same xs)

    pub map_unseen : (g : A → A) → ((x : A) → f (g x) ≡ f x) → (xs : List A) → map f (map g xs) ≡ map f xs
    map_unseen g same [] = refl
    map_unseen g same (x ∷ xs) = rw (same x, map_unseen g same xs)

    pub map_same : (xs : List A) → Each (λ x. f x ≡ x) xs → map f xs ≡ xs
    map_same [] h = refl
    map_same (x ∷ xs) h = rw (h.0, map_same xs h.1)

  -- a test that holds of some element holds at a place
  pub found_place : (f : A → Bool) (xs : List A) → list_any f xs ≡ true → Found f xs
  found_place f [] h = absurd (false≢true h)
  found_place f (x ∷ xs) h =
      split (f x)
      (λ q. record { front = []; element = x; back = xs; stands = refl; holds = q })
      (λ q. let later = found_place f xs (rw q at h) in
      record {
        front = x ∷ later.front;
        element = later.element;
        back = later.back;
        stands = ap (λ (ys : List A). x ∷ ys) later.stands;
        holds = later.holds;
      })

  -- two places of one list: the same, or one before the other
  pub two_places : (us xs : List A) (x y : A) (vs ys : List A) → us ++ x ∷ vs ≡ xs ++ y ∷ ys
      → (x ≡ y) ⊎ ((zs : List A) × (xs ≡ us ++ x ∷ zs)) ⊎ ((zs : List A) × (us ≡ xs ++ y ∷ zs))
  two_places [] [] x y vs ys h = inl (head-eq_of_cons-eq h)
  two_places [] (z ∷ xs) x y vs ys h = inr (inl (xs, ap (λ (a : A). a ∷ xs) (sym (head-eq_of_cons-eq h))))
  two_places (z ∷ us) [] x y vs ys h = inr (inr (us, ap (λ (a : A). a ∷ us) (head-eq_of_cons-eq h)))
  two_places (z ∷ us) (a ∷ xs) x y vs ys h =
      let same : z ≡ a = head-eq_of_cons-eq h in
      elim (two_places us xs x y vs ys (tail-eq_of_cons-eq h)) [
        | inl e ↦ inl e
        | inr (inl e) ↦ inr (inl (e.0, cc e.1))
        | inr (inr e) ↦ inr (inr (e.0, cc e.1))
      ]

  -- a list in two parts, and a place in the first, in the second, in both
  pub place_in_first : (xs : List A) (x : A) (ys rest : List A) {all before : List A} → all ≡ before ++ rest
      → before ≡ xs ++ x ∷ ys → all ≡ xs ++ x ∷ (ys ++ rest)
  place_in_first xs x ys rest cut p = rw (cut, p) (append_assoc xs (x ∷ ys) rest)

  pub place_in_second : (before us : List A) (y : A) (vs : List A) {all rest : List A} → all ≡ before ++ rest
      → rest ≡ us ++ y ∷ vs → all ≡ before ++ us ++ y ∷ vs
  place_in_second before us y vs cut q = rw (cut, q) (sym (append_assoc before us (y ∷ vs)))

  pub places_in_both : (xs : List A) (x : A) (ys us : List A) (y : A) (vs : List A) {all before rest : List A} → all ≡ before ++ rest
      → before ≡ xs ++ x ∷ ys → rest ≡ us ++ y ∷ vs → all ≡ xs ++ x ∷ (ys ++ us) ++ y ∷ vs
  places_in_both xs x ys us y vs cut p q = rw (cut, p, q) (simp append_assoc)

  -- the next place
  pub next_place : (before rest : List A) (x : A) {all : List A} → all ≡ before ++ x ∷ rest → all ≡ before ++ x ∷ [] ++ rest
  next_place before rest x cut = cut ∙ sym (append_assoc before (x ∷ []) rest)
