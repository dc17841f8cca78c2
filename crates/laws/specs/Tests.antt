-- Small facts on tests and on lists of tests, used by every claim. Nothing here is about the ledger.
use Rattle.std.specs.Prelude.{ℕ, zero, suc, Bool, true, false, not, ◌&&◌, ◌||◌, List, [], ◌∷◌, ◌++◌, ◌↔◌, ◌⊎◌, ◌≡◌, refl, take, drop, insert}
use Rattle.std.specs.List.{list_any, list_all}
use Rattle.std.proofs.Common.{true≢false, inl, inr, sym, ◌∙◌}
use Rattle.std.proofs.lemmas.Bool.{false≢true}

-- A case split on a test: in each arm the test's value is an equation, for `rw`.
pub split {ℓ} : {C : Type ℓ} (b : Bool) → (b ≡ true → C) → (b ≡ false → C) → C
split true yea nay = yea refl
split false yea nay = nay refl

pub never {ℓ} : {C : Type ℓ} (b : Bool) → b ≡ true → b ≡ false → C
never b p q = absurd (true≢false (sym p ∙ q))

pub and_left : (a b : Bool) → (a && b) ≡ true → a ≡ true
and_left true b h = refl
and_left false b h = h

pub and_right : (a b : Bool) → (a && b) ≡ true → b ≡ true
and_right true b h = h
and_right false b h = absurd (false≢true h)

pub and_both : (a b : Bool) → a ≡ true → b ≡ true → (a && b) ≡ true
and_both a b p q = rw (p, q)

pub or_left : (a b : Bool) → (a || b) ≡ false → a ≡ false
or_left true b h = h
or_left false b h = refl

pub or_right : (a b : Bool) → (a || b) ≡ false → b ≡ false
or_right true b h = absurd (true≢false h)
or_right false b h = h

pub or_neither : (a b : Bool) → a ≡ false → b ≡ false → (a || b) ≡ false
or_neither a b p q = rw (p, q)

pub or_cases : (a b : Bool) → (a || b) ≡ true → (a ≡ true) ⊎ (b ≡ true)
or_cases true b h = inl refl
or_cases false b h = inr h

pub or_first : (a b : Bool) → a ≡ true → (a || b) ≡ true
or_first a b p = rw p

pub or_second : (a b : Bool) → b ≡ true → (a || b) ≡ true
or_second true b p = refl
or_second false b p = p

module _ {A : Type 0} where
  -- a test holds of every element; of none
  pub all_at : (f : A → Bool) (xs : List A) (x : A) (ys : List A) → list_all f (xs ++ x ∷ ys) ≡ true → f x ≡ true
  all_at f [] x ys h = and_left (f x) (list_all f ys) h
  all_at f (y ∷ xs) x ys h = all_at f xs x ys (and_right (f y) (list_all f (xs ++ x ∷ ys)) h)

  pub any_at : (f : A → Bool) (xs : List A) (x : A) (ys : List A) → list_any f (xs ++ x ∷ ys) ≡ false → f x ≡ false
  any_at f [] x ys h = or_left (f x) (list_any f ys) h
  any_at f (y ∷ xs) x ys h = any_at f xs x ys (or_right (f y) (list_any f (xs ++ x ∷ ys)) h)

  -- the same for tests that agree, or one of which follows from the other
  pub all_weaken : (f g : A → Bool) → ((x : A) → f x ≡ true → g x ≡ true) → (xs : List A) → list_all f xs ≡ true → list_all g xs ≡ true
  all_weaken f g k [] h = refl
  all_weaken f g k (x ∷ xs) h =
      and_both (g x) (list_all g xs) (k x (and_left (f x) (list_all f xs) h)) (all_weaken f g k xs (and_right (f x) (list_all f xs) h))

  pub any_weaken : (f g : A → Bool) → ((x : A) → f x ≡ false → g x ≡ false) → (xs : List A) → list_any f xs ≡ false → list_any g xs ≡ false
  any_weaken f g k [] h = refl
  any_weaken f g k (x ∷ xs) h =
      or_neither (g x) (list_any g xs) (k x (or_left (f x) (list_any f xs) h)) (any_weaken f g k xs (or_right (f x) (list_any f xs) h))

  pub all_same : (f g : A → Bool) → ((x : A) → f x ≡ g x) → (xs : List A) → list_all f xs ≡ list_all g xs
  all_same f g k [] = refl
  all_same f g k (x ∷ xs) = rw (k x, all_same f g k xs)

  pub any_same : (f g : A → Bool) → ((x : A) → f x ≡ g x) → (xs : List A) → list_any f xs ≡ list_any g xs
  any_same f g k [] = refl
  any_same f g k (x ∷ xs) = rw (k x, any_same f g k xs)

  pub all_append : (f : A → Bool) (xs ys : List A) → list_all f (xs ++ ys) ≡ (list_all f xs && list_all f ys)
  all_append f [] ys = refl
  all_append f (x ∷ xs) ys = split (f x) (λ q. rw (q, all_append f xs ys)) (λ q. rw q)

  pub any_append : (f : A → Bool) (xs ys : List A) → list_any f (xs ++ ys) ≡ (list_any f xs || list_any f ys)
  any_append f [] ys = refl
  any_append f (x ∷ xs) ys = split (f x) (λ q. rw q) (λ q. rw (q, any_append f xs ys))

  pub none_all : (f : A → Bool) (xs : List A) → list_any f xs ≡ false ↔ (list_all (λ x. not (f x)) xs ≡ true)
  none_all f [] = (λ h. refl, λ h. refl)
  none_all f (x ∷ xs) =
      split (f x) (λ q. rw q (λ h. absurd (true≢false h), λ h. absurd (false≢true h))) (λ q. rw q (none_all f xs))

  pub all_take : (f : A → Bool) (n : ℕ) (xs : List A) → list_all f xs ≡ true → list_all f (take n xs) ≡ true
  all_take f zero xs h = refl
  all_take f (suc n) [] h = refl
  all_take f (suc n) (x ∷ xs) h =
      and_both (f x) (list_all f (take n xs)) (and_left (f x) (list_all f xs) h) (all_take f n xs (and_right (f x) (list_all f xs) h))

  pub all_drop : (f : A → Bool) (n : ℕ) (xs : List A) → list_all f xs ≡ true → list_all f (drop n xs) ≡ true
  all_drop f zero xs h = h
  all_drop f (suc n) [] h = refl
  all_drop f (suc n) (x ∷ xs) h = all_drop f n xs (and_right (f x) (list_all f xs) h)

  -- a newcomer that passes a test joins a list that passes it
  pub all_insert : (f : A → Bool) (i : ℕ) (x : A) (xs : List A) → f x ≡ true → list_all f xs ≡ true → list_all f (insert xs i x) ≡ true
  all_insert f i x xs p h =
      all_append f (take i xs) (x ∷ drop i xs)
      ∙ and_both (list_all f (take i xs)) (f x && list_all f (drop i xs)) (all_take f i xs h)
      (and_both (f x) (list_all f (drop i xs)) p (all_drop f i xs h))
