-- What the tests on lists say of their members: some element, every element, a key that two lists share.
use Rattle.std.specs.Prelude.{ℕ, ◌≤◌, ◌<◌, Bool, true, false, ◌↔◌, ◌≡◌, refl, eqb, ltb}
use Rattle.std.specs.List.{list_any, list_all}
use mathlib.Core.List.Memᴰ
use mathlib.Core.List.{List, [], ◌∷◌, Memᴰ}
use Rattle.std.proofs.Common.{⊎_elim, sym, ap, ◌∙◌, subst, eqb-true, eq-eqb, ltb-true, arith}
use Rattle.std.proofs.Math.Option.{some}
use Rattle.rules.specs.Lists.{member}
use Rattle.rules.specs.Keys.{above, ascending, shared, meet}
use Rattle.laws.specs.Tests.{split, never, and_left, and_right, and_both, or_cases, or_first, or_second}

module _ {A : Type 0} (f : A → Bool) where
  -- some element passes the test
  pub any_found : (xs : List A) → list_any f xs ≡ true → (x : A) × Memᴰ x xs × (f x ≡ true)
  any_found [] h = never false h refl
  any_found (x ∷ xs) h =
      ⊎_elim (λ q. (x, Memᴰ.head refl, q)) (λ q. let r = any_found xs q in (r.0, Memᴰ.tail r.1, r.2))
      (or_cases (f x) (list_any f xs) h)

  pub any_member : (x : A) (xs : List A) → Memᴰ x xs → f x ≡ true → list_any f xs ≡ true
  any_member x [] m h = absurd (Memᴰ.not-nil m)
  any_member x (y ∷ xs) m h =
      ⊎_elim (λ q. or_first (f y) (list_any f xs) (ap f (sym q) ∙ h)) (λ q. or_second (f y) (list_any f xs) (any_member x xs q h))
      (Memᴰ.cases_cons m)

  -- no element passes it
  pub any_none : (xs : List A) → list_any f xs ≡ false → (x : A) → Memᴰ x xs → f x ≡ false
  any_none xs h x m = split (f x) (λ q. never (list_any f xs) (any_member x xs m q) h) (λ q. q)

  pub any_nowhere : (xs : List A) → ((x : A) → Memᴰ x xs → f x ≡ false) → list_any f xs ≡ false
  any_nowhere xs k = split (list_any f xs) (λ q. let r = any_found xs q in never (f r.0) r.2 (k r.0 r.1)) (λ q. q)

  -- every element passes it
  pub all_member : (xs : List A) → list_all f xs ≡ true → (x : A) → Memᴰ x xs → f x ≡ true
  all_member [] h x m = absurd (Memᴰ.not-nil m)
  all_member (y ∷ xs) h x m =
      ⊎_elim (λ q. ap f q ∙ and_left (f y) (list_all f xs) h) (λ q. all_member xs (and_right (f y) (list_all f xs) h) x q)
      (Memᴰ.cases_cons m)

  pub all_everywhere : (xs : List A) → ((x : A) → Memᴰ x xs → f x ≡ true) → list_all f xs ≡ true
  all_everywhere [] k = refl
  all_everywhere (x ∷ xs) k =
      and_both (f x) (list_all f xs) (k x (Memᴰ.head refl)) (all_everywhere xs (λ y m. k y (Memᴰ.tail m)))

pub member_exactly : (x : ℕ) (ys : List ℕ) → member x ys ≡ true ↔ Memᴰ x ys
member_exactly x ys = (
  λ h. let r = any_found (eqb x) ys h in subst (λ (z : ℕ). Memᴰ z ys) (sym (eqb-true x r.0 r.2)) r.1,
  λ m. any_member (eqb x) x ys m (eq-eqb x x refl),
)

-- Two lists of keys have a key in common; they have none.
pub Common : List ℕ → List ℕ → Type 0
Common xs ys = (key : ℕ) × Memᴰ key xs × Memᴰ key ys

pub Apart : List ℕ → List ℕ → Type 0
Apart xs ys = (key : ℕ) → Memᴰ key xs → Memᴰ key ys → ⊥

pub meet_any : (xs ys : List ℕ) → meet xs ys ≡ list_any (λ x. member x ys) xs
unfolding meet shared
meet_any [] ys = refl
meet_any (x ∷ xs) ys = split (member x ys) (λ q. rw q) (λ q. rw q (meet_any xs ys))

pub meet_exactly : (xs ys : List ℕ) → meet xs ys ≡ true ↔ Common xs ys
unfolding Common
meet_exactly xs ys = (
  λ h. let r = any_found (λ x. member x ys) xs (sym (meet_any xs ys) ∙ h) in (r.0, r.1, (member_exactly r.0 ys).0 r.2),
  λ c. meet_any xs ys ∙ any_member (λ x. member x ys) c.0 xs c.1 ((member_exactly c.0 ys).1 c.2),
)

pub apart_exactly : (xs ys : List ℕ) → meet xs ys ≡ false ↔ Apart xs ys
unfolding Common Apart
apart_exactly xs ys = (
  λ h key p q. never (meet xs ys) ((meet_exactly xs ys).1 (key, p, q)) h,
  λ a. split (meet xs ys) (λ q. let c = (meet_exactly xs ys).0 q in absurd (a c.0 c.1 c.2)) (λ q. q),
)

-- What stands above a key in an ascending list is larger than it.
pub above_larger : (x : ℕ) (xs : List ℕ) → above x xs ≡ true → (y : ℕ) → Memᴰ y xs → x < y
unfolding above
above_larger x [] h y m = absurd (Memᴰ.not-nil m)
above_larger x (z ∷ xs) h y m =
    let first : x < z = ltb-true x z (and_left (ltb x z) (above z xs) h) in
    ⊎_elim (λ q. subst (λ (n : ℕ). x < n) (sym q) first)
    (λ q. let rest : z < y = above_larger z xs (and_right (ltb x z) (above z xs) h) y q in omega arith) (Memᴰ.cases_cons m)

pub ascending_rest : (x : ℕ) (xs : List ℕ) → ascending (x ∷ xs) ≡ true → ascending xs ≡ true
unfolding ascending above
ascending_rest x [] h = refl
ascending_rest x (y ∷ xs) h = and_right (ltb x y) (above y xs) h

ascending_least : (x : ℕ) (xs : List ℕ) → ascending (x ∷ xs) ≡ true → (y : ℕ) → Memᴰ y (x ∷ xs) → x ≤ y
unfolding ascending
ascending_least x xs a y m =
    ⊎_elim (λ q. omega arith) (λ q. let larger : x < y = above_larger x xs a y q in omega arith) (Memᴰ.cases_cons m)

-- The shared key is the smallest that both lists hold.
pub record Smallest (xs ys : List ℕ) (key : ℕ) : Type 0 where
  pub one : Memᴰ key xs
  pub other : Memᴰ key ys
  pub least : (other_key : ℕ) → Memᴰ other_key xs → Memᴰ other_key ys → key ≤ other_key

shared_first : (x : ℕ) (xs ys : List ℕ) → member x ys ≡ true → ascending (x ∷ xs) ≡ true → Smallest (x ∷ xs) ys x
shared_first x xs ys q a =
    record {
      one = Memᴰ.head refl;
      other = (member_exactly x ys).0 q;
      least = λ y m n. ascending_least x xs a y m;
    }

shared_later : (x key : ℕ) (xs ys : List ℕ) → member x ys ≡ false → Smallest xs ys key → Smallest (x ∷ xs) ys key
shared_later x key xs ys q r =
    record {
      one = Memᴰ.tail r.one;
      other = r.other;
      least = λ y m n. ⊎_elim (λ e. absurd (absent y e n)) (λ k. r.least y k n) (Memᴰ.cases_cons m);
    }
  where
    absent : (y : ℕ) → y ≡ x → Memᴰ y ys → ⊥
    absent y e n = never (member x ys) (subst (λ (z : ℕ). member z ys ≡ true) e ((member_exactly y ys).1 n)) q

pub shared_smallest : (xs ys : List ℕ) (key : ℕ) → ascending xs ≡ true → shared xs ys ≡ some key → Smallest xs ys key
unfolding shared
shared_smallest [] ys key a h = let z : ◌≡◌ {A = ℕ} 0 1 = cc in absurd (omega arith)
shared_smallest (x ∷ xs) ys key a h =
    split (member x ys)
    (λ q. let e : x ≡ key = cc in subst (λ (n : ℕ). Smallest (x ∷ xs) ys n) e (shared_first x xs ys q a))
    (λ q. shared_later x key xs ys q (shared_smallest xs ys key (ascending_rest x xs a) (rw q at h)))
