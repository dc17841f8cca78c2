-- Lists and their texts: what is written of a list is read back, and a list has one text, where that holds of its items.
use Rattle.std.specs.Prelude.{ℕ, ◌<◌, true, false, ◌≡◌, refl, map, length, get_or}
use mathlib.Core.List.Memᴰ
use mathlib.Core.List.{List, [], ◌∷◌, Memᴰ}
use Rattle.std.proofs.Common.{⊎_elim, sym, ap, ap₂, subst, ◌∙◌, arith, eqb-true}
use Rattle.std.proofs.lemmas.Bool.{false≢true}
use Rattle.std.proofs.Math.Option.{Option, none, some, bind}
use Rattle.rules.specs.Lists.{member}
use Rattle.std.specs.List.{list_all}
use Rattle.rules.specs.Bytes.{comma, minus, is_digit, split}
use Rattle.rules.specs.Records.{each_part, is_dash, list_of}
use Rattle.laws.specs.Tests as tests
use Rattle.laws.specs.Tests.{and_left}
use Rattle.numerals.specs.Decimal.{digit_range}
use Rattle.records.specs.Fields.{dash_other}
use Rattle.records.specs.Joined.{join, NoneHas, split_join, join_split, join_first, first_part}
use Rattle.records.specs.RecordTexts.{list_text}

-- There is nothing in none; and where a chain of readings gives something, its first one did.
pub nothing : {A P : Type 0} (x : A) → none ≡ some x → P
nothing x h = let z : ◌≡◌ {A = ℕ} 0 1 = cc in absurd (omega arith)

pub chained : {A B G : Type 0} (o : Option A) (g : A → Option B) (y : B) → bind o g ≡ some y → ((x : A) → o ≡ some x → g x ≡ some y → G) → G
unfolding bind
chained none g y h k = nothing y h
chained (some x) g y h k = k x refl h

-- Bytes that begin with a digit.
abbrev pub Begins : List ℕ → Type 0
Begins l = is_digit (get_or l 0 0) ≡ true

pub digits_begin : (l : List ℕ) → 0 < length l → list_all is_digit l ≡ true → Begins l
digits_begin [] l h = absurd (omega arith)
digits_begin (b ∷ bs) l h = and_left (is_digit b) (list_all is_digit bs) h

pub joined_begins : (c : ℕ) (part : List ℕ) (parts : List (List ℕ)) → Begins part → Begins (join c (part ∷ parts))
unfolding is_digit
joined_begins c [] parts h = absurd (false≢true h)
joined_begins c (b ∷ bs) parts h = ap is_digit (join_first c (b ∷ bs) parts (omega arith)) ∙ h

pub begun_no_dash : (l : List ℕ) → Begins l → is_dash l ≡ false
begun_no_dash l h = dash_other l (λ e. let digit = digit_range (get_or l 0 0) h in omega arith)

module _ {A : Type 0} (f : List ℕ → Option A) (text : A → List ℕ) where
  -- An item whose text is read back, in a list too.
  pub record Item (x : A) : Type 0 where
    pub back : f (text x) ≡ some x
    pub no_comma : member comma (text x) ≡ false
    pub digit : Begins (text x)

  abbrev pub Items : List A → Type 0
  Items xs = (x : A) → Memᴰ x xs → Item x

  each_read_back : (xs : List A) → Items xs → each_part f (map text xs) ≡ some xs
  unfolding each_part bind
  each_read_back [] k = refl
  each_read_back (x ∷ xs) k = rw ((k x (Memᴰ.head refl)).back, each_read_back xs (λ y m. k y (Memᴰ.tail m)))

  none_comma : (xs : List A) → Items xs → NoneHas comma (map text xs)
  none_comma [] k = tt
  none_comma (x ∷ xs) k = ((k x (Memᴰ.head refl)).no_comma, none_comma xs (λ y m. k y (Memᴰ.tail m)))

  pub list_read_back : (xs : List A) → Items xs → list_of f (list_text (map text xs)) ≡ some xs
  unfolding list_of list_text
  list_read_back [] k = refl
  list_read_back (x ∷ xs) k =
      let dash = begun_no_dash (join comma (map text (x ∷ xs))) (joined_begins comma (text x) (map text xs) (k x (Memᴰ.head refl)).digit) in
      rw (dash, split_join comma (text x) (map text xs) (none_comma (x ∷ xs) k)) (each_read_back (x ∷ xs) k)

pub dash_text : (bs : List ℕ) → is_dash bs ≡ true → bs ≡ minus ∷ []
dash_text [] h = absurd (false≢true h)
dash_text (b ∷ []) h = ap (λ (k : ℕ). k ∷ []) (eqb-true b minus h)
dash_text (b ∷ c ∷ bs) h = absurd (false≢true h)

-- The parts of a list's text, joined as a list.
split_text : (bs : List ℕ) → list_text (split comma bs) ≡ bs
unfolding list_text
split_text bs =
    let first = first_part comma bs in
    let whole : join comma (first.0 ∷ first.1.0) ≡ bs = rw first.1.1 at (join_split comma bs) in
    rw first.1.1 whole

module _ {A : Type 0} (f : List ℕ → Option A) (text : A → List ℕ) (P : A → Type 0)
    (one : (part : List ℕ) (x : A) → f part ≡ some x → (part ≡ text x) × P x) where
  each_one_text : (parts : List (List ℕ)) (xs : List A) → each_part f parts ≡ some xs → (parts ≡ map text xs) × ((x : A) → Memᴰ x xs → P x)
  unfolding each_part
  each_one_text [] [] h = (refl, λ x m. absurd (Memᴰ.not-nil m))
  each_one_text [] (x ∷ xs) h = let z : ◌≡◌ {A = ℕ} 0 1 = cc in absurd (omega arith)
  each_one_text (part ∷ parts) xs h =
      chained (f part) (λ x. bind (each_part f parts) (λ xs. some (x ∷ xs))) xs h
      (λ x first h. chained (each_part f parts) (λ xs. some (x ∷ xs)) xs h
      (λ rest more h. let same : x ∷ rest ≡ xs = cc in
      let here = one part x first in
      let there = each_one_text parts rest more in
      subst (λ (l : List A). (part ∷ parts ≡ map text l) × ((x : A) → Memᴰ x l → P x)) same (
        ap₂ (λ (p : List ℕ) (ps : List (List ℕ)). p ∷ ps) here.0 there.0,
        λ y m. ⊎_elim (λ q. subst P (sym q) here.1) (λ q. there.1 y q) (Memᴰ.cases_cons m),
      )))

  pub list_one_text : (bs : List ℕ) (xs : List A) → list_of f bs ≡ some xs → (bs ≡ list_text (map text xs)) × ((x : A) → Memᴰ x xs → P x)
  unfolding list_of list_text
  list_one_text bs xs h =
      tests.split (is_dash bs)
      (λ q. let nothing = rw q at h in
      let same : [] ≡ xs = cc in
      subst (λ (l : List A). (bs ≡ list_text (map text l)) × ((x : A) → Memᴰ x l → P x)) same (dash_text bs q, λ x m. absurd (Memᴰ.not-nil m)))
      (λ q. let each = each_one_text (split comma bs) xs (rw q at h) in (sym (split_text bs) ∙ ap list_text each.0, each.1))
