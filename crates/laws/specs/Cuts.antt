-- Parts of a list and lists laid into one: `cut` is what a part of a slice is, `put` is what a run of stores leaves. Every row of a lent table is a cut,
-- every change of it a put.
use Prim.Native.Nat.{ℕ, zero, suc, ◌+◌, ◌-◌, ◌≤◌, ◌<◌}
use mathlib.Core.List.{List, [], ◌∷◌, ◌++◌, append_assoc}
use Rattle.std.specs.Prelude.{◌≡◌}
use Rattle.std.proofs.Math.Path.{refl, sym, ap, ap₂}
use Rattle.std.proofs.Common.{◌∙◌, take_at, take-take, drop-drop, drop-cons, get_or-append-add}
use native.Mathlib.Omega.{arith}
use Rattle.std.proofs.Math.ListN.{length, take, drop, get_or, set, length-append, length-drop, take-append-drop, get_or-append}
use Rattle.std.proofs.Math.Seq.{length-take-le, take-append-le, drop-append-le, drop-append-add, drop-append_seam, get_or-take, get_or-drop, set_split, take_all, take-append-add, take-suc, take-set-lt, take-suc-set}
use Rattle.std.proofs.lemmas.List.{set-append_left}

module _ {A : Type 0} where
  -- the n elements from o on: what `&l[o..o + n]` is
  unfoldable pub cut : ℕ → ℕ → List A → List A
  cut o n l = take n (drop o l)

  -- l with the list s at a place
  unfoldable pub put : List A → ℕ → List A → List A
  put l at s = take at l ++ (s ++ drop (at + length s) l)

  pub length_cut : (o n : ℕ) (l : List A) → o + n ≤ length l → length (cut o n l) ≡ n
  unfolding cut
  length_cut o n l h = length-take-le n (drop o l) (rw (length-drop o l) (omega arith))

  pub length_put : (l : List A) (at : ℕ) (s : List A) → at + length s ≤ length l → length (put l at s) ≡ length l
  unfolding put
  length_put l at s h =
      rw (length-append (take at l) (s ++ drop (at + length s) l), length-append s (drop (at + length s) l), length-take-le at l (omega arith), length-drop (at + length s) l)
      (omega arith)

  pub part_cut : (o n : ℕ) (l : List A) → take (o + n - o) (drop o l) ≡ cut o n l
  unfolding cut
  part_cut o n l = let e : o + n - o ≡ n = omega arith in ap (λ (k : ℕ). take k (drop o l)) e

  -- a cut of the first elements is a cut of all
  cut_take : (o n m : ℕ) (l : List A) → o + n ≤ m → take n (drop o (take m l)) ≡ take n (drop o l)
  cut_take zero n m l h = take-take n m l (omega arith)
  cut_take (suc o) n zero l h = absurd (omega arith)
  cut_take (suc o) n (suc m) [] h = refl
  cut_take (suc o) n (suc m) (x ∷ l) h = cut_take o n m l (omega arith)

  drop_behind : (xs ys : List A) (o n : ℕ) → o ≡ length xs + n → drop o (xs ++ ys) ≡ drop n ys
  drop_behind xs ys o n e = ap (λ (k : ℕ). drop k (xs ++ ys)) e ∙ drop-append-add xs ys n

  cut_all : (n : ℕ) (s : List A) → length s ≡ n → cut 0 n s ≡ s
  unfolding cut
  cut_all n s e = take_all n s (omega arith)

  -- a cut below what was laid in; above it; a part of it; all of it
  pub cut_put_below : (o n : ℕ) (l : List A) (at : ℕ) (s : List A) → o + n ≤ at → at ≤ length l → cut o n (put l at s) ≡ cut o n l
  unfolding cut put
  cut_put_below o n l at s h fits =
      let front = length-take-le at l fits in
      let tail = s ++ drop (at + length s) l in
      ap (take n) (drop-append-le o (take at l) tail (omega arith))
      ∙ (take-append-le n (drop o (take at l)) tail (rw (length-drop o (take at l), front) (omega arith)) ∙ cut_take o n at l h)

  pub drop_put : (o : ℕ) (l : List A) (at : ℕ) (s : List A) → at + length s ≤ o → at + length s ≤ length l → drop o (put l at s) ≡ drop o l
  unfolding put
  drop_put o l at s h fits =
      let front = length-take-le at l (omega arith) in
      let rest = drop (at + length s) l in
      let e : at + length s + (o - (at + length s)) ≡ o = omega arith in
      drop_behind (take at l) (s ++ rest) o (o - at) (omega arith)
      ∙ (drop_behind s rest (o - at) (o - (at + length s)) (omega arith)
      ∙ (drop-drop (o - (at + length s)) (at + length s) l ∙ ap (λ (k : ℕ). drop k l) e))

  pub cut_put_above : (o n : ℕ) (l : List A) (at : ℕ) (s : List A) → at + length s ≤ o → at + length s ≤ length l → cut o n (put l at s) ≡ cut o n l
  unfolding cut
  cut_put_above o n l at s h fits = ap (take n) (drop_put o l at s h fits)

  pub cut_put_within : (o n : ℕ) (l : List A) (at : ℕ) (s : List A) → at ≤ o → o + n ≤ at + length s → at ≤ length l
      → cut o n (put l at s) ≡ cut (o - at) n s
  unfolding cut put
  cut_put_within o n l at s low high fits =
      let front = length-take-le at l fits in
      let rest = drop (at + length s) l in
      ap (take n) (drop_behind (take at l) (s ++ rest) o (o - at) (omega arith) ∙ drop-append-le (o - at) s rest (omega arith))
      ∙ take-append-le n (drop (o - at) s) rest (rw (length-drop (o - at) s) (omega arith))

  pub cut_put_same : (n : ℕ) (l : List A) (at : ℕ) (s : List A) → length s ≡ n → at ≤ length l → cut at n (put l at s) ≡ s
  cut_put_same n l at s e fits =
      cut_put_within at n l at s (omega arith) (omega arith) fits ∙ (ap (λ (k : ℕ). cut k n s) (omega arith) ∙ cut_all n s e)

  pub cut_cut : (p m o n : ℕ) (l : List A) → p + m ≤ n → cut p m (cut o n l) ≡ cut (o + p) m l
  unfolding cut
  cut_cut p m o n l h = cut_take p m n (drop o l) h ∙ ap (take m) (drop-drop p o l)

  pub get_or_cut : (o n : ℕ) (l : List A) (j : ℕ) (d : A) → j < n → get_or (cut o n l) j d ≡ get_or l (o + j) d
  unfolding cut
  get_or_cut o n l j d h = get_or-take n (drop o l) j d h ∙ get_or-drop o l j d

  -- one store is a list of one laid in; a run of stores goes on behind what was laid in before
  pub set_put : (l : List A) (i : ℕ) (x : A) → i < length l → set l i x ≡ put l i (x ∷ [])
  unfolding put
  set_put l i x h =
      let e : suc i ≡ i + 1 = omega arith in
      set_split l i x h ∙ ap (λ (k : ℕ). take i l ++ x ∷ drop k l) e

  pub put_nothing : (l : List A) (at : ℕ) → put l at [] ≡ l
  unfolding put
  put_nothing l at =
      let e : at + 0 ≡ at = omega arith in
      ap (λ (k : ℕ). take at l ++ drop k l) e ∙ take-append-drop at l

  pub take_put : (l : List A) (at : ℕ) (s : List A) (n : ℕ) → n ≡ at + length s → at + length s ≤ length l → take n (put l at s) ≡ take at l ++ s
  unfolding put
  take_put l at s n e fits =
      let front = length-take-le at l (omega arith) in
      let rest = drop (at + length s) l in
      let sum : n ≡ length (take at l) + length s = omega arith in
      ap (λ (k : ℕ). take k (take at l ++ (s ++ rest))) sum
      ∙ (take-append-add (take at l) (s ++ rest) (length s) ∙ ap (λ (r : List A). take at l ++ r) (take_at s rest (length s) refl))

  pub put_put : (l : List A) (at : ℕ) (s t : List A) (next : ℕ) → next ≡ at + length s → at + length s ≤ length l
      → put (put l at s) next t ≡ put l at (s ++ t)
  unfolding put
  put_put l at s t next e fits =
      let total : next + length t ≡ at + length (s ++ t) = omega (arith, length-append s t) in
      let over : drop (next + length t) (put l at s) ≡ drop (at + length (s ++ t)) l =
      drop_put (next + length t) l at s (omega arith) fits ∙ ap (λ (k : ℕ). drop k l) total in
      ap₂ (λ (front rest : List A). front ++ (t ++ rest)) (take_put l at s next e fits) over
      ∙ (append_assoc (take at l) s (t ++ drop (at + length (s ++ t)) l)
      ∙ ap (λ (r : List A). take at l ++ r) (sym (append_assoc s t (drop (at + length (s ++ t)) l))))

  -- one element more behind a cut; in front of it
  pub cut_snoc : (o n : ℕ) (l : List A) (d : A) → o + n < length l → cut o (suc n) l ≡ cut o n l ++ get_or l (o + n) d ∷ []
  unfolding cut
  cut_snoc o n l d h =
      take-suc (drop o l) n d (rw (length-drop o l) (omega arith)) ∙ ap (λ (x : A). take n (drop o l) ++ x ∷ []) (get_or-drop o l n d)

  pub cut_cons : (o n : ℕ) (l : List A) (d : A) → o < length l → cut o (suc n) l ≡ get_or l o d ∷ cut (suc o) n l
  unfolding cut
  cut_cons o n l d h = ap (take (suc n)) (drop-cons l o d h)

  pub cut_nothing : (o : ℕ) (l : List A) → cut o 0 l ≡ []
  unfolding cut
  cut_nothing o l = refl

  pub cut_whole : (s : List A) (n : ℕ) → n ≡ length s → cut 0 n s ≡ s
  cut_whole s n e = cut_all n s (sym e)

  -- an element below what was laid in; above it; of it
  pub get_or_put_below : (l : List A) (at : ℕ) (s : List A) (i : ℕ) (d : A) → i < at → at ≤ length l → get_or (put l at s) i d ≡ get_or l i d
  unfolding put
  get_or_put_below l at s i d h fits =
      get_or-append (take at l) (s ++ drop (at + length s) l) d i (rw (length-take-le at l fits) h) ∙ get_or-take at l i d h

  pub get_or_put_above : (l : List A) (at : ℕ) (s : List A) (i : ℕ) (d : A) → at + length s ≤ i → at + length s ≤ length l
      → get_or (put l at s) i d ≡ get_or l i d
  get_or_put_above l at s i d h fits =
      let e : i + 0 ≡ i = omega arith in
      let there : (k : List A) → get_or k i d ≡ get_or (drop i k) 0 d = λ k. ap (λ (m : ℕ). get_or k m d) (sym e) ∙ sym (get_or-drop i k 0 d) in
      there (put l at s) ∙ (ap (λ (k : List A). get_or k 0 d) (drop_put i l at s h fits) ∙ sym (there l))

  pub get_or_put_within : (l : List A) (at : ℕ) (s : List A) (i : ℕ) (d : A) → i < length s → at ≤ length l → get_or (put l at s) (at + i) d ≡ get_or s i d
  unfolding put
  get_or_put_within l at s i d h fits =
      let rest = drop (at + length s) l in
      let place : at + i ≡ length (take at l) + i = ap (λ (m : ℕ). m + i) (sym (length-take-le at l fits)) in
      ap (λ (m : ℕ). get_or (take at l ++ (s ++ rest)) m d) place
      ∙ (get_or-append-add (take at l) (s ++ rest) i d ∙ get_or-append s rest d i h)

  -- one store more behind what was laid in; in front of it
  pub set_put_behind : (l : List A) (at : ℕ) (s : List A) (i : ℕ) (x : A) → i ≡ at + length s → i < length l → set (put l at s) i x ≡ put l at (s ++ x ∷ [])
  set_put_behind l at s i x e h =
      set_put (put l at s) i x (rw (length_put l at s (omega arith)) h) ∙ put_put l at s (x ∷ []) i e (omega arith)

  pub set_put_front : (l : List A) (at : ℕ) (s : List A) (next : ℕ) (x : A) → next ≡ suc at → next + length s ≤ length l
      → set (put l next s) at x ≡ put l at (x ∷ s)
  unfolding put
  set_put_front l at s next x e h =
      let rest = s ++ drop (suc at + length s) l in
      let place : suc at + length s ≡ at + suc (length s) = omega arith in
      let front : set (take (suc at) l) at x ≡ take at l ++ x ∷ [] = sym (take-set-lt (suc at) l at x (omega arith)) ∙ take-suc-set l at x (omega arith) in
      ap (λ (k : ℕ). set (put l k s) at x) e
      ∙ (set-append_left (take (suc at) l) rest at x (rw (length-take-le (suc at) l (omega arith)) (omega arith))
      ∙ (ap (λ (k : List A). k ++ rest) front
      ∙ (append_assoc (take at l) (x ∷ []) rest ∙ ap (λ (k : ℕ). take at l ++ x ∷ (s ++ drop k l)) place)))

  -- a longer list: a cut of what it begins with, a list laid into that
  pub cut_longer : (o n : ℕ) (l x : List A) → o + n ≤ length l → cut o n (l ++ x) ≡ cut o n l
  unfolding cut
  cut_longer o n l x h =
      ap (take n) (drop-append-le o l x (omega arith)) ∙ take-append-le n (drop o l) x (rw (length-drop o l) (omega arith))

  pub put_longer : (l x : List A) (at : ℕ) (s : List A) → at + length s ≤ length l → put (l ++ x) at s ≡ put l at s ++ x
  unfolding put
  put_longer l x at s h =
      ap₂ (λ (front rest : List A). front ++ (s ++ rest)) (take-append-le at l x (omega arith)) (drop-append-le (at + length s) l x h)
      ∙ sym (append_assoc (take at l) (s ++ drop (at + length s) l) x ∙ ap (λ (r : List A). take at l ++ r) (append_assoc s (drop (at + length s) l) x))

  -- behind a list laid in at the front
  pub drop_put_front : (l s : List A) (n : ℕ) → n ≡ length s → drop n (put l 0 s) ≡ drop n l
  unfolding put
  drop_put_front l s n e =
      let place : 0 + length s ≡ length s = omega arith in rw (e, place) (drop-append_seam s (drop (length s) l))
