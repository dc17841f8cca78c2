-- Parts of text: how far the first part of some bytes reaches, how the search for its end goes, and what the parts are when its end is known.
use Rattle.std.specs.Prelude.{ℕ, suc, ◌+◌, ◌-◌, ◌≤◌, ◌<◌, false, cond, List, [], ◌∷◌, ◌++◌, ◌≡◌, refl, eqb, length, take, drop, Some, None}
use Rattle.std.specs.List.{position, position_or_len}
use Rattle.std.proofs.lemmas.List.Recursion.{is_position_or_len}
use Rattle.std.proofs.lemmas.Bool.Decides.{nat_tests}
use Rattle.std.proofs.Common.{sym, ap, ap₂, ◌∙◌, eq-eqb, ne_eqb, one-add, arith, length-drop, take_all, drop-drop}
use Rattle.rules.specs.Lists.{member}
use Rattle.rules.specs.Bytes.{split}
use Rattle.laws.specs.Tests as tests

-- How many bytes stand before the first c: all of them where there is none.
unfoldable pub until : ℕ → List ℕ → ℕ
until c [] = 0
until c (b ∷ bs) = cond (eqb b c) 0 (suc (until c bs))

pub until_most : (c : ℕ) (l : List ℕ) → until c l ≤ length l
unfolding until
until_most c [] = omega arith
until_most c (b ∷ bs) = let rest = until_most c bs in tests.split (eqb b c) (λ q. rw q (omega arith)) (λ q. rw q (omega arith))

-- It is where the first c stands, or the length.
until_is_place : (c : ℕ) (l : List ℕ) → until c l ≡ position_or_len (λ b. eqb b c) l
unfolding until
until_is_place c = is_position_or_len (until c) (λ b. eqb b c) refl (λ b bs. simp one-add)

place_some : {k : ℕ} (c : ℕ) (l : List ℕ) → Some k ≡ position (λ b. eqb b c) l → (k ≡ until c l) × (k < length l)
place_some c l e = let same = until_is_place c l in (grind (arith, nat_tests), grind (arith, nat_tests))

place_none : (c : ℕ) (l : List ℕ) → None ≡ position (λ b. eqb b c) l → until c l ≡ length l
place_none c l e = let same = until_is_place c l in let most = until_most c l in grind (arith, nat_tests)

-- What `find` answers, searching the bytes from i on: at a c; at the end.
module _ (s : List ℕ) (i c : ℕ) (h : i ≤ length s) where
  rest : take (length s - i) (drop i s) ≡ drop i s
  rest = let long = length-drop i s in take_all (length s - i) (drop i s) (omega arith)

  pub found_some : {k : ℕ} → Some k ≡ position (λ b. eqb b c) (take (length s - i) (drop i s)) → (i + k ≡ i + until c (drop i s)) × (i + k ≤ length s)
  found_some e =
      let long = length-drop i s in
      let found = place_some c (drop i s) (rw rest at e) in
      (omega arith, omega arith)

  pub found_none : None ≡ position (λ b. eqb b c) (take (length s - i) (drop i s)) → (length s ≡ i + until c (drop i s)) × (length s ≤ length s)
  found_none e =
      let long = length-drop i s in
      let found = place_none c (drop i s) (rw rest at e) in
      (omega arith, omega arith)

-- The parts of a list by how far its first part reaches.
split_some : (c : ℕ) (l : List ℕ) → until c l < length l → split c l ≡ take (until c l) l ∷ split c (drop (suc (until c l)) l)
unfolding split until
split_some c [] h = absurd (omega arith)
split_some c (b ∷ bs) h =
    tests.split (eqb b c) (λ q. rw q)
    (λ q. let more : suc (until c bs) < suc (length bs) = rw q at h in
    rw (q, split_some c bs (omega arith)))

split_none : (c : ℕ) (l : List ℕ) → length l ≤ until c l → split c l ≡ l ∷ []
unfolding split until
split_none c [] h = refl
split_none c (b ∷ bs) h =
    tests.split (eqb b c)
    (λ q. let none : suc (length bs) ≤ 0 = rw q at h in absurd (omega arith))
    (λ q. let more : suc (length bs) ≤ suc (until c bs) = rw q at h in
    rw (q, split_none c bs (omega arith)))

-- The parts from i on, by the place e that `find` gives: the part up to e and the parts behind it, or one part alone.
pub split_at_find : (c : ℕ) (s : List ℕ) (i e : ℕ) → e ≡ i + until c (drop i s) → e < length s
    → split c (drop i s) ≡ take (e - i) (drop i s) ∷ split c (drop (e + 1) s)
split_at_find c s i e h l =
    let long = length-drop i s in
    let reach : until c (drop i s) ≡ e - i = omega arith in
    let behind : i + suc (until c (drop i s)) ≡ e + 1 = omega arith in
    split_some c (drop i s) (omega arith)
    ∙ ap₂ (λ (n : ℕ) (rest : List ℕ). take n (drop i s) ∷ split c rest) reach
    (drop-drop (suc (until c (drop i s))) i s ∙ ap (λ (k : ℕ). drop k s) behind)

pub split_no_find : (c : ℕ) (s : List ℕ) (i e : ℕ) → e ≡ i + until c (drop i s) → length s ≤ e → split c (drop i s) ≡ drop i s ∷ []
split_no_find c s i e h l = let long = length-drop i s in split_none c (drop i s) (omega arith)

-- Bytes without a c are one part, and the first part of what they stand in front of.
other_byte : (c b : ℕ) (bs : List ℕ) → member c (b ∷ bs) ≡ false → eqb b c ≡ false
other_byte c b bs h =
    ne_eqb b c (λ e. tests.never (eqb c b) (eq-eqb c b (sym e)) (tests.or_left (eqb c b) (member c bs) h))

pub until_absent : (c : ℕ) (l : List ℕ) → member c l ≡ false → until c l ≡ length l
unfolding until
until_absent c [] h = refl
until_absent c (b ∷ bs) h = rw (other_byte c b bs h, until_absent c bs (tests.or_right (eqb c b) (member c bs) h))

pub split_absent : (c : ℕ) (l : List ℕ) → member c l ≡ false → split c l ≡ l ∷ []
split_absent c l h = let all = until_absent c l h in split_none c l (omega arith)

pub split_front : (c : ℕ) (l more : List ℕ) → member c l ≡ false → split c (l ++ c ∷ more) ≡ l ∷ split c more
unfolding split
split_front c [] more h = rw (eq-eqb c c refl)
split_front c (b ∷ bs) more h = rw (other_byte c b bs h, split_front c bs more (tests.or_right (eqb c b) (member c bs) h))
