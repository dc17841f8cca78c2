-- Where the lines of some bytes go when more bytes come behind them.
use Rattle.std.specs.Prelude.{ℕ, suc, ◌+◌, ◌<◌, false, ◌⊎◌, List, [], ◌∷◌, ◌++◌, ◌≡◌, refl, eqb, length, drop}
use Rattle.std.proofs.Common.{sym, ap, ◌∙◌, arith, eqb-true, eq-eqb, ne_eqb, inl, inr, ⊎_elim}
use Rattle.std.proofs.Math.Seq.{drop-append-add}
use Rattle.rules.specs.Lists.{member}
use Rattle.rules.specs.Bytes.{split, onto_first}
use Rattle.rules.specs.Program.{whole_lines}
use Rattle.laws.specs.Tests as tests

-- Bytes put in front of the first line.
abbrev pub glue : List ℕ → List (List ℕ) → List (List ℕ)
glue t [] = t ∷ []
glue t (line ∷ lines) = (t ++ line) ∷ lines

-- The lines behind the first.
abbrev pub behind_first : List (List ℕ) → List (List ℕ)
behind_first [] = []
behind_first (line ∷ lines) = lines

pub behind_glue : (t : List ℕ) (lines : List (List ℕ)) → behind_first (glue t lines) ≡ behind_first lines
behind_glue t [] = refl
behind_glue t (line ∷ lines) = refl

-- There is always one part.
pub record Parts (parts : List (List ℕ)) : Type 0 where
  pub first : List ℕ
  pub others : List (List ℕ)
  pub are : parts ≡ first ∷ others

onto_parts : (b : ℕ) (parts : List (List ℕ)) → Parts (onto_first b parts)
onto_parts b [] = record { first = b ∷ []; others = []; are = refl }
onto_parts b (part ∷ parts) = record { first = b ∷ part; others = parts; are = refl }

pub some_part : (c : ℕ) (bytes : List ℕ) → Parts (split c bytes)
unfolding split
some_part c [] = record { first = []; others = []; are = refl }
some_part c (b ∷ bs) =
    tests.split (eqb b c) (λ q. record { first = []; others = split c bs; are = rw q refl })
    (λ q. let p = onto_parts b (split c bs) in record { first = p.first; others = p.others; are = rw q p.are })

glue_nothing : (parts : List (List ℕ)) → Parts parts → glue [] parts ≡ parts
glue_nothing [] p = let e = p.are in cc
glue_nothing (part ∷ parts) p = refl

onto_glue : (b : ℕ) (t : List ℕ) (parts : List (List ℕ)) → onto_first b (glue t parts) ≡ glue (b ∷ t) parts
onto_glue b t [] = refl
onto_glue b t (part ∷ parts) = refl

other_byte : (c b : ℕ) → eqb c b ≡ false → eqb b c ≡ false
other_byte c b h = ne_eqb b c (λ e. tests.never (eqb c b) (eq-eqb c b (sym e)) h)

pub split_glue : (c : ℕ) (t f : List ℕ) → member c t ≡ false → split c (t ++ f) ≡ glue t (split c f)
unfolding split
split_glue c [] f h = sym (glue_nothing (split c f) (some_part c f))
split_glue c (b ∷ t) f h =
    rw (other_byte c b (tests.or_left (eqb c b) (member c t) h)) (ap (onto_first b) (split_glue c t f (tests.or_right (eqb c b) (member c t) h)) ∙ onto_glue b t (split c f))

-- Bytes are one line alone, or a line, a newline and other bytes.
pub record FirstLine (c : ℕ) (bytes : List ℕ) : Type 0 where
  pub line : List ℕ
  pub others : List ℕ
  pub are : bytes ≡ line ++ c ∷ others
  pub without : member c line ≡ false

pub first_line : (c : ℕ) (bytes : List ℕ) → (member c bytes ≡ false) ⊎ FirstLine c bytes
first_line c [] = inl refl
first_line c (b ∷ bs) =
    tests.split (eqb c b)
    (λ q. inr (record { line = []; others = bs; are = ap (λ (x : ℕ). x ∷ bs) (sym (eqb-true c b q)); without = refl }))
    (λ q. ⊎_elim (λ h. inl (tests.or_neither (eqb c b) (member c bs) q h))
    (λ h. inr (record { line = b ∷ h.line; others = h.others; are = ap (λ (l : List ℕ). b ∷ l) h.are; without = tests.or_neither (eqb c b) (member c h.line) q h.without }))
    (first_line c bs))

-- The lines of a log: what has other lines behind it is one, and so is what isn't empty.
pub whole_more : (line next : List ℕ) (lines : List (List ℕ)) → whole_lines (line ∷ next ∷ lines) ≡ line ∷ whole_lines (next ∷ lines)
unfolding whole_lines
whole_more [] next lines = refl
whole_more (b ∷ bs) next lines = refl

pub whole_some : (line : List ℕ) (lines : List (List ℕ)) → 0 < length line → whole_lines (line ∷ lines) ≡ line ∷ whole_lines lines
unfolding whole_lines
whole_some [] lines h = absurd (omega arith)
whole_some (b ∷ bs) [] h = refl
whole_some (b ∷ bs) (next ∷ lines) h = refl

-- Dropping a line and its newline.
pub drop_line : (line others : List ℕ) (c n : ℕ) → drop (length line + 1 + n) (line ++ c ∷ others) ≡ drop n others
drop_line line others c n =
    let e : length line + 1 + n ≡ length line + suc n = omega arith in
    ap (λ (k : ℕ). drop k (line ++ c ∷ others)) e ∙ drop-append-add line (c ∷ others) (suc n)

pub drop_whole : (bytes : List ℕ) → drop (length bytes) bytes ≡ []
drop_whole [] = refl
drop_whole (b ∷ bs) = drop_whole bs
