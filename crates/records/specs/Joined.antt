-- Parts joined by a byte. Splitting takes apart what joining puts together, and joining puts together what splitting takes apart.
use Rattle.std.specs.Prelude.{ℕ, ◌<◌, false, ◌||◌, List, [], ◌∷◌, ◌++◌, ◌≡◌, refl, eqb, length, get_or}
use Rattle.std.proofs.Common.{sym, ap, ◌∙◌, arith, ne_eqb, eqb-true}
use Rattle.std.proofs.lemmas.Bool.{true≢false}
use Rattle.rules.specs.Lists.{member}
use Rattle.rules.specs.Bytes.{onto_first, split}
use Rattle.laws.specs.Tests as tests
use Rattle.laws.specs.Tests.{or_neither, any_append}
use Rattle.numerals.specs.Parts.{split_absent, split_front}
use Rattle.records.specs.Ends.{is_one, several}

unfoldable pub join : ℕ → List (List ℕ) → List ℕ
join c [] = []
join c (part ∷ []) = part
join c (part ∷ next ∷ parts) = part ++ c ∷ join c (next ∷ parts)

-- A byte stands in none of the parts.
abbrev pub NoneHas : ℕ → List (List ℕ) → Type 0
NoneHas c [] = Unit {0}
NoneHas c (part ∷ parts) = (member c part ≡ false) × NoneHas c parts

-- What is joined is split again.
pub split_join : (c : ℕ) (part : List ℕ) (parts : List (List ℕ)) → NoneHas c (part ∷ parts) → split c (join c (part ∷ parts)) ≡ part ∷ parts
unfolding join
split_join c part [] h = split_absent c part h.0
split_join c part (next ∷ parts) h =
    split_front c part (join c (next ∷ parts)) h.0 ∙ ap (λ (l : List (List ℕ)). part ∷ l) (split_join c next parts h.1)

-- What is split is joined again.
join_more : (c : ℕ) (part : List ℕ) (parts : List (List ℕ)) → is_one (part ∷ parts) ≡ false → join c (part ∷ parts) ≡ part ++ c ∷ join c parts
unfolding join
join_more c part [] h = absurd (true≢false h)
join_more c part (next ∷ parts) h = refl

join_onto : (c b : ℕ) (parts : List (List ℕ)) → join c (onto_first b parts) ≡ b ∷ join c parts
unfolding join
join_onto c b [] = refl
join_onto c b (part ∷ []) = refl
join_onto c b (part ∷ next ∷ parts) = refl

pub join_split : (c : ℕ) (l : List ℕ) → join c (split c l) ≡ l
unfolding split join
join_split c [] = refl
join_split c (b ∷ bs) =
    tests.split (eqb b c)
    (λ q. rw q (join_more c [] (split c bs) (several c bs []) ∙ ap (λ (l : List ℕ). c ∷ l) (join_split c bs) ∙ ap (λ (k : ℕ). k ∷ bs) (sym (eqb-true b c q))))
    (λ q. rw q (join_onto c b (split c bs) ∙ ap (λ (l : List ℕ). b ∷ l) (join_split c bs)))

-- A byte that stands in none of the parts and doesn't join them isn't in what is joined.
pub join_lacks : (c d : ℕ) (parts : List (List ℕ)) → (c ≡ d → ⊥) → NoneHas c parts → member c (join d parts) ≡ false
unfolding join
join_lacks c d [] n h = refl
join_lacks c d (part ∷ []) n h = h.0
join_lacks c d (part ∷ next ∷ parts) n h =
    any_append (eqb c) part (d ∷ join d (next ∷ parts))
    ∙ or_neither (member c part) (eqb c d || member c (join d (next ∷ parts))) h.0
    (or_neither (eqb c d) (member c (join d (next ∷ parts))) (ne_eqb c d n) (join_lacks c d (next ∷ parts) n h.1))

-- What is joined begins as the first part does.
pub join_first : (c : ℕ) (part : List ℕ) (parts : List (List ℕ)) → 0 < length part → get_or (join c (part ∷ parts)) 0 0 ≡ get_or part 0 0
unfolding join
join_first c [] parts h = absurd (omega arith)
join_first c (b ∷ bs) [] h = refl
join_first c (b ∷ bs) (next ∷ parts) h = refl

-- There is always a part.
first_onto : (b : ℕ) (parts : List (List ℕ)) → (part : List ℕ) × ((rest : List (List ℕ)) × (onto_first b parts ≡ part ∷ rest))
first_onto b [] = (b ∷ [], ([], refl))
first_onto b (part ∷ rest) = (b ∷ part, (rest, refl))

pub first_part : (c : ℕ) (l : List ℕ) → (part : List ℕ) × ((rest : List (List ℕ)) × (split c l ≡ part ∷ rest))
unfolding split
first_part c [] = ([], ([], refl))
first_part c (b ∷ bs) =
    tests.split (eqb b c) (λ q. ([], (split c bs, rw q)))
    (λ q. let first = first_onto b (split c bs) in (first.0, (first.1.0, rw q first.1.1)))
