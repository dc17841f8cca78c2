-- A line is a letter, numbers behind it, each behind a tab, and a newline: what the rules' lines are made of, and how long it gets.
use Rattle.std.specs.Prelude.{ℕ, ◌+◌, ◌*◌, ◌^◌, ◌≤◌, ◌<◌, List, [], ◌∷◌, ◌++◌, ◌≡◌, refl, length, take, get_or}
use Rattle.std.proofs.Common.{append_assoc, append-nil, sym, ap, ◌∙◌, arith, add-one, take_all}
use Rattle.std.proofs.Math.Seq.{take-suc}
use Rattle.rules.specs.Bytes.{decimal_text, tab_byte}
use Rattle.rules.specs.AnswerText.{field, end}
use Rattle.numerals.specs.Decimal.{decimal_length}
use Rattle.numerals.specs.Writing.{Wrote, wrote_both, wrote_as, wrote_length}
use Rattle.answers.specs.declared.TheConstants.{HEAD}

-- Numbers, each behind a tab, in front of more.
abbrev pub numbers_text : List ℕ → List ℕ → List ℕ
numbers_text [] rest = rest
numbers_text (n ∷ ns) rest = field n (numbers_text ns rest)

-- More behind them; one number more.
pub numbers_onto : (ns rest : List ℕ) → numbers_text ns [] ++ rest ≡ numbers_text ns rest
numbers_onto [] rest = refl
numbers_onto (n ∷ ns) rest = rw (append_assoc (decimal_text n) (numbers_text ns []) rest, numbers_onto ns rest)

pub numbers_more : (ns : List ℕ) (n : ℕ) (rest : List ℕ) → numbers_text (ns ++ n ∷ []) rest ≡ numbers_text ns (field n rest)
numbers_more [] n rest = refl
numbers_more (m ∷ ns) n rest = rw (numbers_more ns n rest)

-- A word of 32 bits has at most 10 digits.
pub decimal_fits_word : (n : ℕ) → n < 2 ^ 32 → length (decimal_text n) ≤ 10
decimal_fits_word n h = decimal_length 9 n (omega arith)

module _ {o o' o'' : List ℕ} {at p q : ℕ} where
  -- a field is a tab and the number behind it
  pub field_wrote : (n : ℕ) → at + 21 ≤ length o → Wrote o at (tab_byte ∷ []) o' p → Wrote o' p (decimal_text n) o'' q → Wrote o at (tab_byte ∷ decimal_text n) o'' q
  field_wrote n room tab number = wrote_both (omega arith) tab number

  pub field_ends : (n : ℕ) → n < 2 ^ 32 → Wrote o at (tab_byte ∷ []) o' p → Wrote o' p (decimal_text n) o'' q → q ≤ at + 11
  field_ends n low tab number =
      let digits = decimal_fits_word n low in
      let place = tab.place in
      let behind = number.place in
      omega arith

-- The numbers below i are written behind the letter.
pub record Front (o : List ℕ) (at letter : ℕ) (ns : List ℕ) (i : ℕ) (o' : List ℕ) (p : ℕ) : Type 0 where
  pub wrote : Wrote o at (letter ∷ numbers_text (take i ns) []) o' p
  pub ends : p ≤ at + 1 + 11 * i
  pub same : length o' ≡ length o

pub front_start : {o o' : List ℕ} {at letter p : ℕ} (ns : List ℕ) → at + HEAD ≤ length o → Wrote o at (letter ∷ []) o' p → Front o at letter ns 0 o' p
front_start ns room w =
    let place = w.place in
    record { wrote = w; ends = omega arith; same = wrote_length (omega arith) w }

one_more : (ns : List ℕ) (i : ℕ) → i < length ns → numbers_text (take i ns) [] ++ (tab_byte ∷ decimal_text (get_or ns i 0)) ≡ numbers_text (take (i + 1) ns) []
one_more ns i low =
    numbers_onto (take i ns) (tab_byte ∷ decimal_text (get_or ns i 0))
    ∙ (ap (λ (l : List ℕ). numbers_text (take i ns) (tab_byte ∷ l)) (sym (append-nil (decimal_text (get_or ns i 0))))
    ∙ (sym (numbers_more (take i ns) (get_or ns i 0) [])
    ∙ ap (λ (l : List ℕ). numbers_text l []) (sym (rw add-one (take-suc ns i 0 low)))))

module _ {o o' : List ℕ} {at letter i p : ℕ} {ns : List ℕ} (k : Front o at letter ns i o' p) where
  pub front_room : at + HEAD ≤ length o → i < length ns → length ns ≤ 3 → p + 21 ≤ length o'
  front_room room low few =
      let ends = k.ends in
      let same = k.same in
      omega arith

  pub front_step : {o'' : List ℕ} {q : ℕ} → at + HEAD ≤ length o → i < length ns → length ns ≤ 3 → Wrote o' p (tab_byte ∷ decimal_text (get_or ns i 0)) o'' q
      → q ≤ p + 11 → Front o at letter ns (i + 1) o'' q
  front_step {o''} {q} room low few w more =
      let ends = k.ends in
      let same = k.same in
      let place = k.wrote.place in
      let behind = w.place in
      record {
        wrote = wrote_as (ap (λ (l : List ℕ). letter ∷ l) (one_more ns i low)) (wrote_both (omega arith) k.wrote w);
        ends = omega arith;
        same = wrote_length (omega arith) w ∙ k.same;
      }

  pub front_wrote : length ns ≤ i → Wrote o at (letter ∷ numbers_text ns []) o' p
  front_wrote all = wrote_as (ap (λ (l : List ℕ). letter ∷ numbers_text l []) (take_all i ns all)) k.wrote

  pub front_ends : i ≤ length ns → p ≤ at + 1 + 11 * length ns
  front_ends most = let ends = k.ends in omega arith

-- The newline behind them ends the line.
pub line_wrote : {o o' o'' : List ℕ} {at letter p q : ℕ} (ns : List ℕ) → length ns ≤ 3 → at + HEAD ≤ length o → p ≤ at + 1 + 11 * length ns
    → Wrote o at (letter ∷ numbers_text ns []) o' p → Wrote o' p end o'' q → Wrote o at (letter ∷ numbers_text ns end) o'' q
line_wrote {o} {o'} {o''} {at} {letter} ns few room ends front newline =
    let place = front.place in
    wrote_as (ap (λ (l : List ℕ). letter ∷ l) (numbers_onto ns end)) (wrote_both (omega arith) front newline)

-- What `write_numbers` goes by.
pub ruleset number_by_number = (front_start, front_room, front_wrote, front_ends)
