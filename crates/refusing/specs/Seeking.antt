-- The search for an identity's row: it is the first that has the identity, or none has it.
use Rattle.std.specs.Prelude.{ℕ, zero, suc, ◌+◌, false, cond, List, [], ◌∷◌, ◌≡◌, refl, Some, None, eqb, ltb, ℤ, length, get_or}
use Rattle.std.specs.declared.option.Option as code
use Rattle.std.specs.List.{range_with_len, position_or_len, list_any}
use Rattle.std.proofs.lemmas.List.FromFn.{length-range_with_len}
use Rattle.std.proofs.Common.{sym, ap, ◌∙◌, arith, lt-ltb, le-ltb}
use Rattle.rules.specs.Refusals.{waits_for}
use Rattle.laws.specs.Tests.{split, or_left, or_right}
use Rattle.laws.specs.Cuts.{get_or_cut}
use Rattle.laws.specs.Tabs.{tab, length_tab}
use Rattle.tables.specs.Layout.{waiting_row, waiting_at}
use Rattle.tables.specs.View.{waiting_words, view}
use Rattle.refusing.specs.Operands.{index_of, waiting_identities}
use Rattle.refusing.specs.Indexed.{waits_here, row_of}

-- The first of the first n waiting rows that has an identity, if one has it.
abbrev pub row_among : ℕ → ℕ → List ℕ → code.Option ℕ
row_among x n book =
    let i = index_of x (tab n (λ j. get_or book (waiting_row j) 0)) in
    cond (ltb i n) (Some i) None

-- The row of an identity that waits, if one has it.
abbrev pub waiting_row_of : ℕ → List ℕ → code.Option ℕ
waiting_row_of x book =
    cond (ltb (index_of x (waiting_identities book)) (get_or book waiting_at 0)) (Some (index_of x (waiting_identities book))) None

-- The index of a number that isn't there is the length.
index_missing : (x : ℕ) (ys : List ℕ) → list_any (λ y. eqb y x) ys ≡ false → index_of x ys ≡ length ys
unfolding index_of
index_missing x [] h = refl
index_missing x (y ∷ ys) h =
    let other = or_left (eqb y x) (list_any (λ z. eqb z x) ys) h in
    rw other (ap suc (index_missing x ys (or_right (eqb y x) (list_any (λ z. eqb z x) ys) h)))

-- An identity waits exactly if its index is below the number of those that wait.
pub waits_below : (x : ℕ) (book : List ℕ) (sums : List ℤ)
    → waits_for x (view book sums) ≡ ltb (index_of x (waiting_identities book)) (get_or book waiting_at 0)
unfolding waiting_identities
waits_below x book sums =
    split (waits_for x (view book sums))
    (λ q. q ∙ sym (lt-ltb (index_of x (waiting_identities book)) (get_or book waiting_at 0) (row_of x book sums q).below))
    (λ q.
    let missing = index_missing x (waiting_identities book) (sym (waits_here x book sums) ∙ q) in
    let number = length_tab (get_or book waiting_at 0) (λ i. get_or book (waiting_row i) 0) in
    q ∙ sym (le-ltb (index_of x (waiting_identities book)) (get_or book waiting_at 0) (omega arith)))

-- The library's search of a range of rows, as the index among the identities of them all.
module _ (x : ℕ) (g : ℕ → ℕ) where
  index_from : (h : ℕ → ℕ) (a n : ℕ) → ((i : ℕ) → g (a + i) ≡ h i) → position_or_len (λ i. eqb (g i) x) (range_with_len a n) ≡ index_of x (tab n h)
  unfolding tab index_of
  index_from h a zero same = refl
  index_from h a (suc n) same =
      let first : g a ≡ h 0 = ap g (omega arith) ∙ same 0 in
      let later = index_from (λ i. h (suc i)) (a + 1) n (λ i. ap g (omega arith) ∙ same (suc i)) in
      split (eqb (h 0) x) (λ q. rw (first, q)) (λ q. rw (first, q, later) (omega arith))

identity_word : (book : List ℕ) (i : ℕ) → get_or (waiting_words book i) 0 0 ≡ get_or book (waiting_row i) 0
unfolding waiting_words
identity_word book i = get_or_cut (waiting_row i) 24 book 0 0 (omega arith) ∙ ap (λ (o : ℕ). get_or book o 0) (omega arith)

pub found_row : (x n : ℕ) (book : List ℕ) {r : code.Option ℕ}
    → r ≡ cond (ltb (position_or_len (λ i. eqb (get_or (waiting_words book i) 0 0) x) (range_with_len 0 n)) (length (range_with_len 0 n)))
    (Some (position_or_len (λ i. eqb (get_or (waiting_words book i) 0 0) x) (range_with_len 0 n))) None
    → r ≡ row_among x n book
found_row x n book e =
    let same = index_from x (λ i. get_or (waiting_words book i) 0 0) (λ i. get_or book (waiting_row i) 0) 0 n
    (λ i. ap (λ (j : ℕ). get_or (waiting_words book j) 0 0) (omega arith) ∙ identity_word book i) in
    e ∙ rw (same, length-range_with_len 0 n)

-- Among all that wait.
pub row_waits : (x n : ℕ) (book : List ℕ) {r : code.Option ℕ} → n ≡ get_or book waiting_at 0 → r ≡ row_among x n book → r ≡ waiting_row_of x book
unfolding waiting_identities
row_waits x n book all e = rw all at e
