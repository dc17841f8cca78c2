-- Opening: every word and amount that the state needs is cleared, the sizes are stored. The tables then hold the rules' opening.
use Rattle.std.specs.Prelude.{ℕ, zero, suc, ◌+◌, ◌≤◌, ◌<◌, List, [], ◌∷◌, ◌≡◌, refl, ℤ, pos, length, get_or, replicate}
use Rattle.std.proofs.Common.{ap, ◌∙◌, arith}
use Rattle.std.proofs.lemmas.List.{length-replicate}
use Rattle.rules.specs.Sizes.{keys}
use Rattle.rules.specs.Ledger.{opening}
use Rattle.laws.specs.Cuts.{cut, put, length_put, cut_put_within, get_or_put_within}
use Rattle.tables.specs.Layout.{book_words, sums_words}
use Rattle.tables.specs.View.{waiting_view, waiting_none, kept_view, values_view, books_view, clock_view, view}
use Rattle.laws.specs.Tabs.{tab}

-- So many blank elements.
unfoldable pub blank : {A : Type 0} → ℕ → A → List A
blank n x = replicate n x

pub length_blank : {A : Type 0} (n : ℕ) (x : A) → length (blank n x) ≡ n
unfolding blank
length_blank n x = length-replicate n x

cut_blank : {A : Type 0} (o m n : ℕ) (x : A) → o + m ≤ n → cut o m (blank n x) ≡ blank m x
unfolding cut blank
cut_blank zero zero n x h = refl
cut_blank zero (suc m) zero x h = absurd (omega arith)
cut_blank {A} zero (suc m) (suc n) x h = ap (λ (l : List A). x ∷ l) (cut_blank zero m n x (omega arith))
cut_blank (suc o) m zero x h = absurd (omega arith)
cut_blank (suc o) m (suc n) x h = cut_blank o m n x (omega arith)

unfoldable pub opened_words : ℕ → ℕ → ℕ → List ℕ
opened_words partitions own k = partitions ∷ own ∷ 0 ∷ 0 ∷ k ∷ 0 ∷ blank 2304 0

unfoldable pub opened_book : List ℕ → ℕ → ℕ → ℕ → List ℕ
opened_book book partitions own k = put book 0 (opened_words partitions own k)

unfoldable pub opened_sums : List ℤ → List ℤ
opened_sums sums = put sums 0 (blank sums_words (pos 0))

pub length_opened_words : (partitions own k : ℕ) → length (opened_words partitions own k) ≡ book_words
unfolding opened_words
length_opened_words partitions own k = let l = length_blank {A = ℕ} 2304 0 in omega arith

module _ (book : List ℕ) (sums : List ℤ) (partitions own k : ℕ) (long : book_words ≤ length book) (long_sums : sums_words ≤ length sums) where
  pub length_opened : length (opened_book book partitions own k) ≡ length book
  unfolding opened_book
  length_opened = let l = length_opened_words partitions own k in length_put book 0 (opened_words partitions own k) (omega arith)

  pub length_opened_sums : length (opened_sums sums) ≡ length sums
  unfolding opened_sums
  length_opened_sums = let l = length_blank sums_words (pos 0) in length_put sums 0 (blank sums_words (pos 0)) (omega arith)

  opened_counter : (j : ℕ) → j < 6 → get_or (opened_book book partitions own k) (0 + j) 0 ≡ get_or (opened_words partitions own k) j 0
  unfolding opened_book
  opened_counter j low =
      let l = length_opened_words partitions own k in get_or_put_within book 0 (opened_words partitions own k) j 0 (omega arith) (omega arith)

  opened_values : values_view (opened_sums sums) ≡ replicate keys (pos 0)
  unfolding values_view opened_sums blank
  opened_values =
      let l = length_blank sums_words (pos 0) in
      cut_put_within 0 keys sums 0 (blank sums_words (pos 0)) (omega arith) (omega arith) (omega arith)
      ∙ cut_blank 0 keys sums_words (pos 0) (omega arith)

  empty_books : books_view 0 (opened_book book partitions own k) (opened_sums sums) ≡ record { sc = 0; kept = []; values = replicate keys (pos 0) }
  unfolding books_view kept_view tab
  empty_books = λ i. record { sc = 0; kept = []; values = opened_values i }

  pub opened_view : view (opened_book book partitions own k) (opened_sums sums) ≡ opening partitions own k
  unfolding view clock_view opening opened_words books_view kept_view tab
  opened_view =
      let word = opened_counter in
      λ i. record {
        clock = record { partitions = word 0 (omega arith) i; own = word 1 (omega arith) i; dc = word 3 (omega arith) i; k = word 4 (omega arith) i };
        waiting = (ap (λ (n : ℕ). waiting_view n (opened_book book partitions own k) (opened_sums sums)) (word 5 (omega arith)) ∙ waiting_none _ _) i;
        books = (ap (λ (v : ℕ). books_view v (opened_book book partitions own k) (opened_sums sums)) (word 2 (omega arith)) ∙ empty_books) i;
      }
