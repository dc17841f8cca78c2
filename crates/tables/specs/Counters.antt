-- The counters stored anew: what the tables then hold is the same rows under the new counters.
use Rattle.std.specs.Prelude.{ℕ, ◌+◌, ◌-◌, ◌≤◌, ◌<◌, min, ◌≡◌, ℤ, length, get_or}
use mathlib.Core.List.{List, [], ◌∷◌}
use Rattle.std.proofs.Math.Path.{ap}
use Rattle.std.proofs.Common.{◌∙◌, arith}
use Rattle.rules.specs.Sizes.{most_kept}
use Rattle.laws.specs.Cuts.{cut, put, length_put, cut_put_above, get_or_put_below, get_or_put_within}
use Rattle.laws.specs.Tabs.{tab_same}
use Rattle.tables.specs.Layout.{book_words, waiting_row, kept_row, waiting_amounts, kept_amounts}
use Rattle.tables.specs.Rows.{row_entry, row_commit}
use Rattle.tables.specs.View.{waiting_words, kept_words, entry_at, commit_at, waiting_view, kept_view, values_view, books_view, clock_view, view}

-- SC, DC, k and how many wait, in a row from word 2 on.
unfoldable pub with_counters : List ℕ → ℕ → ℕ → ℕ → ℕ → List ℕ
with_counters book sc dc k n = put book 2 (sc ∷ dc ∷ k ∷ n ∷ [])

module _ (book : List ℕ) (sums : List ℤ) (sc dc k n : ℕ) (long : book_words ≤ length book) where
  pub length_counters : length (with_counters book sc dc k n) ≡ length book
  unfolding with_counters
  length_counters = length_put book 2 (sc ∷ dc ∷ k ∷ n ∷ []) (omega arith)

  rows_behind : (x m : ℕ) → 6 ≤ x → cut x m (with_counters book sc dc k n) ≡ cut x m book
  unfolding with_counters
  rows_behind x m high = cut_put_above x m book 2 (sc ∷ dc ∷ k ∷ n ∷ []) high (omega arith)

  counted_entry : (i : ℕ) → entry_at (with_counters book sc dc k n) sums i ≡ entry_at book sums i
  unfolding entry_at waiting_words
  counted_entry i = ap (λ (w : List ℕ). row_entry w (cut (waiting_amounts i) 8 sums)) (rows_behind (waiting_row i) 24 (omega arith))

  counted_commit : (v : ℕ) → commit_at (with_counters book sc dc k n) sums v ≡ commit_at book sums v
  unfolding commit_at kept_words
  counted_commit v = ap (λ (w : List ℕ). row_commit w (cut (kept_amounts v) 8 sums)) (rows_behind (kept_row v) 24 (omega arith))

  counted_waiting : (m : ℕ) → waiting_view m (with_counters book sc dc k n) sums ≡ waiting_view m book sums
  unfolding waiting_view
  counted_waiting m = tab_same m (entry_at (with_counters book sc dc k n) sums) (entry_at book sums) (λ i low. counted_entry i)

  counted_books : (v : ℕ) → books_view v (with_counters book sc dc k n) sums ≡ books_view v book sums
  unfolding books_view kept_view
  counted_books v =
      λ i. record {
        sc = v;
        kept = tab_same (min v most_kept) (λ j. commit_at (with_counters book sc dc k n) sums (v - j)) (λ j. commit_at book sums (v - j))
            (λ j low. counted_commit (v - j)) i;
        values = values_view sums;
      }

  counter_below : (j : ℕ) → j < 2 → get_or (with_counters book sc dc k n) j 0 ≡ get_or book j 0
  unfolding with_counters
  counter_below j low = get_or_put_below book 2 (sc ∷ dc ∷ k ∷ n ∷ []) j 0 low (omega arith)

  counter_at : (j : ℕ) → j < 4 → get_or (with_counters book sc dc k n) (2 + j) 0 ≡ get_or (sc ∷ dc ∷ k ∷ n ∷ []) j 0
  unfolding with_counters
  counter_at j low = get_or_put_within book 2 (sc ∷ dc ∷ k ∷ n ∷ []) j 0 low (omega arith)

  -- the state that the tables then hold
  pub counters_view : view (with_counters book sc dc k n) sums
      ≡ record {
        clock = record { partitions = get_or book 0 0; own = get_or book 1 0; dc = dc; k = k };
        waiting = waiting_view n book sums;
        books = books_view sc book sums;
      }
  unfolding view clock_view
  counters_view =
      λ i. record {
        clock = record {
          partitions = counter_below 0 (omega arith) i;
          own = counter_below 1 (omega arith) i;
          dc = counter_at 1 (omega arith) i;
          k = counter_at 2 (omega arith) i;
        };
        waiting = (ap (λ (m : ℕ). waiting_view m (with_counters book sc dc k n) sums) (counter_at 3 (omega arith)) ∙ counted_waiting n) i;
        books = (ap (λ (m : ℕ). books_view m (with_counters book sc dc k n) sums) (counter_at 0 (omega arith)) ∙ counted_books sc) i;
      }
