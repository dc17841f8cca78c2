-- Taking the head off: the rows behind it move down by one. The waiting list is then the list without its head.
use Rattle.std.specs.Prelude.{ℕ, suc, ◌+◌, ◌*◌, ◌-◌, ◌≤◌, ◌<◌, min, ◌≡◌, ℤ, length}
use mathlib.Core.List.{List, ◌∷◌}
use Rattle.std.proofs.Math.Path.{sym, ap, ap₂}
use Rattle.std.proofs.Common.{arith}
use Rattle.rules.specs.Sizes.{keys, most_kept}
use Rattle.rules.specs.Ledger.{Entry}
use Rattle.laws.specs.Cuts.{cut, put, length_cut, length_put, cut_put_below, cut_put_above}
use Rattle.laws.specs.Tabs.{tab, tab_same}
use Rattle.tables.specs.Layout.{book_words, sums_words, waiting_row, waiting_amounts, kept_row, kept_amounts}
use Rattle.tables.specs.Rows.{row_entry, row_commit}
use Rattle.tables.specs.View.{waiting_words, kept_words, entry_at, commit_at, waiting_view, kept_view, values_view, books_view}
use Rattle.tables.specs.Joined.{cut_moved}

-- The tables without the head, with n left behind it.
unfoldable pub off_book : List ℕ → ℕ → List ℕ
off_book book n = put book (waiting_row 0) (cut (waiting_row 1) (24 * n) book)

unfoldable pub off_sums : List ℤ → ℕ → List ℤ
off_sums sums n = put sums (waiting_amounts 0) (cut (waiting_amounts 1) (8 * n) sums)

module _ (book : List ℕ) (sums : List ℤ) (n : ℕ) (long : book_words ≤ length book) (long_sums : sums_words ≤ length sums) (room : n < 32) where
  moved : length (cut (waiting_row 1) (24 * n) book) ≡ 24 * n
  moved = length_cut (waiting_row 1) (24 * n) book (omega arith)

  moved_sums : length (cut (waiting_amounts 1) (8 * n) sums) ≡ 8 * n
  moved_sums = length_cut (waiting_amounts 1) (8 * n) sums (omega arith)

  pub length_off : length (off_book book n) ≡ length book
  unfolding off_book
  length_off = let m = moved in length_put book (waiting_row 0) (cut (waiting_row 1) (24 * n) book) (omega arith)

  pub length_off_sums : length (off_sums sums n) ≡ length sums
  unfolding off_sums
  length_off_sums = let m = moved_sums in length_put sums (waiting_amounts 0) (cut (waiting_amounts 1) (8 * n) sums) (omega arith)

  -- the counters, and whatever stands behind the last row, are as they were
  pub off_counters : (x m : ℕ) → x + m ≤ waiting_row 0 → cut x m (off_book book n) ≡ cut x m book
  unfolding off_book
  off_counters x m below = cut_put_below x m book (waiting_row 0) (cut (waiting_row 1) (24 * n) book) below (omega arith)

  pub off_behind : (x m : ℕ) → waiting_row n ≤ x → cut x m (off_book book n) ≡ cut x m book
  unfolding off_book
  off_behind x m high = let e = moved in cut_put_above x m book (waiting_row 0) (cut (waiting_row 1) (24 * n) book) (omega arith) (omega arith)

  pub off_values : (x m : ℕ) → x + m ≤ waiting_amounts 0 → cut x m (off_sums sums n) ≡ cut x m sums
  unfolding off_sums
  off_values x m below = cut_put_below x m sums (waiting_amounts 0) (cut (waiting_amounts 1) (8 * n) sums) below (omega arith)

  pub off_sums_behind : (x m : ℕ) → waiting_amounts n ≤ x → cut x m (off_sums sums n) ≡ cut x m sums
  unfolding off_sums
  off_sums_behind x m high =
      let e = moved_sums in cut_put_above x m sums (waiting_amounts 0) (cut (waiting_amounts 1) (8 * n) sums) (omega arith) (omega arith)

  entry_off : (j : ℕ) → j < n → entry_at (off_book book n) (off_sums sums n) j ≡ entry_at book sums (suc j)
  unfolding entry_at waiting_words off_book off_sums
  entry_off j low =
      ap₂ row_entry
      (cut_moved (waiting_row j) (waiting_row (suc j)) 24 book (waiting_row 1) (waiting_row 0) (24 * n) (24 * j)
      (omega arith) (omega arith) (omega arith) (omega arith) (omega arith))
      (cut_moved (waiting_amounts j) (waiting_amounts (suc j)) 8 sums (waiting_amounts 1) (waiting_amounts 0) (8 * n) (8 * j)
      (omega arith) (omega arith) (omega arith) (omega arith) (omega arith))

  pub off_waiting : waiting_view (suc n) book sums ≡ entry_at book sums 0 ∷ waiting_view n (off_book book n) (off_sums sums n)
  unfolding waiting_view tab
  off_waiting =
      ap (λ (l : List Entry). entry_at book sums 0 ∷ l)
      (tab_same n (λ j. entry_at book sums (suc j)) (entry_at (off_book book n) (off_sums sums n)) (λ j low. sym (entry_off j low)))

  -- the books see nothing of it
  off_commit : (v : ℕ) → commit_at (off_book book n) (off_sums sums n) v ≡ commit_at book sums v
  unfolding commit_at kept_words
  off_commit v = ap₂ row_commit (off_behind (kept_row v) 24 (omega arith)) (off_sums_behind (kept_amounts v) 8 (omega arith))

  pub off_books : (sc : ℕ) → books_view sc (off_book book n) (off_sums sums n) ≡ books_view sc book sums
  unfolding books_view kept_view values_view
  off_books sc =
      λ i. record {
        sc = sc;
        kept = tab_same (min sc most_kept) (λ j. commit_at (off_book book n) (off_sums sums n) (sc - j)) (λ j. commit_at book sums (sc - j))
            (λ j low. off_commit (sc - j)) i;
        values = off_values 0 keys (omega arith) i;
      }
