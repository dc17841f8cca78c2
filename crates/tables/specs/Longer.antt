-- Longer tables: with anything behind what the state needs, they hold the same state, and each change of them leaves what stands there.
use Rattle.std.specs.Prelude.{ℕ, suc, ◌+◌, ◌*◌, ◌-◌, ◌≤◌, ◌<◌, min, Bool, true, false, ◌≡◌, leb, ℤ, pos, length}
use mathlib.Core.List.{List, [], ◌∷◌, ◌++◌}
use Rattle.std.proofs.Common.{ap, ap₂, ◌∙◌, arith}
use Rattle.std.proofs.Math.ListN.{get_or, get_or-append}
use Rattle.std.proofs.lemmas.List.{set-append_left}
use Rattle.rules.specs.Sizes.{keys, most_kept}
use Rattle.rules.specs.Closing.{written}
use Rattle.laws.specs.Tests.{split}
use Rattle.laws.specs.Cuts.{cut, put, length_cut, length_put, cut_longer, put_longer}
use Rattle.laws.specs.Tabs.{tab_same}
use Rattle.claims.specs.SoundKept.{length_written}
use Rattle.tables.specs.Layout.{book_words, sums_words, waiting_row, waiting_amounts, kept_row, kept_amounts}
use Rattle.tables.specs.Rows.{row_entry, row_commit, row_writes}
use Rattle.tables.specs.View.{waiting_words, kept_words, entry_at, commit_at, waiting_view, kept_view, values_view, books_view, clock_view, view}
use Rattle.tables.specs.NewRow.{with_row}
use Rattle.tables.specs.Joined.{gap_book, gap_sums, length_gap, length_gap_sums, joined_book, joined_sums}
use Rattle.tables.specs.TakenOff.{off_book, off_sums}
use Rattle.tables.specs.Keeping.{kept_book, kept_sums, folded_sums, evicted_sums, length_evicted, committed_book, committed_sums}
use Rattle.tables.specs.Voted.{voted_book}
use Rattle.tables.specs.Counters.{with_counters}
use Rattle.tables.specs.Opened.{blank, length_blank, opened_words, opened_book, opened_sums, length_opened_words}

module _ (book x : List ℕ) (sums y : List ℤ) (long : book_words ≤ length book) (long_sums : sums_words ≤ length sums) where
  -- what they hold
  pub counter_longer : (j : ℕ) → j < 6 → get_or (book ++ x) j 0 ≡ get_or book j 0
  counter_longer j low = get_or-append book x 0 j (omega arith)

  pub waiting_words_longer : (i : ℕ) → i < 32 → waiting_words (book ++ x) i ≡ waiting_words book i
  unfolding waiting_words
  waiting_words_longer i low = cut_longer (waiting_row i) 24 book x (omega arith)

  pub kept_words_longer : (v : ℕ) → kept_words (book ++ x) v ≡ kept_words book v
  unfolding kept_words
  kept_words_longer v = cut_longer (kept_row v) 24 book x (omega arith)

  pub entry_longer : (i : ℕ) → i < 32 → entry_at (book ++ x) (sums ++ y) i ≡ entry_at book sums i
  unfolding entry_at
  entry_longer i low = ap₂ row_entry (waiting_words_longer i low) (cut_longer (waiting_amounts i) 8 sums y (omega arith))

  commit_longer : (v : ℕ) → commit_at (book ++ x) (sums ++ y) v ≡ commit_at book sums v
  unfolding commit_at
  commit_longer v = ap₂ row_commit (kept_words_longer v) (cut_longer (kept_amounts v) 8 sums y (omega arith))

  pub waiting_longer : (n : ℕ) → n ≤ 32 → waiting_view n (book ++ x) (sums ++ y) ≡ waiting_view n book sums
  unfolding waiting_view
  waiting_longer n few = tab_same n (entry_at (book ++ x) (sums ++ y)) (entry_at book sums) (λ i low. entry_longer i (omega arith))

  values_longer : values_view (sums ++ y) ≡ values_view sums
  unfolding values_view
  values_longer = cut_longer 0 keys sums y (omega arith)

  pub books_longer : (sc : ℕ) → books_view sc (book ++ x) (sums ++ y) ≡ books_view sc book sums
  unfolding books_view kept_view
  books_longer sc =
      λ i. record {
        sc = sc;
        kept = tab_same (min sc most_kept) (λ j. commit_at (book ++ x) (sums ++ y) (sc - j)) (λ j. commit_at book sums (sc - j))
            (λ j low. commit_longer (sc - j)) i;
        values = values_longer i;
      }

  pub clock_longer : clock_view (book ++ x) ≡ clock_view book
  unfolding clock_view
  clock_longer =
      λ i. record {
        partitions = counter_longer 0 (omega arith) i;
        own = counter_longer 1 (omega arith) i;
        dc = counter_longer 3 (omega arith) i;
        k = counter_longer 4 (omega arith) i;
      }

  -- with more than 32 said to wait the state is unsound, and may be another
  pub view_longer : get_or book 5 0 ≤ 32 → view (book ++ x) (sums ++ y) ≡ view book sums
  unfolding view
  view_longer few =
      λ i. record {
        clock = clock_longer i;
        waiting = (ap (λ (n : ℕ). waiting_view n (book ++ x) (sums ++ y)) (counter_longer 5 (omega arith)) ∙ waiting_longer (get_or book 5 0) few) i;
        books = (ap (λ (sc : ℕ). books_view sc (book ++ x) (sums ++ y)) (counter_longer 2 (omega arith)) ∙ books_longer (get_or book 2 0)) i;
      }

  -- the head taken off, with n left behind it
  pub off_longer : (n : ℕ) → n < 32 → off_book (book ++ x) n ≡ off_book book n ++ x
  unfolding off_book
  off_longer n room =
      let m = length_cut (waiting_row 1) (24 * n) book (omega arith) in
      ap (put (book ++ x) (waiting_row 0)) (cut_longer (waiting_row 1) (24 * n) book x (omega arith))
      ∙ put_longer book x (waiting_row 0) (cut (waiting_row 1) (24 * n) book) (omega arith)

  pub off_sums_longer : (n : ℕ) → n < 32 → off_sums (sums ++ y) n ≡ off_sums sums n ++ y
  unfolding off_sums
  off_sums_longer n room =
      let m = length_cut (waiting_amounts 1) (8 * n) sums (omega arith) in
      ap (put (sums ++ y) (waiting_amounts 0)) (cut_longer (waiting_amounts 1) (8 * n) sums y (omega arith))
      ∙ put_longer sums y (waiting_amounts 0) (cut (waiting_amounts 1) (8 * n) sums) (omega arith)

  -- the head committed
  pub committed_longer : (sc : ℕ) → committed_book (book ++ x) sc ≡ committed_book book sc ++ x
  unfolding committed_book kept_book
  committed_longer sc =
      let m = length_cut (waiting_row 0) 24 book (omega arith) in
      ap (put (book ++ x) (kept_row (sc + 1))) (cut_longer (waiting_row 0) 24 book x (omega arith))
      ∙ put_longer book x (kept_row (sc + 1)) (cut (waiting_row 0) 24 book) (omega arith)

  folded_longer : (v : ℕ) → folded_sums (book ++ x) (sums ++ y) v ≡ folded_sums book sums v ++ y
  unfolding folded_sums values_view
  folded_longer v =
      let oldest = row_writes (kept_words book v) (cut (kept_amounts v) 8 sums) in
      let m = length_cut 0 keys sums (omega arith) in
      let l = length_written oldest (cut 0 keys sums) in
      rw (kept_words_longer v, cut_longer (kept_amounts v) 8 sums y (omega arith), cut_longer 0 keys sums y (omega arith))
      (put_longer sums y 0 (written oldest (cut 0 keys sums)) (omega arith))

  evicted_longer : (sc : ℕ) → evicted_sums (book ++ x) (sums ++ y) sc ≡ evicted_sums book sums sc ++ y
  unfolding evicted_sums
  evicted_longer sc = split (leb most_kept sc) (λ q. rw q (folded_longer (sc + 1))) (λ q. rw q)

  pub committed_sums_longer : (sc : ℕ) → committed_sums (book ++ x) (sums ++ y) sc ≡ committed_sums book sums sc ++ y
  unfolding committed_sums kept_sums
  committed_sums_longer sc =
      let e = evicted_sums book sums sc in
      let l = length_evicted book sums sc long long_sums in
      let m = length_cut (waiting_amounts 0) 8 e (omega arith) in
      rw (evicted_longer sc, cut_longer (waiting_amounts 0) 8 e y (omega arith))
      (put_longer e y (kept_amounts (sc + 1)) (cut (waiting_amounts 0) 8 e) (omega arith))

  -- the counters stored
  pub counters_longer : (sc dc k n : ℕ) → with_counters (book ++ x) sc dc k n ≡ with_counters book sc dc k n ++ x
  unfolding with_counters
  counters_longer sc dc k n = put_longer book x 2 (sc ∷ dc ∷ k ∷ n ∷ []) (omega arith)

  -- a vote stored
  pub voted_longer : (i p : ℕ) (agrees : Bool) → i < 32 → voted_book (book ++ x) i p agrees ≡ voted_book book i p agrees ++ x
  unfolding voted_book
  voted_longer i p true low = rw (get_or-append book x 0 (waiting_row i + 4) (omega arith)) (set-append_left book x (waiting_row i + 4) _ (omega arith))
  voted_longer i p false low = rw (get_or-append book x 0 (waiting_row i + 5) (omega arith)) (set-append_left book x (waiting_row i + 5) _ (omega arith))

  -- an engine opened
  pub opened_longer : (partitions own k : ℕ) → opened_book (book ++ x) partitions own k ≡ opened_book book partitions own k ++ x
  unfolding opened_book
  opened_longer partitions own k =
      let l = length_opened_words partitions own k in put_longer book x 0 (opened_words partitions own k) (omega arith)

  pub opened_sums_longer : opened_sums (sums ++ y) ≡ opened_sums sums ++ y
  unfolding opened_sums
  opened_sums_longer = let l = length_blank sums_words (pos 0) in put_longer sums y 0 (blank sums_words (pos 0)) (omega arith)

  -- a newcomer at place i, of n that wait
  module _ (n i : ℕ) (first reads keys : List ℕ) (amounts : List ℤ) (room : n < 32) (low : i ≤ n)
      (eight : length first ≡ 8) (few_reads : length reads ≤ 8) (few_keys : length keys ≤ 8) (same : length amounts ≡ length keys) where
    gap_longer : gap_book (book ++ x) n i ≡ gap_book book n i ++ x
    unfolding gap_book
    gap_longer =
        let m = length_cut (waiting_row i) (24 * (n - i)) book (omega arith) in
        ap (put (book ++ x) (waiting_row (suc i))) (cut_longer (waiting_row i) (24 * (n - i)) book x (omega arith))
        ∙ put_longer book x (waiting_row (suc i)) (cut (waiting_row i) (24 * (n - i)) book) (omega arith)

    gap_sums_longer : gap_sums (sums ++ y) n i ≡ gap_sums sums n i ++ y
    unfolding gap_sums
    gap_sums_longer =
        let m = length_cut (waiting_amounts i) (8 * (n - i)) sums (omega arith) in
        ap (put (sums ++ y) (waiting_amounts (suc i))) (cut_longer (waiting_amounts i) (8 * (n - i)) sums y (omega arith))
        ∙ put_longer sums y (waiting_amounts (suc i)) (cut (waiting_amounts i) (8 * (n - i)) sums) (omega arith)

    pub joined_longer : joined_book (book ++ x) n i first reads keys ≡ joined_book book n i first reads keys ++ x
    unfolding joined_book with_row
    joined_longer =
        let gap = gap_book book n i in
        let l = length_gap book sums n i first reads keys amounts long long_sums room low eight few_reads few_keys same in
        let one = length_put gap (waiting_row i) first (omega arith) in
        let two = length_put (put gap (waiting_row i) first) (waiting_row i + 8) reads (omega arith) in
        rw (gap_longer, put_longer gap x (waiting_row i) first (omega arith), put_longer (put gap (waiting_row i) first) x (waiting_row i + 8) reads (omega arith))
        (put_longer (put (put gap (waiting_row i) first) (waiting_row i + 8) reads) x (waiting_row i + 16) keys (omega arith))

    pub joined_sums_longer : joined_sums (sums ++ y) n i amounts ≡ joined_sums sums n i amounts ++ y
    unfolding joined_sums
    joined_sums_longer =
        let l = length_gap_sums book sums n i first reads keys amounts long long_sums room low eight few_reads few_keys same in
        rw gap_sums_longer (put_longer (gap_sums sums n i) y (waiting_amounts i) amounts (omega arith))
