-- Keeping a commit: the head's row is copied to the kept row of its version, and the commit that stood there, if 64 were kept, is folded into the
-- values. The books then are the rules' books after the commit.
use Prim.Native.Nat.{ℕ, suc, ◌+◌, ◌*◌, ◌-◌, ◌%◌, ◌≤◌, ◌<◌, min}
use Rattle.std.specs.Prelude.{cond, ◌⊎◌, ◌≡◌, leb, ℤ, length, take, drop}
use mathlib.Core.List.{List, [], ◌∷◌}
use Rattle.std.proofs.Common.{inl, inr, ◌∙◌}
use Rattle.std.proofs.Math.Logic.{⊎_elim}
use Rattle.std.proofs.Math.Path.{sym, ap, ap₂}
use native.Mathlib.Omega.{arith}
use borrow.Author.Tests.{leb-true, leb-false}
use Rattle.rules.specs.Sizes.{keys, most_kept}
use Rattle.rules.specs.Ledger.{Write, Commit}
use Rattle.rules.specs.Closing.{written, folded, kept_of, committed}
use Rattle.laws.specs.Tests.{split}
use Rattle.claims.specs.SoundKept.{length_written}
use Rattle.laws.specs.Cuts.{cut, put, length_cut, length_put, cut_put_below, cut_put_above, cut_put_same}
use Rattle.laws.specs.Tabs.{tab, tab_cons, tab_same, take_tab_min, drop_tab}
use Rattle.tables.specs.Layout.{book_words, sums_words, waiting_row, waiting_amounts, kept_row, kept_amounts}
use Rattle.tables.specs.Rows.{row_transaction, row_entry, row_commit, row_writes}
use Rattle.tables.specs.View.{waiting_words, kept_words, entry_at, commit_at, waiting_view, kept_view, values_view, books_view}

-- The head's row and amounts at the kept row of a version.
unfoldable pub kept_book : List ℕ → ℕ → List ℕ
kept_book book v = put book (kept_row v) (cut (waiting_row 0) 24 book)

unfoldable pub kept_sums : List ℤ → ℕ → List ℤ
kept_sums sums v = put sums (kept_amounts v) (cut (waiting_amounts 0) 8 sums)

-- The values with the commit in them that stands where a version will be kept.
unfoldable pub folded_sums : List ℕ → List ℤ → ℕ → List ℤ
folded_sums book sums v = put sums 0 (written (row_writes (kept_words book v) (cut (kept_amounts v) 8 sums)) (values_view sums))

-- After the commit of version v: the older one is folded in only where 64 are kept.
unfoldable pub evicted_sums : List ℕ → List ℤ → ℕ → List ℤ
evicted_sums book sums sc = cond (leb most_kept sc) (folded_sums book sums (sc + 1)) sums

unfoldable pub committed_book : List ℕ → ℕ → List ℕ
committed_book book sc = kept_book book (sc + 1)

unfoldable pub committed_sums : List ℕ → List ℤ → ℕ → List ℤ
committed_sums book sums sc = kept_sums (evicted_sums book sums sc) (sc + 1)

module _ (book : List ℕ) (sums : List ℤ) (sc : ℕ) (long : book_words ≤ length book) (long_sums : sums_words ≤ length sums) where
  oldest : List Write
  oldest = row_writes (kept_words book (sc + 1)) (cut (kept_amounts (sc + 1)) 8 sums)

  length_values : length (values_view sums) ≡ keys
  unfolding values_view
  length_values = length_cut 0 keys sums (omega arith)

  length_folded_values : length (written oldest (values_view sums)) ≡ keys
  length_folded_values = length_written oldest (values_view sums) ∙ length_values

  -- folding touches the values alone
  pub length_evicted : length (evicted_sums book sums sc) ≡ length sums
  unfolding evicted_sums folded_sums oldest
  length_evicted =
      let l = length_folded_values in
      split (leb most_kept sc) (λ q. rw q (length_put sums 0 (written oldest (values_view sums)) (omega arith))) (λ q. rw q)

  evicted_behind : (x m : ℕ) → keys ≤ x → cut x m (evicted_sums book sums sc) ≡ cut x m sums
  unfolding evicted_sums folded_sums oldest
  evicted_behind x m high =
      let l = length_folded_values in
      split (leb most_kept sc) (λ q. rw q (cut_put_above x m sums 0 (written oldest (values_view sums)) (omega arith) (omega arith))) (λ q. rw q)

  evicted_values : values_view (evicted_sums book sums sc) ≡ cond (leb most_kept sc) (written oldest (values_view sums)) (values_view sums)
  unfolding evicted_sums folded_sums oldest values_view
  evicted_values =
      let l = length_folded_values in
      split (leb most_kept sc) (λ q. rw q (cut_put_same keys sums 0 (written oldest (values_view sums)) l (omega arith))) (λ q. rw q)

  -- the kept row of the new version is the head's; all other rows that are kept are as they were
  kept_slot : (sc + 1) % 64 < 64
  kept_slot = omega arith

  pub length_committed : length (committed_book book sc) ≡ length book
  unfolding committed_book kept_book
  length_committed =
      let m = length_cut (waiting_row 0) 24 book (omega arith) in
      length_put book (kept_row (sc + 1)) (cut (waiting_row 0) 24 book) (omega arith)

  pub length_committed_sums : length (committed_sums book sums sc) ≡ length sums
  unfolding committed_sums kept_sums
  length_committed_sums =
      let l = length_evicted in
      let m = length_cut (waiting_amounts 0) 8 (evicted_sums book sums sc) (omega arith) in
      length_put (evicted_sums book sums sc) (kept_amounts (sc + 1)) (cut (waiting_amounts 0) 8 (evicted_sums book sums sc)) (omega arith) ∙ l

  newest_commit : commit_at (committed_book book sc) (committed_sums book sums sc) (sc + 1) ≡ kept_of (entry_at book sums 0).transaction
  unfolding commit_at kept_words committed_book kept_book committed_sums kept_sums entry_at waiting_words row_entry row_commit kept_of row_transaction
  newest_commit =
      let l = length_evicted in
      let m = length_cut (waiting_row 0) 24 book (omega arith) in
      let k = length_cut (waiting_amounts 0) 8 (evicted_sums book sums sc) (omega arith) in
      ap₂ row_commit
      (cut_put_same 24 book (kept_row (sc + 1)) (cut (waiting_row 0) 24 book) m (omega arith))
      (cut_put_same 8 (evicted_sums book sums sc) (kept_amounts (sc + 1)) (cut (waiting_amounts 0) 8 (evicted_sums book sums sc)) k (omega arith)
      ∙ evicted_behind (waiting_amounts 0) 8 (omega arith))

  apart_words : (x : ℕ) → (x + 24 ≤ kept_row (sc + 1)) ⊎ (kept_row (sc + 1) + 24 ≤ x) → cut x 24 (committed_book book sc) ≡ cut x 24 book
  unfolding committed_book kept_book
  apart_words x =
      let m = length_cut (waiting_row 0) 24 book (omega arith) in
      ⊎_elim (λ low. cut_put_below x 24 book (kept_row (sc + 1)) (cut (waiting_row 0) 24 book) low (omega arith))
      (λ high. cut_put_above x 24 book (kept_row (sc + 1)) (cut (waiting_row 0) 24 book) (omega arith) (omega arith))

  apart_amounts : (x : ℕ) → keys ≤ x → (x + 8 ≤ kept_amounts (sc + 1)) ⊎ (kept_amounts (sc + 1) + 8 ≤ x)
      → cut x 8 (committed_sums book sums sc) ≡ cut x 8 sums
  unfolding committed_sums kept_sums
  apart_amounts x amounts =
      let l = length_evicted in
      let m = length_cut (waiting_amounts 0) 8 (evicted_sums book sums sc) (omega arith) in
      let s = cut (waiting_amounts 0) 8 (evicted_sums book sums sc) in
      ⊎_elim (λ low. cut_put_below x 8 (evicted_sums book sums sc) (kept_amounts (sc + 1)) s low (omega arith) ∙ evicted_behind x 8 amounts)
      (λ high. cut_put_above x 8 (evicted_sums book sums sc) (kept_amounts (sc + 1)) s (omega arith) (omega arith) ∙ evicted_behind x 8 amounts)

  -- two versions less than 64 apart have different kept rows
  older_commit : (v : ℕ) → v ≤ sc → sc < v + 63 → commit_at (committed_book book sc) (committed_sums book sums sc) v ≡ commit_at book sums v
  unfolding commit_at kept_words
  older_commit v low near =
      split (leb (v % 64) ((sc + 1) % 64))
      (λ q. let below = leb-true (v % 64) ((sc + 1) % 64) q in
      let less : v % 64 < (sc + 1) % 64 = omega arith in
      ap₂ row_commit (apart_words (kept_row v) (inl (omega arith))) (apart_amounts (kept_amounts v) (omega arith) (inl (omega arith))))
      (λ q. let above = leb-false (v % 64) ((sc + 1) % 64) q in
      ap₂ row_commit (apart_words (kept_row v) (inr (omega arith))) (apart_amounts (kept_amounts v) (omega arith) (inr (omega arith))))

  after : ℕ → Commit
  after j = commit_at (committed_book book sc) (committed_sums book sums sc) (sc + 1 - j)

  after_first : after 0 ≡ kept_of (entry_at book sums 0).transaction
  unfolding after
  after_first = let e : sc + 1 - 0 ≡ sc + 1 = omega arith in ap (commit_at (committed_book book sc) (committed_sums book sums sc)) e ∙ newest_commit

  after_older : (j : ℕ) → j < min sc 63 → after (suc j) ≡ commit_at book sums (sc - j)
  unfolding after
  after_older j low =
      let e : sc + 1 - suc j ≡ sc - j = omega arith in
      ap (commit_at (committed_book book sc) (committed_sums book sums sc)) e ∙ older_commit (sc - j) (omega arith) (omega arith)

  pub committed_kept : kept_view (sc + 1) (committed_book book sc) (committed_sums book sums sc)
      ≡ take most_kept (kept_of (entry_at book sums 0).transaction ∷ kept_view sc book sums)
  unfolding kept_view after
  committed_kept =
      let e : min (sc + 1) most_kept ≡ suc (min sc 63) = omega arith in
      let m : min sc 63 ≡ min 63 (min sc most_kept) = omega arith in
      ap (λ (n : ℕ). tab n after) e
      ∙ (tab_cons (min sc 63) after
      ∙ ap₂ (λ (c : Commit) (cs : List Commit). c ∷ cs) after_first
      (tab_same (min sc 63) (λ j. after (suc j)) (λ j. commit_at book sums (sc - j)) after_older
      ∙ (ap (λ (n : ℕ). tab n (λ j. commit_at book sums (sc - j))) m ∙ sym (take_tab_min 63 (min sc most_kept) (λ j. commit_at book sums (sc - j))))))

  -- what falls out of the kept: the commit that stands where the new one will be kept, if 64 are kept
  fallen : 64 ≤ sc → drop 63 (kept_view sc book sums) ≡ commit_at book sums (sc + 1) ∷ []
  unfolding kept_view commit_at kept_words tab
  fallen full =
      let one : min sc most_kept - 63 ≡ 1 = omega arith in
      let slot : (sc - (63 + 0)) % 64 ≡ (sc + 1) % 64 = omega arith in
      drop_tab 63 (min sc most_kept) (λ j. commit_at book sums (sc - j))
      ∙ (ap (λ (n : ℕ). tab n (λ j. commit_at book sums (sc - (63 + j)))) one
      ∙ ap (λ (slot : ℕ). row_commit (cut (774 + 24 * slot) 24 book) (cut (1280 + 8 * slot) 8 sums) ∷ []) slot)

  not_fallen : sc < 64 → drop 63 (kept_view sc book sums) ≡ []
  unfolding kept_view tab
  not_fallen few =
      let none : min sc most_kept - 63 ≡ 0 = omega arith in
      drop_tab 63 (min sc most_kept) (λ j. commit_at book sums (sc - j)) ∙ ap (λ (n : ℕ). tab n (λ j. commit_at book sums (sc - (63 + j)))) none

  kept_apart : values_view (committed_sums book sums sc) ≡ values_view (evicted_sums book sums sc)
  unfolding values_view committed_sums kept_sums
  kept_apart =
      let l = length_evicted in
      cut_put_below 0 keys (evicted_sums book sums sc) (kept_amounts (sc + 1)) (cut (waiting_amounts 0) 8 (evicted_sums book sums sc)) (omega arith) (omega arith)

  pub committed_values : values_view (committed_sums book sums sc)
      ≡ folded (drop most_kept (kept_of (entry_at book sums 0).transaction ∷ kept_view sc book sums)) (values_view sums)
  unfolding folded oldest commit_at row_commit
  committed_values =
      kept_apart
      ∙ (evicted_values
      ∙ split (leb most_kept sc)
      (λ q. rw (q, fallen (leb-true most_kept sc q)))
      (λ q. rw (q, not_fallen (leb-false most_kept sc q))))

  -- "A commit raises SC by 1", keeps the head's reads and writes, and folds the oldest into the values
  pub committed_books : books_view (sc + 1) (committed_book book sc) (committed_sums book sums sc)
      ≡ committed (entry_at book sums 0).transaction (books_view sc book sums)
  unfolding books_view committed
  committed_books = λ i. record { sc = sc + 1; kept = committed_kept i; values = committed_values i }

  -- the waiting rows see nothing of it
  pub committed_entry : (i : ℕ) → i < 32 → entry_at (committed_book book sc) (committed_sums book sums sc) i ≡ entry_at book sums i
  unfolding entry_at waiting_words
  committed_entry i low =
      ap₂ row_entry (apart_words (waiting_row i) (inl (omega arith))) (apart_amounts (waiting_amounts i) (omega arith) (inl (omega arith)))

  pub committed_waiting : (n : ℕ) → n ≤ 32 → waiting_view n (committed_book book sc) (committed_sums book sums sc) ≡ waiting_view n book sums
  unfolding waiting_view
  committed_waiting n few =
      tab_same n (entry_at (committed_book book sc) (committed_sums book sums sc)) (entry_at book sums) (λ i low. committed_entry i (omega arith))
