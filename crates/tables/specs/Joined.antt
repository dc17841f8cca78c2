-- Joining: the rows from a place on move up by one, and the newcomer's row is laid into the gap. The waiting list then has it at that place; kept
-- commits, values and counters see nothing of it.
use Rattle.std.specs.Prelude.{ℕ, suc, ◌+◌, ◌*◌, ◌-◌, ◌≤◌, ◌<◌, min, List, ◌≡◌, refl, ℤ, length, get_or, insert}
use Rattle.std.proofs.Common.{sym, ap, ◌∙◌, arith}
use Rattle.std.proofs.Math.Path.{ap₂}
use Rattle.rules.specs.Sizes.{most_kept}
use Rattle.laws.specs.Cuts.{cut, put, length_cut, length_put, cut_put_below, cut_put_above, cut_put_within, cut_cut, get_or_cut}
use Rattle.laws.specs.Tabs.{tab_insert, tab_same}
use Rattle.tables.specs.Layout.{book_words, sums_words, waiting_row, waiting_amounts, kept_row, kept_amounts}
use Rattle.tables.specs.Rows.{row_entry, row_commit}
use Rattle.tables.specs.View.{waiting_words, kept_words, entry_at, commit_at, waiting_view, kept_view, values_view, books_view}
use Rattle.tables.specs.NewRow.{first_words, with_row, RowFits, length_with_row, with_row_below, with_row_above, newcomer, new_entry}

-- A part of what was moved within a list.
pub cut_moved : {A : Type 0} (x y w : ℕ) (l : List A) (from to m d : ℕ) → x ≡ to + d → y ≡ from + d → d + w ≤ m → from + m ≤ length l → to ≤ length l
    → cut x w (put l to (cut from m l)) ≡ cut y w l
cut_moved x y w l from to m d ex ey fits source target =
    let long = length_cut from m l source in
    let back : x - to ≡ d = omega arith in
    cut_put_within x w l to (cut from m l) (omega arith) (omega arith) target
    ∙ (ap (λ (k : ℕ). cut k w (cut from m l)) back ∙ (cut_cut d w from m l fits ∙ ap (λ (k : ℕ). cut k w l) (sym ey)))

-- The rows and amounts from place i on moved up by one, of n that wait.
unfoldable pub gap_book : List ℕ → ℕ → ℕ → List ℕ
gap_book book n i = put book (waiting_row (suc i)) (cut (waiting_row i) (24 * (n - i)) book)

unfoldable pub gap_sums : List ℤ → ℕ → ℕ → List ℤ
gap_sums sums n i = put sums (waiting_amounts (suc i)) (cut (waiting_amounts i) (8 * (n - i)) sums)

-- The newcomer in the gap.
unfoldable pub joined_book : List ℕ → ℕ → ℕ → List ℕ → List ℕ → List ℕ → List ℕ
joined_book book n i first reads keys = with_row (gap_book book n i) (waiting_row i) first reads keys

unfoldable pub joined_sums : List ℤ → ℕ → ℕ → List ℤ → List ℤ
joined_sums sums n i amounts = put (gap_sums sums n i) (waiting_amounts i) amounts

module _ (book : List ℕ) (sums : List ℤ) (n i : ℕ) (first reads keys : List ℕ) (amounts : List ℤ)
    (long : book_words ≤ length book) (long_sums : sums_words ≤ length sums) (room : n < 32) (low : i ≤ n)
    (eight : length first ≡ 8) (few_reads : length reads ≤ 8) (few_keys : length keys ≤ 8) (same : length amounts ≡ length keys) where
  moved : length (cut (waiting_row i) (24 * (n - i)) book) ≡ 24 * (n - i)
  moved = length_cut (waiting_row i) (24 * (n - i)) book (omega arith)

  moved_sums : length (cut (waiting_amounts i) (8 * (n - i)) sums) ≡ 8 * (n - i)
  moved_sums = length_cut (waiting_amounts i) (8 * (n - i)) sums (omega arith)

  pub length_gap : length (gap_book book n i) ≡ length book
  unfolding gap_book
  length_gap = let m = moved in length_put book (waiting_row (suc i)) (cut (waiting_row i) (24 * (n - i)) book) (omega arith)

  pub length_gap_sums : length (gap_sums sums n i) ≡ length sums
  unfolding gap_sums
  length_gap_sums = let m = moved_sums in length_put sums (waiting_amounts (suc i)) (cut (waiting_amounts i) (8 * (n - i)) sums) (omega arith)

  row_fits : RowFits (gap_book book n i) (waiting_row i) first reads keys
  row_fits = let l = length_gap in record { fits = omega arith; eight = eight; few_reads = few_reads; few_keys = few_keys }

  pub length_joined : length (joined_book book n i first reads keys) ≡ length book
  unfolding joined_book
  length_joined = length_with_row (gap_book book n i) (waiting_row i) first reads keys row_fits ∙ length_gap

  pub length_joined_sums : length (joined_sums sums n i amounts) ≡ length sums
  unfolding joined_sums
  length_joined_sums = let l = length_gap_sums in length_put (gap_sums sums n i) (waiting_amounts i) amounts (omega arith) ∙ length_gap_sums

  -- whatever ends where the newcomer begins, or begins behind the last row, is as it was
  joined_before : (x m : ℕ) → x + m ≤ waiting_row i → cut x m (joined_book book n i first reads keys) ≡ cut x m book
  unfolding joined_book gap_book
  joined_before x m below =
      with_row_below (gap_book book n i) (waiting_row i) first reads keys row_fits x m below
      ∙ cut_put_below x m book (waiting_row (suc i)) (cut (waiting_row i) (24 * (n - i)) book) (omega arith) (omega arith)

  pub joined_behind : (x m : ℕ) → waiting_row (suc n) ≤ x → cut x m (joined_book book n i first reads keys) ≡ cut x m book
  unfolding joined_book gap_book
  joined_behind x m high =
      let e = moved in
      with_row_above (gap_book book n i) (waiting_row i) first reads keys row_fits x m (omega arith)
      ∙ cut_put_above x m book (waiting_row (suc i)) (cut (waiting_row i) (24 * (n - i)) book) (omega arith) (omega arith)

  joined_sums_before : (x m : ℕ) → x + m ≤ waiting_amounts i → cut x m (joined_sums sums n i amounts) ≡ cut x m sums
  unfolding joined_sums gap_sums
  joined_sums_before x m below =
      let l = length_gap_sums in
      cut_put_below x m (gap_sums sums n i) (waiting_amounts i) amounts below (omega arith)
      ∙ cut_put_below x m sums (waiting_amounts (suc i)) (cut (waiting_amounts i) (8 * (n - i)) sums) (omega arith) (omega arith)

  pub joined_sums_behind : (x m : ℕ) → waiting_amounts (suc n) ≤ x → cut x m (joined_sums sums n i amounts) ≡ cut x m sums
  unfolding joined_sums gap_sums
  joined_sums_behind x m high =
      let e = moved_sums in let l = length_gap_sums in
      cut_put_above x m (gap_sums sums n i) (waiting_amounts i) amounts (omega arith) (omega arith)
      ∙ cut_put_above x m sums (waiting_amounts (suc i)) (cut (waiting_amounts i) (8 * (n - i)) sums) (omega arith) (omega arith)

  -- the rows before the place, and those behind it, one row further
  entry_before : (j : ℕ) → j < i → entry_at (joined_book book n i first reads keys) (joined_sums sums n i amounts) j ≡ entry_at book sums j
  unfolding entry_at waiting_words
  entry_before j below =
      ap₂ row_entry (joined_before (waiting_row j) 24 (omega arith)) (joined_sums_before (waiting_amounts j) 8 (omega arith))

  entry_behind : (j : ℕ) → i ≤ j → j < n → entry_at (joined_book book n i first reads keys) (joined_sums sums n i amounts) (suc j) ≡ entry_at book sums j
  unfolding entry_at waiting_words joined_book gap_book joined_sums gap_sums
  entry_behind j high below =
      let l = length_gap_sums in
      ap₂ row_entry
      (with_row_above (gap_book book n i) (waiting_row i) first reads keys row_fits (waiting_row (suc j)) 24 (omega arith)
      ∙ cut_moved (waiting_row (suc j)) (waiting_row j) 24 book (waiting_row i) (waiting_row (suc i)) (24 * (n - i)) (24 * (j - i))
      (omega arith) (omega arith) (omega arith) (omega arith) (omega arith))
      (cut_put_above (waiting_amounts (suc j)) 8 (gap_sums sums n i) (waiting_amounts i) amounts (omega arith) (omega arith)
      ∙ cut_moved (waiting_amounts (suc j)) (waiting_amounts j) 8 sums (waiting_amounts i) (waiting_amounts (suc i)) (8 * (n - i)) (8 * (j - i))
      (omega arith) (omega arith) (omega arith) (omega arith) (omega arith))

-- The waiting list with the newcomer at its place.
pub joined_waiting : (book : List ℕ) (sums : List ℤ) (n i identity set st rt : ℕ) (reads keys : List ℕ) (amounts : List ℤ)
    → book_words ≤ length book → sums_words ≤ length sums → n < 32 → i ≤ n → length reads ≤ 8 → length keys ≤ 8 → length amounts ≡ length keys
    → waiting_view (suc n) (joined_book book n i (first_words identity set st rt reads keys) reads keys) (joined_sums sums n i amounts)
    ≡ insert (waiting_view n book sums) i (newcomer identity set st rt reads keys amounts)
unfolding waiting_view entry_at waiting_words joined_book joined_sums
joined_waiting book sums n i identity set st rt reads keys amounts long long_sums room low few_reads few_keys same =
    let first = first_words identity set st rt reads keys in
    let fits = row_fits book sums n i first reads keys amounts long long_sums room low refl few_reads few_keys same in
    let l = length_gap_sums book sums n i first reads keys amounts long long_sums room low refl few_reads few_keys same in
    tab_insert n i (newcomer identity set st rt reads keys amounts) (entry_at book sums)
    (entry_at (joined_book book n i first reads keys) (joined_sums sums n i amounts)) low
    (entry_before book sums n i first reads keys amounts long long_sums room low refl few_reads few_keys same)
    (new_entry (gap_book book n i) (waiting_row i) identity set st rt reads keys (gap_sums sums n i) (waiting_amounts i) amounts fits same (omega arith))
    (entry_behind book sums n i first reads keys amounts long long_sums room low refl few_reads few_keys same)

-- The books see nothing of it, nor do the counters.
pub joined_books : (book : List ℕ) (sums : List ℤ) (n i : ℕ) (first reads keys : List ℕ) (amounts : List ℤ)
    → book_words ≤ length book → sums_words ≤ length sums → n < 32 → i ≤ n → length first ≡ 8 → length reads ≤ 8 → length keys ≤ 8
    → length amounts ≡ length keys → (sc : ℕ)
    → books_view sc (joined_book book n i first reads keys) (joined_sums sums n i amounts) ≡ books_view sc book sums
unfolding books_view kept_view values_view commit_at kept_words
joined_books book sums n i first reads keys amounts long long_sums room low eight few_reads few_keys same sc =
    λ k. record {
      sc = sc;
      kept = tab_same (min sc most_kept) (λ j. commit_at (joined_book book n i first reads keys) (joined_sums sums n i amounts) (sc - j))
          (λ j. commit_at book sums (sc - j))
          (λ j below. ap₂ row_commit
          (joined_behind book sums n i first reads keys amounts long long_sums room low eight few_reads few_keys same (kept_row (sc - j)) 24 (omega arith))
          (joined_sums_behind book sums n i first reads keys amounts long long_sums room low eight few_reads few_keys same (kept_amounts (sc - j)) 8 (omega arith))) k;
      values = joined_sums_before book sums n i first reads keys amounts long long_sums room low eight few_reads few_keys same 0 1024 (omega arith) k;
    }

pub joined_counter : (book : List ℕ) (sums : List ℤ) (n i : ℕ) (first reads keys : List ℕ) (amounts : List ℤ)
    → book_words ≤ length book → sums_words ≤ length sums → n < 32 → i ≤ n → length first ≡ 8 → length reads ≤ 8 → length keys ≤ 8
    → length amounts ≡ length keys → (j : ℕ) → j < 6 → get_or (joined_book book n i first reads keys) j 0 ≡ get_or book j 0
joined_counter book sums n i first reads keys amounts long long_sums room low eight few_reads few_keys same j below =
    let e : 0 + j ≡ j = omega arith in
    rw e at (sym (get_or_cut 0 6 (joined_book book n i first reads keys) j 0 below)
    ∙ (ap (λ (l : List ℕ). get_or l j 0)
    (joined_before book sums n i first reads keys amounts long long_sums room low eight few_reads few_keys same 0 6 (omega arith))
    ∙ get_or_cut 0 6 book j 0 below))
