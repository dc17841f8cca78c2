-- What a sound state says of rows: their counts are at most 8, their keys ascend and are below 1,024, and the keys stand in the table as parts of it.
use Rattle.std.specs.Prelude.{ℕ, zero, suc, ◌+◌, ◌-◌, ◌≤◌, ◌<◌, min, Bool, true, false, not, List, [], ◌∷◌, ◌≡◌, ℤ, length, get_or}
use Rattle.std.specs.List.{list_any, list_all}
use Rattle.std.proofs.Common.{take, drop, ap, sym, ◌∙◌, subst, arith, ltb-false, leb-false}
use Rattle.std.proofs.lemmas.Bool.{not-true, not-false}
use Rattle.rules.specs.Sizes.{keys, most_keys, most_kept}
use Rattle.rules.specs.Keys.{bad_key, too_many, bad_keys, ascending, good_set}
use Rattle.rules.specs.Ledger.{keys_of}
use Rattle.rules.specs.Soundness.{good_commit, good_entry}
use Rattle.laws.specs.Tests.{and_left, and_right, or_left, or_right}
use Rattle.laws.specs.Cuts.{cut, length_cut, part_cut, get_or_cut}
use Rattle.laws.specs.Tabs.{tab, length_tab, tab_same, tab_cut}
use Rattle.claims.specs.SoundParts.{GoodEntry, entry_facts}
use Rattle.tables.specs.Rows.{row_reads, row_keys, row_writes, row_transaction, row_entry, row_commit, row_writes_keys}
use Rattle.tables.specs.Layout.{book_words, waiting_row, kept_row}
use Rattle.tables.specs.View.{waiting_words, kept_words, entry_at, commit_at, waiting_view, kept_view}

-- A good set of keys: few, ascending, each below 1,024.
pub record GoodKeys (xs : List ℕ) : Type 0 where
  pub few : length xs ≤ most_keys
  pub ascends : ascending xs ≡ true
  pub low : (i : ℕ) → i < length xs → get_or xs i 0 < keys

any_at_index : (f : ℕ → Bool) (xs : List ℕ) (i : ℕ) → list_any f xs ≡ false → i < length xs → f (get_or xs i 0) ≡ false
any_at_index f [] i h low = absurd (omega arith)
any_at_index f (x ∷ xs) zero h low = or_left (f x) (list_any f xs) h
any_at_index f (x ∷ xs) (suc i) h low = any_at_index f xs i (or_right (f x) (list_any f xs) h) (omega arith)

pub good_keys : (xs : List ℕ) → good_set xs ≡ true → GoodKeys xs
unfolding good_set bad_keys
good_keys xs h =
    let many = not-true (too_many xs) (and_left (not (too_many xs)) (not (bad_keys xs)) h) in
    let bad = not-true (bad_keys xs) (and_right (not (too_many xs)) (not (bad_keys xs)) h) in
    record {
      few = ltb-false most_keys (length xs) many;
      ascends = not-false (ascending xs) (or_right (list_any bad_key xs) (not (ascending xs)) bad);
      low = λ i below. leb-false keys (get_or xs i 0) (any_at_index bad_key xs i (or_left (list_any bad_key xs) (not (ascending xs)) bad) below);
    }

-- A row with two good sets.
pub record GoodRow (w : List ℕ) : Type 0 where
  pub reads_good : GoodKeys (row_reads w)
  pub keys_good : GoodKeys (row_keys w)
  pub few_reads : get_or w 6 0 ≤ most_keys
  pub few_keys : get_or w 7 0 ≤ most_keys

pub length_row_reads : (w : List ℕ) → length (row_reads w) ≡ get_or w 6 0
unfolding row_reads
length_row_reads w = length_tab (get_or w 6 0) (λ j. get_or w (8 + j) 0)

pub length_row_keys : (w : List ℕ) → length (row_keys w) ≡ get_or w 7 0
unfolding row_keys
length_row_keys w = length_tab (get_or w 7 0) (λ j. get_or w (16 + j) 0)

good_row : (w : List ℕ) → good_set (row_reads w) ≡ true → good_set (row_keys w) ≡ true → GoodRow w
good_row w r k =
    let reads = good_keys (row_reads w) r in
    let written = good_keys (row_keys w) k in
    let few = reads.few in
    let few_written = written.few in
    record {
      reads_good = reads;
      keys_good = written;
      few_reads = omega (arith, length_row_reads w);
      few_keys = omega (arith, length_row_keys w);
    }

pub entry_row_good : (partitions own dc : ℕ) (w : List ℕ) (a : List ℤ) → good_entry partitions own dc (row_entry w a) ≡ true → GoodRow w
unfolding row_entry row_transaction
entry_row_good partitions own dc w a h =
    let g = entry_facts partitions own dc (row_entry w a) h in
    good_row w g.reads_good (rw (row_writes_keys w a) at g.writes_good)

pub commit_row_good : (w : List ℕ) (a : List ℤ) → good_commit (row_commit w a) ≡ true → GoodRow w
unfolding good_commit row_commit
commit_row_good w a h =
    good_row w (and_left (good_set (row_reads w)) (good_set (keys_of (row_writes w a))) h)
    (rw (row_writes_keys w a) at (and_right (good_set (row_reads w)) (good_set (keys_of (row_writes w a))) h))

-- Every waiting row, and every kept row of the newest 64 versions.
abbrev pub WaitingGood : ℕ → List ℕ → Type 0
WaitingGood n book = (i : ℕ) → i < n → GoodRow (waiting_words book i)

abbrev pub KeptGood : ℕ → List ℕ → Type 0
KeptGood sc book = (v : ℕ) → 1 ≤ v → v ≤ sc → sc < v + 64 → GoodRow (kept_words book v)

all_tab_at : {A : Type 0} (f : A → Bool) (n : ℕ) (g : ℕ → A) → list_all f (tab n g) ≡ true → (i : ℕ) → i < n → f (g i) ≡ true
unfolding tab
all_tab_at f zero g h i low = absurd (omega arith)
all_tab_at f (suc n) g h zero low = and_left (f (g 0)) (list_all f (tab n (λ j. g (suc j)))) h
all_tab_at f (suc n) g h (suc i) low = all_tab_at f n (λ j. g (suc j)) (and_right (f (g 0)) (list_all f (tab n (λ j. g (suc j)))) h) i (omega arith)

pub waiting_entry_good : (partitions own dc n : ℕ) (book : List ℕ) (sums : List ℤ)
    → list_all (good_entry partitions own dc) (waiting_view n book sums) ≡ true → (i : ℕ) → i < n → GoodEntry partitions own dc (entry_at book sums i)
unfolding waiting_view
waiting_entry_good partitions own dc n book sums h i low =
    entry_facts partitions own dc (entry_at book sums i) (all_tab_at (good_entry partitions own dc) n (entry_at book sums) h i low)

pub waiting_good : (partitions own dc n : ℕ) (book : List ℕ) (sums : List ℤ)
    → list_all (good_entry partitions own dc) (waiting_view n book sums) ≡ true → WaitingGood n book
unfolding waiting_view entry_at
waiting_good partitions own dc n book sums h i low =
    entry_row_good partitions own dc (waiting_words book i) _ (all_tab_at (good_entry partitions own dc) n (entry_at book sums) h i low)

pub kept_good : (sc : ℕ) (book : List ℕ) (sums : List ℤ) → list_all good_commit (kept_view sc book sums) ≡ true → KeptGood sc book
unfolding kept_view commit_at
kept_good sc book sums h v some low near =
    let e : sc - (sc - v) ≡ v = omega arith in
    subst (λ (x : ℕ). GoodRow (kept_words book x)) e
    (commit_row_good (kept_words book (sc - (sc - v))) _
    (all_tab_at good_commit (min sc most_kept) (λ j. commit_at book sums (sc - j)) h (sc - v) (omega arith)))

regroup : (o a j : ℕ) → o + (a + j) ≡ o + a + j
regroup o a j = omega arith

-- The keys of a good row are parts of the table.
pub reads_part : (book : List ℕ) (o : ℕ) → o + 24 ≤ length book → get_or (cut o 24 book) 6 0 ≤ most_keys
    → row_reads (cut o 24 book) ≡ cut (o + 8) (get_or (cut o 24 book) 6 0) book
unfolding row_reads
reads_part book o fits few =
    tab_same (get_or (cut o 24 book) 6 0) (λ j. get_or (cut o 24 book) (8 + j) 0) (λ j. get_or book (o + 8 + j) 0)
    (λ j low. get_or_cut o 24 book (8 + j) 0 (omega arith) ∙ ap (λ (k : ℕ). get_or book k 0) (regroup o 8 j))
    ∙ tab_cut (o + 8) (get_or (cut o 24 book) 6 0) book 0 (omega arith)

pub keys_part : (book : List ℕ) (o : ℕ) → o + 24 ≤ length book → get_or (cut o 24 book) 7 0 ≤ most_keys
    → row_keys (cut o 24 book) ≡ cut (o + 16) (get_or (cut o 24 book) 7 0) book
unfolding row_keys
keys_part book o fits few =
    tab_same (get_or (cut o 24 book) 7 0) (λ j. get_or (cut o 24 book) (16 + j) 0) (λ j. get_or book (o + 16 + j) 0)
    (λ j low. get_or_cut o 24 book (16 + j) 0 (omega arith) ∙ ap (λ (k : ℕ). get_or book k 0) (regroup o 16 j))
    ∙ tab_cut (o + 16) (get_or (cut o 24 book) 7 0) book 0 (omega arith)

-- So they are parts of the row itself.
module _ (w : List ℕ) (whole : length w ≡ 24) (good : GoodRow w) where
  pub reads_of_row : row_reads w ≡ cut 8 (get_or w 6 0) w
  unfolding row_reads
  reads_of_row = let few = good.few_reads in tab_cut 8 (get_or w 6 0) w 0 (omega arith)

  pub keys_of_row : row_keys w ≡ cut 16 (get_or w 7 0) w
  unfolding row_keys
  keys_of_row = let few = good.few_keys in tab_cut 16 (get_or w 7 0) w 0 (omega arith)

  pub reads_taken : take (8 + get_or w 6 0 - 8) (drop 8 w) ≡ row_reads w
  reads_taken = part_cut 8 (get_or w 6 0) w ∙ sym reads_of_row

  pub keys_taken : take (16 + get_or w 7 0 - 16) (drop 16 w) ≡ row_keys w
  keys_taken = part_cut 16 (get_or w 7 0) w ∙ sym keys_of_row

  pub reads_of_row_ascend : ascending (take (8 + get_or w 6 0 - 8) (drop 8 w)) ≡ true
  reads_of_row_ascend = ap ascending reads_taken ∙ good.reads_good.ascends

  pub keys_of_row_ascend : ascending (take (16 + get_or w 7 0 - 16) (drop 16 w)) ≡ true
  keys_of_row_ascend = ap ascending keys_taken ∙ good.keys_good.ascends

-- A row in a long enough table is whole.
module _ (book : List ℕ) (long : book_words ≤ length book) where
  pub waiting_whole : (i : ℕ) → i < 32 → length (waiting_words book i) ≡ 24
  unfolding waiting_words
  waiting_whole i low = length_cut (waiting_row i) 24 book (omega arith)

  pub kept_whole : (v : ℕ) → length (kept_words book v) ≡ 24
  unfolding kept_words
  kept_whole v = length_cut (kept_row v) 24 book (omega arith)
