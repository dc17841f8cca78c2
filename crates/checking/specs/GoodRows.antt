-- One row as the check sees it: its two sets of keys as parts of the row, and the test of a waiting entry on its words. Amounts never matter to soundness.
use Rattle.std.specs.Prelude.{ℕ, ◌+◌, ◌-◌, ◌^◌, ◌≤◌, ◌<◌, Bool, false, not, ◌&&◌, List, [], ◌≡◌, eqb, leb, ltb, ℤ, length, take, drop, get_or}
use Rattle.std.proofs.Common.{sym, ap₂, ◌∙◌, arith, pow_mono, ltb-false, le-ltb, leb-false}
use Rattle.rules.specs.Sizes.{most_keys, most_k}
use Rattle.rules.specs.Partitions.{names, bad_set, from_others}
use Rattle.rules.specs.Keys.{bad_keys, good_set}
use Rattle.rules.specs.Soundness.{good_commit, good_entry}
use Rattle.laws.specs.Tests.{split, or_right}
use Rattle.laws.specs.Cuts.{cut, part_cut}
use Rattle.laws.specs.Tabs.{tab_cut}
use Rattle.tables.specs.Rows.{row_reads, row_keys, row_transaction, row_entry, row_commit, row_writes_keys}
use Rattle.tables.specs.Good.{length_row_reads, length_row_keys}

-- So many keys that stand in a row from a place on: few enough, and then as they stand there.
unfoldable pub part_good : ℕ → List ℕ → Bool
part_good n xs = not (ltb most_keys n) && not (bad_keys xs)

pub few_keys : (n at : ℕ) (w : List ℕ) (bad : Bool) → n ≤ most_keys → bad ≡ bad_keys (take (at + n - at) (drop at w)) → not bad ≡ part_good n (cut at n w)
unfolding part_good
few_keys n at w bad few e = rw (e, le-ltb most_keys n few, part_cut at n w)

-- The two sets of a row, within their limits and ascending.
unfoldable pub sets_good : List ℕ → Bool
sets_good w = good_set (row_reads w) && good_set (row_keys w)

-- A set of a row is good exactly if the part of the row that holds it is.
set_part : (xs ys : List ℕ) (n : ℕ) → length xs ≡ n → (n ≤ most_keys → xs ≡ ys) → good_set xs ≡ part_good n ys
unfolding good_set part_good
set_part xs ys n long same =
    split (ltb most_keys n) (λ q. rw (long, q)) (λ q. rw (long, q, same (ltb-false most_keys n q)))

-- The part whose number of keys stands in one word of a row, and whose keys stand from another on.
abbrev pub part_of : List ℕ → ℕ → ℕ → Bool
part_of w count from = part_good (get_or w count 0) (cut from (get_or w count 0) w)

module _ (w : List ℕ) (whole : length w ≡ 24) where
  reads_good : good_set (row_reads w) ≡ part_of w 6 8
  unfolding row_reads
  reads_good = set_part (row_reads w) (cut 8 (get_or w 6 0) w) (get_or w 6 0) (length_row_reads w) (λ few. tab_cut 8 (get_or w 6 0) w 0 (omega arith))

  written_good : good_set (row_keys w) ≡ part_of w 7 16
  unfolding row_keys
  written_good = set_part (row_keys w) (cut 16 (get_or w 7 0) w) (get_or w 7 0) (length_row_keys w) (λ few. tab_cut 16 (get_or w 7 0) w 0 (omega arith))

  pub sets_parts : sets_good w ≡ (part_of w 6 8 && part_of w 7 16)
  unfolding sets_good
  sets_parts = ap₂ ◌&&◌ reads_good written_good

-- The test of a kept commit, and of a waiting entry, on its row.
pub commit_row : (w : List ℕ) (a : List ℤ) → good_commit (row_commit w a) ≡ sets_good w
unfolding good_commit row_commit sets_good
commit_row w a = rw (row_writes_keys w a)

unfoldable pub row_good : ℕ → ℕ → ℕ → List ℕ → Bool
row_good partitions own dc w = good_entry partitions own dc (row_entry w [])

pub entry_row : (partitions own dc : ℕ) (w : List ℕ) (a : List ℤ) → good_entry partitions own dc (row_entry w a) ≡ row_good partitions own dc w
unfolding good_entry row_entry row_transaction row_good
entry_row partitions own dc w a = rw (row_writes_keys w a, row_writes_keys w [])

-- The same, test by test, on the words of the row.
pub row_tests : (partitions own dc : ℕ) (w : List ℕ)
    → row_good partitions own dc w
    ≡ (sets_good w
    && not (eqb (get_or w 0 0) 0)
    && not (bad_set partitions own (get_or w 1 0))
    && from_others own (get_or w 1 0) (get_or w 4 0)
    && from_others own (get_or w 1 0) (get_or w 5 0)
    && leb (get_or w 3 0) (dc + most_k))
unfolding good_entry row_entry row_transaction row_good sets_good
row_tests partitions own dc w = rw (row_writes_keys w [])

-- A set that isn't bad is a byte.
pub set_byte : (partitions own set : ℕ) {answer : Bool} → partitions ≤ 8 → answer ≡ bad_set partitions own set → answer ≡ false → set < 256
unfolding bad_set
set_byte partitions own set few e good =
    let low : set < 2 ^ partitions = leb-false (2 ^ partitions) set (or_right (not (names set own)) (leb (2 ^ partitions) set) (sym e ∙ good)) in
    let most : 2 ^ partitions ≤ 2 ^ 8 = pow_mono few in
    omega arith
