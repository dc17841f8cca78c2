-- What the steps of joining leave: rows moved up by one and a row laid into the gap have joined, and one more has voted.
use Rattle.std.specs.Prelude.{ℕ, suc, ◌+◌, ◌*◌, ◌-◌, Bool, true, false, List, ◌≡◌, ℤ, get_or, set}
use Rattle.std.proofs.Common.{ap, ◌∙◌, arith}
use Rattle.rules.specs.Partitions.{with_partition}
use Rattle.laws.specs.Cuts.{cut, put}
use Rattle.tables.specs.Layout.{waiting_row, waiting_amounts}
use Rattle.tables.specs.NewRow.{with_row}
use Rattle.tables.specs.Joined.{gap_book, gap_sums, joined_book, joined_sums}
use Rattle.tables.specs.Voted.{voted_book}

-- Rows and amounts moved up by one row leave the gap, and the newcomer laid into it has joined.
pub row_joined : {gap out : List ℕ} (book : List ℕ) (n i : ℕ) (first reads keys : List ℕ)
    → gap ≡ put book (waiting_row i + 24) (cut (waiting_row i) (24 * (n - i)) book)
    → out ≡ with_row gap (waiting_row i) first reads keys → out ≡ joined_book book n i first reads keys
unfolding gap_book joined_book
row_joined book n i first reads keys opened laid =
    let next : waiting_row i + 24 ≡ waiting_row (suc i) = omega arith in
    let gap_opened = opened ∙ ap (λ (k : ℕ). put book k (cut (waiting_row i) (24 * (n - i)) book)) next in
    laid ∙ ap (λ (gap : List ℕ). with_row gap (waiting_row i) first reads keys) gap_opened

pub sums_joined : {gap out : List ℤ} (sums : List ℤ) (n i : ℕ) (amounts : List ℤ)
    → gap ≡ put sums (waiting_amounts i + 8) (cut (waiting_amounts i) (8 * (n - i)) sums)
    → out ≡ put gap (waiting_amounts i) amounts → out ≡ joined_sums sums n i amounts
unfolding gap_sums joined_sums
sums_joined sums n i amounts opened laid =
    let next : waiting_amounts i + 8 ≡ waiting_amounts (suc i) = omega arith in
    let gap_opened = opened ∙ ap (λ (k : ℕ). put sums k (cut (waiting_amounts i) (8 * (n - i)) sums)) next in
    laid ∙ ap (λ (gap : List ℤ). put gap (waiting_amounts i) amounts) gap_opened

-- One more who said yes; one more who said no.
pub aye_stored : {out : List ℕ} (book : List ℕ) (i p : ℕ) (agrees : Bool) → agrees ≡ true
    → out ≡ set book (waiting_row i + 4) (with_partition p (get_or book (waiting_row i + 4) 0)) → out ≡ voted_book book i p agrees
unfolding voted_book
aye_stored book i p agrees said stored = rw said stored

pub nay_stored : {out : List ℕ} (book : List ℕ) (i p : ℕ) (agrees : Bool) → agrees ≡ false
    → out ≡ set book (waiting_row i + 5) (with_partition p (get_or book (waiting_row i + 5) 0)) → out ≡ voted_book book i p agrees
unfolding voted_book
nay_stored book i p agrees said stored = rw said stored
