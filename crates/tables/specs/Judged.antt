-- What becomes of a newcomer, on rows: the rules' fate of the state that the tables hold.
use Rattle.std.specs.Prelude.{ℕ, ◌+◌, ◌-◌, ◌≤◌, not, cond, List, ◌≡◌, eqb, ℤ, pos, length, get_or}
use Rattle.std.specs.List.{list_any}
use Rattle.std.proofs.Common.{◌∙◌, arith}
use Rattle.rules.specs.Sizes.{most_kept}
use Rattle.rules.specs.Partitions.{only}
use Rattle.rules.specs.Ledger.{Write, Transaction, Clock, keys_of, is_local}
use Rattle.rules.specs.Place.{place}
use Rattle.rules.specs.Delivery.{Fate, abort, join, placed, fate}
use Rattle.laws.specs.Tabs.{tab, map_tab, tab_list}
use Rattle.tables.specs.View.{waiting_words, kept_words, waiting_view, length_waiting, books_view}
use Rattle.tables.specs.NewRow.{writes_of}
use Rattle.tables.specs.Tested.{row_clash, row_blocks, row_passes, waiting_clash, commits_clash, waiting_place}

-- A transaction as it is lent: numbers, and three lists.
unfoldable pub lent : ℕ → ℕ → ℕ → List ℕ → List ℕ → List ℤ → Transaction
lent identity set st reads keys amounts =
    record { identity = identity; partitions = set; st = st; reads = reads; writes = writes_of keys amounts }

pub lent_keys : (keys : List ℕ) (amounts : List ℤ) → keys_of (writes_of keys amounts) ≡ keys
unfolding writes_of
lent_keys keys amounts =
    map_tab (λ (w : Write). w.key) (length keys) (λ j. record { key = get_or keys j 0; value = get_or amounts j (pos 0) }) ∙ tab_list keys 0

-- The three numbered rules on rows, at the risen DC.
unfoldable pub row_fate : ℕ → ℕ → ℕ → ℕ → ℕ → ℕ → List ℕ → List ℕ → List ℕ → Fate
row_fate own dc sc n set st reads keys book =
    cond (list_any (row_clash (not (eqb set (only own))) reads keys) (tab (sc - st) (λ j. kept_words book (sc - j)))) (abort 1)
    (cond (eqb set (only own)) (placed (place (row_blocks reads) (row_passes own dc keys) (tab n (waiting_words book))))
    (cond (list_any (row_clash (not (eqb set (only own))) reads keys) (tab n (waiting_words book))) (abort 2) (join n)))

pub fate_row : (c : Clock) (sc n identity set st : ℕ) (reads keys : List ℕ) (amounts : List ℤ) (book : List ℕ) (sums : List ℤ)
    → st ≤ sc → sc ≤ st + most_kept
    → fate c (lent identity set st reads keys amounts) (waiting_view n book sums) (books_view sc book sums)
    ≡ row_fate c.own c.dc sc n set st reads keys book
unfolding fate row_fate lent is_local
fate_row c sc n identity set st reads keys amounts book sums taken kept =
    let t = lent identity set st reads keys amounts in
    rw (
      commits_clash t book sums c.own sc taken (omega arith),
      waiting_clash t book sums c.own n,
      waiting_place t book sums c n,
      lent_keys keys amounts,
      length_waiting n book sums,
    )
