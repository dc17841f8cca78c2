-- The state that the two tables hold.
use Rattle.std.specs.Prelude.{ℕ, ◌-◌, min, List, [], ◌≡◌, refl, ℤ, length, get_or}
use Rattle.rules.specs.Sizes.{keys, most_kept}
use Rattle.rules.specs.Ledger.{Entry, Commit, Clock, Books, State}
use Rattle.laws.specs.Cuts.{cut}
use Rattle.laws.specs.Tabs.{tab, length_tab}
use Rattle.tables.specs.Layout.{waiting_row, waiting_amounts, kept_row, kept_amounts, partitions_at, own_at, sc_at, dc_at, k_at, waiting_at}
use Rattle.tables.specs.Rows.{row_entry, row_commit}

-- The words and amounts of waiting row i; of the row that keeps a version.
unfoldable pub waiting_words : List ℕ → ℕ → List ℕ
waiting_words book i = cut (waiting_row i) 24 book

unfoldable pub kept_words : List ℕ → ℕ → List ℕ
kept_words book v = cut (kept_row v) 24 book

unfoldable pub entry_at : List ℕ → List ℤ → ℕ → Entry
entry_at book sums i = row_entry (waiting_words book i) (cut (waiting_amounts i) 8 sums)

unfoldable pub commit_at : List ℕ → List ℤ → ℕ → Commit
commit_at book sums v = row_commit (kept_words book v) (cut (kept_amounts v) 8 sums)

-- The waiting list, of so many; the kept commits at SC, the newest first; the values at the floor.
unfoldable pub waiting_view : ℕ → List ℕ → List ℤ → List Entry
waiting_view n book sums = tab n (entry_at book sums)

pub waiting_none : (book : List ℕ) (sums : List ℤ) → waiting_view 0 book sums ≡ []
unfolding waiting_view tab
waiting_none book sums = refl

pub length_waiting : (n : ℕ) (book : List ℕ) (sums : List ℤ) → length (waiting_view n book sums) ≡ n
unfolding waiting_view
length_waiting n book sums = length_tab n (entry_at book sums)

unfoldable pub kept_view : ℕ → List ℕ → List ℤ → List Commit
kept_view sc book sums = tab (min sc most_kept) (λ j. commit_at book sums (sc - j))

unfoldable pub values_view : List ℤ → List ℤ
values_view sums = cut 0 keys sums

unfoldable pub books_view : ℕ → List ℕ → List ℤ → Books
books_view sc book sums = record { sc = sc; kept = kept_view sc book sums; values = values_view sums }

unfoldable pub clock_view : List ℕ → Clock
clock_view book = record { partitions = get_or book partitions_at 0; own = get_or book own_at 0; dc = get_or book dc_at 0; k = get_or book k_at 0 }

unfoldable pub view : List ℕ → List ℤ → State
view book sums =
    record {
      clock = clock_view book;
      waiting = waiting_view (get_or book waiting_at 0) book sums;
      books = books_view (get_or book sc_at 0) book sums;
    }
