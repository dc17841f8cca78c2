-- Where things stand in the lent tables. `book` holds the six counters, then 32 waiting rows, then 64 kept rows; `sums` holds the values at the
-- floor, then 8 amounts for each waiting row, then 8 for each kept row.
use Rattle.std.specs.Prelude.{ℕ, ◌+◌, ◌*◌, ◌%◌}

-- The lengths: just what 01's sizes need.
abbrev pub book_words : ℕ
book_words = 2310

abbrev pub sums_words : ℕ
sums_words = 1792

-- The counters.
abbrev pub partitions_at : ℕ
partitions_at = 0

abbrev pub own_at : ℕ
own_at = 1

abbrev pub sc_at : ℕ
sc_at = 2

abbrev pub dc_at : ℕ
dc_at = 3

abbrev pub k_at : ℕ
k_at = 4

abbrev pub waiting_at : ℕ
waiting_at = 5

-- Row i of the waiting list; the row of a version among the kept.
abbrev pub waiting_row : ℕ → ℕ
waiting_row i = 6 + 24 * i

abbrev pub kept_row : ℕ → ℕ
kept_row v = 774 + 24 * (v % 64)

-- Their amounts.
abbrev pub waiting_amounts : ℕ → ℕ
waiting_amounts i = 1024 + 8 * i

abbrev pub kept_amounts : ℕ → ℕ
kept_amounts v = 1280 + 8 * (v % 64)
