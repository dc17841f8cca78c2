-- 01, "The ledger's sizes": each number of the table, under a name.
use Rattle.std.specs.Prelude.{ℕ, ◌-◌}

-- "Partitions | 1 to 8, numbered from 0"
abbrev pub most_partitions : ℕ
most_partitions = 8

-- "Keys | 0 to 1,023"
abbrev pub keys : ℕ
keys = 1024

-- "Keys read, keys written | 0 to 8 each"
abbrev pub most_keys : ℕ
most_keys = 8

-- "Waiting list | up to 32"
abbrev pub most_waiting : ℕ
most_waiting = 32

-- "Threshold k | 0 to 31"
abbrev pub most_k : ℕ
most_k = 31

-- "Kept commits | the newest 64"
abbrev pub most_kept : ℕ
most_kept = 64

-- "DC | up to 4,000,000,000"
abbrev pub most_dc : ℕ
most_dc = 4_000_000_000

-- "floor = SC - 64, or 0 if SC is smaller": subtraction of natural numbers stops at 0.
abbrev pub floor : ℕ → ℕ
floor sc = sc - most_kept
