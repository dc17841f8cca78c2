-- A row of 24 words with its 8 amounts, and what it says. Waiting entries and kept commits have one form: identity, partition set, st, rt, who said
-- yes, who said no, how many keys were read, how many written; 8 keys read; 8 keys written. Of a kept row the words 1 to 5 are never looked at.
use Rattle.std.specs.Prelude.{ℕ, ◌+◌, List, ◌≡◌, ℤ, pos, get_or}
use Rattle.rules.specs.Ledger.{Write, Transaction, Entry, Commit, keys_of}
use Rattle.laws.specs.Tabs.{tab, map_tab}

-- The keys of a row are the first `count` of them, also where the stored count is too large: such a row is seen, and unsound.
unfoldable pub row_reads : List ℕ → List ℕ
row_reads w = tab (get_or w 6 0) (λ j. get_or w (8 + j) 0)

unfoldable pub row_keys : List ℕ → List ℕ
row_keys w = tab (get_or w 7 0) (λ j. get_or w (16 + j) 0)

unfoldable pub row_writes : List ℕ → List ℤ → List Write
row_writes w a = tab (get_or w 7 0) (λ j. record { key = get_or w (16 + j) 0; value = get_or a j (pos 0) })

unfoldable pub row_transaction : List ℕ → List ℤ → Transaction
row_transaction w a =
    record { identity = get_or w 0 0; partitions = get_or w 1 0; st = get_or w 2 0; reads = row_reads w; writes = row_writes w a }

unfoldable pub row_entry : List ℕ → List ℤ → Entry
row_entry w a =
    record { transaction = row_transaction w a; rt = get_or w 3 0; heard = record { ayes = get_or w 4 0; nays = get_or w 5 0 } }

unfoldable pub row_commit : List ℕ → List ℤ → Commit
row_commit w a = record { identity = get_or w 0 0; reads = row_reads w; writes = row_writes w a }

pub row_writes_keys : (w : List ℕ) (a : List ℤ) → keys_of (row_writes w a) ≡ row_keys w
unfolding row_writes row_keys
row_writes_keys w a = map_tab (λ (x : Write). x.key) (get_or w 7 0) (λ j. record { key = get_or w (16 + j) 0; value = get_or a j (pos 0) })
