-- 01, "A state is sound when": each condition of the list, as a test that computes.
use Rattle.std.specs.Prelude.{ℕ, ◌+◌, min, Bool, true, not, ◌&&◌, List, [], ◌∷◌, map, eqb, leb, length}
use Rattle.std.specs.List.{list_all}
use Rattle.rules.specs.Lists.{member}
use Rattle.rules.specs.Sizes.{keys, most_waiting, most_kept, most_k, most_dc}
use Rattle.rules.specs.Partitions.{bad_set, from_others}
use Rattle.rules.specs.Keys.{good_set}
use Rattle.rules.specs.Ledger.{Entry, Commit, State, keys_of, sizes_fit}

-- "sizes fit the table"
unfoldable pub fits : State → Bool
fits s =
    sizes_fit s.clock.partitions s.clock.own s.clock.k
    && leb s.clock.dc most_dc
    && leb (length s.waiting) most_waiting
    && eqb (length s.books.values) keys

-- "kept commits number the smaller of SC and 64"
unfoldable pub kept_count : State → Bool
kept_count s = eqb (length s.books.kept) (min s.books.sc most_kept)

-- "SC plus waiting is at most DC"
unfoldable pub counted : State → Bool
counted s = leb (s.books.sc + length s.waiting) s.clock.dc

-- "every stored set is within its limits and ascending"
unfoldable pub good_commit : Commit → Bool
good_commit c = good_set c.reads && good_set (keys_of c.writes)

-- "waiting identities are nonzero and different"
unfoldable pub different : List ℕ → Bool
different [] = true
different (x ∷ xs) = not (member x xs) && different xs

-- The identities of the waiting list.
abbrev pub identities : List Entry → List ℕ
identities es = map (λ e. e.transaction.identity) es

-- Of one waiting entry: its sets are good, its identity is nonzero, "each waiting partition set holds our own and none beyond the number opened;
-- stored votes come from other involved partitions; every rt is at most DC + 31".
unfoldable pub good_entry : ℕ → ℕ → ℕ → Entry → Bool
good_entry partitions own dc e =
    good_set e.transaction.reads
    && good_set (keys_of e.transaction.writes)
    && not (eqb e.transaction.identity 0)
    && not (bad_set partitions own e.transaction.partitions)
    && from_others own e.transaction.partitions e.heard.ayes
    && from_others own e.transaction.partitions e.heard.nays
    && leb e.rt (dc + most_k)

-- "A state is sound when: sizes fit the table; kept commits number the smaller of SC and 64; SC plus waiting is at most DC; every stored set is within
-- its limits and ascending; waiting identities are nonzero and different; each waiting partition set holds our own and none beyond the number opened;
-- stored votes come from other involved partitions; every rt is at most DC + 31."
unfoldable pub sound : State → Bool
sound s =
    fits s
    && kept_count s
    && counted s
    && list_all good_commit s.books.kept
    && different (identities s.waiting)
    && list_all (good_entry s.clock.partitions s.clock.own s.clock.dc) s.waiting
