-- Sets of partitions as numbers, one bit each, and the votes that an entry has heard.
use Rattle.std.specs.Prelude.{ℕ, zero, suc, ◌+◌, ◌*◌, ◌^◌, ◌/◌, ◌%◌, Bool, true, false, not, cond, ◌&&◌, ◌||◌, List, [], ◌∷◌, eqb, leb}
use Rattle.std.specs.List.{list_any, list_all}
use Rattle.rules.specs.Sizes.{most_partitions}

-- "a set of partitions (one bit each)": partition p is in the set when its bit is 1.
unfoldable pub names : ℕ → ℕ → Bool
names set zero = eqb (set % 2) 1
names set (suc p) = names (set / 2) p

-- The set with partition p in it too.
unfoldable pub with_partition : ℕ → ℕ → ℕ
with_partition zero set = set / 2 * 2 + 1
with_partition (suc p) set = with_partition p (set / 2) * 2 + set % 2

-- The set that holds partition p alone.
abbrev pub only : ℕ → ℕ
only p = 2 ^ p

-- "names one beyond the number opened": some bit stands at the number opened or above it.
abbrev pub beyond : ℕ → ℕ → Bool
beyond opened set = leb (2 ^ opened) set

-- "partition set lacks our own, or names one beyond the number opened"
unfoldable pub bad_set : ℕ → ℕ → ℕ → Bool
bad_set opened own set = not (names set own) || beyond opened set

-- "Partitions | 1 to 8, numbered from 0"
abbrev pub every_partition : List ℕ
every_partition = 0 ∷ 1 ∷ 2 ∷ 3 ∷ 4 ∷ 5 ∷ 6 ∷ 7 ∷ []

-- One of "the involved partitions, less our own".
unfoldable pub other : ℕ → ℕ → ℕ → Bool
other own set p = names set p && not (eqb p own)

-- "Yes or no"
pub data Ballot : Type 0 where
  aye nay : Ballot

abbrev pub is_aye : Ballot → Bool
is_aye aye = true
is_aye nay = false

-- The votes heard: who said yes, and who said no.
pub record Heard : Type 0 where
  pub ayes : ℕ
  pub nays : ℕ

abbrev pub none_heard : Heard
none_heard = record { ayes = 0; nays = 0 }

-- "It is stored."
unfoldable pub hear : ℕ → Ballot → Heard → Heard
hear p b h =
    record {
      ayes = cond (is_aye b) (with_partition p h.ayes) h.ayes;
      nays = cond (is_aye b) h.nays (with_partition p h.nays);
    }

-- "that partition has voted on it"
unfoldable pub heard_from : Heard → ℕ → Bool
heard_from h p = names h.ayes p || names h.nays p

-- "The votes outstanding are the involved partitions, less our own and less those heard."
unfoldable pub outstanding : ℕ → ℕ → Heard → ℕ → Bool
outstanding own set h p = other own set p && not (heard_from h p)

-- "no vote is outstanding" where this is false
unfoldable pub any_outstanding : ℕ → ℕ → Heard → Bool
any_outstanding own set h = list_any (outstanding own set h) every_partition

-- "if every vote was yes": none of the votes that it waited for was no.
unfoldable pub every_vote_yes : ℕ → ℕ → Heard → Bool
every_vote_yes own set h = list_all (λ p. not (other own set p && names h.nays p)) every_partition

-- "stored votes come from other involved partitions", of one of the two sets.
unfoldable pub from_others : ℕ → ℕ → ℕ → Bool
from_others own set voters = not (beyond most_partitions voters) && list_all (λ p. not (names voters p) || other own set p) every_partition
