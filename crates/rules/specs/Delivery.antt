-- 01, "What an event does": Delivery. What becomes of a newcomer, before the closing that follows.
use Rattle.std.specs.Prelude.{ℕ, ◌+◌, ◌-◌, Bool, true, false, not, cond, ◌&&◌, ◌||◌, List, leb, length, take, insert}
use Rattle.std.specs.List.{list_any}
use Rattle.std.proofs.Math.Option.{Option, none, some}
use Rattle.rules.specs.Partitions.{Ballot, aye, nay, Heard}
use Rattle.rules.specs.Keys.{meet}
use Rattle.rules.specs.Ledger.{Transaction, Entry, Commit, Clock, Books, keys_of, is_local}
use Rattle.rules.specs.Place.{place}

-- "DC rises by 1."
unfoldable pub ticked : Clock → Clock
ticked c = record { partitions = c.partitions; own = c.own; dc = c.dc + 1; k = c.k }

-- "The transaction gets rt = DC + k, with the k then in force.", of the risen clock. Votes in hand come with it: none in the base.
unfoldable pub entered : Clock → Transaction → Heard → Entry
entered c t h = record { transaction = t; rt = c.dc + c.k; heard = h }

-- "each commit of version st+1 to SC": the kept commits stand newest first, so they are the first SC - st.
unfoldable pub commits_after : ℕ → Books → List Commit
commits_after st b = take (b.sc - st) b.kept

-- "Clash: it read a key that the commit wrote; for a global one also, it writes a key that the commit read."
unfoldable pub clash : ℕ → Transaction → List ℕ → List ℕ → Bool
clash own t read written = meet t.reads written || (not (is_local own t) && meet (keys_of t.writes) read)

-- "It is tested against each commit"
unfoldable pub clash_commit : ℕ → Transaction → Commit → Bool
clash_commit own t c = clash own t c.reads (keys_of c.writes)

-- "tested in the same two ways against every waiting entry"
unfoldable pub clash_entry : ℕ → Transaction → Entry → Bool
clash_entry own t e = clash own t e.transaction.reads (keys_of e.transaction.writes)

-- "no entry before i writes a key it reads": such an entry may not stand before it.
unfoldable pub blocks : Transaction → Entry → Bool
blocks t e = meet t.reads (keys_of e.transaction.writes)

-- "every entry from i on is global, has DC <= rt, and has read no key that it writes": such an entry may be passed.
-- "Source line 60 also forbids passing an entry that writes a key the newcomer read. We leave it out: inside one partition the books come out the same."
unfoldable pub passes : Clock → Transaction → Entry → Bool
passes c t e =
    not (is_local c.own e.transaction) && leb c.dc e.rt && not (meet e.transaction.reads (keys_of t.writes))

-- What becomes of a newcomer: aborted for a reason, or joining at a place.
pub data Fate : Type 0 where
  abort : ℕ → Fate
  join : ℕ → Fate

-- "If none exists: aborted, reason 3."
unfoldable pub placed : Option ℕ → Fate
placed none = abort 3
placed (some i) = join i

-- The three numbered rules, at the risen clock. The first is for all: "Any clash: aborted, reason 1." Then a local one gets its place or reason 3,
-- and of a global one: "Any clash: aborted, reason 2. Else it joins at the end."
unfoldable pub fate : Clock → Transaction → List Entry → Books → Fate
fate c t waiting b =
    cond (list_any (clash_commit c.own t) (commits_after t.st b)) (abort 1)
    (cond (is_local c.own t) (placed (place (blocks t) (passes c t) waiting))
    (cond (list_any (clash_entry c.own t) waiting) (abort 2) (join (length waiting))))

-- The waiting list after it.
unfoldable pub joined : Fate → Entry → List Entry → List Entry
joined (abort reason) e waiting = waiting
joined (join i) e waiting = insert waiting i e

-- "For a global one, the answer also tells the host which vote to send."
unfoldable pub vote_to_send : Bool → Fate → Option Ballot
vote_to_send true f = none
vote_to_send false (abort reason) = some nay
vote_to_send false (join i) = some aye
