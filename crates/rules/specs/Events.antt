-- 01, "What an event does": the events with their answers, where none is refused.
use Rattle.std.specs.Prelude.{ℕ, cond, List, [], map, eqb, ℤ}
use Rattle.std.proofs.Math.Option.{Option}
use Rattle.rules.specs.Partitions.{Ballot, Heard, none_heard, hear}
use Rattle.rules.specs.Ledger.{Transaction, Entry, Clock, Books, State, is_local}
use Rattle.rules.specs.Delivery.{Fate, abort, join, ticked, entered, fate, joined, vote_to_send}
use Rattle.rules.specs.Closing.{Finish, close}
use Rattle.rules.specs.Read.{read_at}

-- "Read of a key at st", or at SC itself.
pub data Snapshot : Type 0 where
  at : ℕ → Snapshot
  newest : Snapshot

-- "D identity, partition set, st, reads, writes as key=value; V identity, partition, Y or N; K k; R key, st (`-` means SC).": delivery, vote, change, read
pub data Event : Type 0 where
  delivery : Transaction → Event
  vote : ℕ → ℕ → Ballot → Event
  change : ℕ → Event
  read : ℕ → Snapshot → Event

-- An event's own answer.
pub data Answer : Type 0 where
  refused : ℕ → Answer
  waits : ℕ → ℕ → Option Ballot → Answer
  aborted : ℕ → ℕ → Option Ballot → Answer
  voted : Answer
  changed : Answer
  value : ℕ → ℤ → Answer

-- What an event gives: its answer, what finished, and the next state.
pub record Step : Type 0 where
  pub answer : Answer
  pub finishes : List Finish
  pub next : State

-- "After every accepted delivery, vote or change", closing.
unfoldable pub closing : Answer → Clock → List Entry → Books → Step
closing a c waiting b =
    record {
      answer = a;
      finishes = (close c waiting b).finishes;
      next = record { clock = c; waiting = (close c waiting b).waiting; books = (close c waiting b).books };
    }

-- "The place is the one before closing."
unfoldable pub delivered : Clock → Option Ballot → Fate → Answer
delivered c send (abort reason) = aborted c.dc reason send
delivered c send (join i) = waits c.dc i send

-- "An aborted delivery still counts in DC.": what a delivery gives for each fate, with the votes in hand, is all at the risen clock.
-- "For a global one, the answer also tells the host which vote to send."
unfoldable pub deliver_at : Clock → Fate → Heard → Transaction → List Entry → Books → Step
deliver_at c f h t waiting b =
    closing (delivered c (vote_to_send (is_local c.own t) f) f) c (joined f (entered c t h) waiting) b

-- "Delivery. DC rises by 1.": tested and placed at the risen clock, with the votes in hand.
unfoldable pub deliver_with : Heard → Transaction → State → Step
deliver_with h t s =
    deliver_at (ticked s.clock) (fate (ticked s.clock) t s.waiting s.books) h t s.waiting s.books

-- "It is stored.": in the entry of that identity; every other entry stays as it is.
unfoldable pub with_vote : ℕ → ℕ → Ballot → Entry → Entry
with_vote i p b e =
    record {
      transaction = e.transaction;
      rt = e.rt;
      heard = cond (eqb e.transaction.identity i) (hear p b e.heard) e.heard;
    }

-- "Vote. Yes or no, from another partition of a waiting global transaction. It is stored."
unfoldable pub take_vote : ℕ → ℕ → Ballot → State → Step
take_vote i p b s = closing voted s.clock (map (with_vote i p b) s.waiting) s.books

-- "The new k"
unfoldable pub with_k : ℕ → Clock → Clock
with_k k c = record { partitions = c.partitions; own = c.own; dc = c.dc; k = k }

-- "Threshold change. The new k holds for later deliveries only.": every rt of the waiting list stays.
unfoldable pub take_change : ℕ → State → Step
take_change k s = closing changed (with_k k s.clock) s.waiting s.books

-- "st (`-` means SC)"
unfoldable pub snapshot : Snapshot → State → ℕ
snapshot (at st) s = st
snapshot newest s = s.books.sc

-- "Read of a key at st: the value of the newest version that is at most st. It changes nothing."
unfoldable pub take_read : ℕ → Snapshot → State → Step
take_read key st s =
    record { answer = value (snapshot st s) (read_at key (snapshot st s) s.books); finishes = []; next = s }

-- "What an event does", where it isn't refused; a delivery has no votes in hand.
unfoldable pub accepted : Event → State → Step
accepted (delivery t) s = deliver_with none_heard t s
accepted (vote i p b) s = take_vote i p b s
accepted (change k) s = take_change k s
accepted (read key st) s = take_read key st s
