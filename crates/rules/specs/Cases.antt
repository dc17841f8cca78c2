-- A case: a log, then one event, and what must be seen of it. A table of cases is closed by computing both sides.
use Rattle.std.specs.Prelude.{ℕ, zero, suc, List, [], ◌∷◌, ◌++◌, map, ℤ, pos}
use Rattle.rules.specs.Partitions.{names, with_partition, other, hear, heard_from, outstanding, any_outstanding, every_vote_yes, bad_set}
use Rattle.rules.specs.Keys.{above, ascending, bad_keys, shared, meet}
use Rattle.rules.specs.Ledger.{Write, is_local, opening}
use Rattle.rules.specs.Place.{place}
use Rattle.rules.specs.Delivery.{ticked, entered, commits_after, clash, clash_commit, clash_entry, blocks, passes, placed, fate, joined, vote_to_send}
use Rattle.rules.specs.Closing.{ready, commits, written, folded, kept_of, committed, Outcome, Finish, finish, books_after, close_with, close}
use Rattle.rules.specs.Read.{put_at, newest_value, read_at}
use Rattle.rules.specs.Events.{Event, delivery, Answer, Step, closing, delivered, deliver_at, deliver_with, with_vote, take_vote, with_k, take_change, snapshot, take_read, accepted}
use Rattle.rules.specs.Refusals.{first_of, delivery_checks, vote_checks, change_checks, read_checks, checks, refusal, unless_refused, step}
use Rattle.rules.specs.Logs.{steps, last}

-- One D line of a log: identity, partition set, st, keys read, writes.
abbrev pub deliver : ℕ → ℕ → ℕ → List ℕ → List Write → Event
deliver identity partitions st reads writes =
    delivery (record { identity = identity; partitions = partitions; st = st; reads = reads; writes = writes })

infixr 70 ◌puts◌
abbrev pub ◌puts◌ : ℕ → ℤ → Write
key puts value = record { key = key; value = value }

-- A finish as its line has it: identity and outcome.
infixr 70 ◌ends◌
pub data Line : Type 0 where
  ◌ends◌ : ℕ → Outcome → Line

abbrev pub line_of : Finish → Line
line_of f = f.transaction.identity ends f.outcome

-- What is looked at of an event: the answer, the finish lines, and SC after it.
pub record Seen : Type 0 where
  pub answer : Answer
  pub lines : List Line
  pub sc : ℕ

abbrev pub seen_of : Step → Seen
seen_of r = record { answer = r.answer; lines = map line_of r.finishes; sc = r.next.books.sc }

-- A row: k at opening, with two partitions and own 0; the log before; the event; what must be seen.
pub record Case : Type 0 where
  pub k : ℕ
  pub before : List Event
  pub event : Event
  pub must : Seen

abbrev pub row : ℕ → List Event → Event → Answer → List Line → ℕ → Case
row k before event answer lines sc =
    record { k = k; before = before; event = event; must = record { answer = answer; lines = lines; sc = sc } }

abbrev pub wanted : Case → Seen
wanted c = c.must

-- What is seen, by the rules. The line opens all of them, so that a table's claim opens this one name.
unfoldable pub computed : Case → Seen
unfolding
    names with_partition other hear heard_from outstanding any_outstanding every_vote_yes bad_set
    above ascending bad_keys shared meet is_local opening place
    ticked entered commits_after clash clash_commit clash_entry blocks passes placed fate joined vote_to_send
    ready commits written folded kept_of committed finish books_after close_with close
    put_at newest_value read_at
    closing delivered deliver_at deliver_with with_vote take_vote with_k take_change snapshot take_read accepted
    first_of delivery_checks vote_checks change_checks read_checks checks refusal unless_refused step
    steps last
computed c = seen_of (step c.event (last c.before (opening 2 0 c.k)))

-- So many local transactions, each of which commits at once: the one of version v has identity v and st v - 1, and writes v to key v.
unfoldable pub commits_up_to : ℕ → List Event
commits_up_to zero = []
commits_up_to (suc n) = commits_up_to n ++ deliver (suc n) 1 n [] (suc n puts pos (suc n) ∷ []) ∷ []
