-- The words of demand 3: which deliveries, changes and votes a log has, when a vote comes in time, and what two runs must have in common.
use Rattle.std.specs.Prelude.{ℕ, ◌+◌, ◌<◌, Bool, true, false, ◌&&◌, List, [], ◌∷◌, ◌++◌, ◌≡◌, eqb}
use Rattle.std.specs.List.{list_any}
use Rattle.rules.specs.Partitions.{Ballot, aye, nay, other}
use Rattle.rules.specs.Ledger.{Transaction, State}
use Rattle.rules.specs.Events.{Event, delivery, vote, change, read, Answer, refused, waits, aborted, voted, changed, value}
use Rattle.rules.specs.Refusals.{step}
use Rattle.rules.specs.Logs.{last, finishes}

-- "the same deliveries and threshold changes in the same order": what is left of a log without its votes and reads
unfoldable pub moves : List Event → List Event
moves [] = []
moves (delivery t ∷ es) = delivery t ∷ moves es
moves (change k ∷ es) = change k ∷ moves es
moves (vote i p b ∷ es) = moves es
moves (read key st ∷ es) = moves es

-- "the same votes": the log has the vote b of partition p on identity i
abbrev pub same_ballot : Ballot → Ballot → Bool
same_ballot aye aye = true
same_ballot aye nay = false
same_ballot nay aye = false
same_ballot nay nay = true

unfoldable pub is_vote : ℕ → ℕ → Ballot → Event → Bool
is_vote i p b (vote j q c) = eqb i j && eqb p q && same_ballot b c
is_vote i p b (delivery t) = false
is_vote i p b (change k) = false
is_vote i p b (read key st) = false

unfoldable pub has_vote : ℕ → ℕ → Ballot → List Event → Bool
has_vote i p b es = list_any (is_vote i p b) es

-- A delivery that was neither refused nor aborted at delivery.
unfoldable pub is_waiting : Answer → Bool
is_waiting (refused n) = false
is_waiting (waits dc i send) = true
is_waiting (aborted dc reason send) = false
is_waiting voted = false
is_waiting changed = false
is_waiting (value st v) = false

-- The threshold that a delivery gets in a state: DC after it, and the k in force.
unfoldable pub threshold : State → ℕ
threshold s = s.clock.dc + 1 + s.clock.k

-- The delivery at which a vote was cast stands before it, and the vote's partition is another one that it involves.
pub record Cast (own : ℕ) (before : List Event) (i p : ℕ) : Type 0 where
  pub earlier : List Event
  pub between : List Event
  pub transaction : Transaction
  pub stands : before ≡ earlier ++ delivery transaction ∷ between
  pub identity : transaction.identity ≡ i
  pub involved : other own transaction.partitions p ≡ true

-- A log, run from a state, whose votes come in time.
pub record Timed (s : State) (es : List Event) : Type 0 where
  -- "all identities different"
  pub different : (xs ys zs : List Event) (t u : Transaction) → es ≡ xs ++ delivery t ∷ ys ++ delivery u ∷ zs → t.identity ≡ u.identity → ⊥
  -- "each vote after its delivery", from an "other involved partition"
  pub cast : (xs ys : List Event) (i p : ℕ) (b : Ballot) → es ≡ xs ++ vote i p b ∷ ys → Cast s.clock.own xs i p
  -- "at most one from each"
  pub once : (xs ys zs : List Event) (i p : ℕ) (b c : Ballot) → es ≡ xs ++ vote i p b ∷ ys ++ vote i p c ∷ zs → ⊥
  -- "before the first delivery, taken or refused, that comes when the counter has reached that transaction's threshold": a delivery u between t and
  -- a vote on t finds DC below the threshold of t. "(a vote on one refused or aborted at delivery: anywhere after it)"
  pub in_time : (ws xs ys zs : List Event) (t u : Transaction) (p : ℕ) (b : Ballot)
      → es ≡ ws ++ delivery t ∷ xs ++ delivery u ∷ ys ++ vote t.identity p b ∷ zs
      → is_waiting (step (delivery t) (last ws s)).answer ≡ true
      → (last (ws ++ delivery t ∷ xs) s).clock.dc < threshold (last ws s)

-- "each delivery's own answer"
unfoldable pub own_answers : List Event → State → List Answer
own_answers [] s = []
own_answers (delivery t ∷ es) s = (step (delivery t) s).answer ∷ own_answers es (step (delivery t) s).next
own_answers (vote i p b ∷ es) s = own_answers es (step (vote i p b) s).next
own_answers (change k ∷ es) s = own_answers es (step (change k) s).next
own_answers (read key st ∷ es) s = own_answers es (step (read key st) s).next

-- "each delivery's own answer, the order, outcomes and versions of all finishes, and the final state are equal"
pub record Alike (s : State) (es fs : List Event) : Type 0 where
  pub answers : own_answers es s ≡ own_answers fs s
  pub told : finishes es s ≡ finishes fs s
  pub state : last es s ≡ last fs s
