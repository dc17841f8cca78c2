-- A log as calls of the operations on lent memory, one after the other: what each answers, and what it leaves.
use Rattle.std.specs.Prelude.{ℕ, ◌*◌, List, [], ◌∷◌, ◌++◌, map, ℤ, take, Some, None}
use Rattle.std.specs.declared.option.Option as code
use Rattle.rules.specs.Partitions.{is_aye}
use Rattle.rules.specs.Ledger.{Write, State, keys_of}
use Rattle.rules.specs.Events.{Event, delivery, vote, change, read, Answer, Snapshot, at, newest}
use Rattle.tables.specs.View.{view}
use Rattle.engine.specs.Answers.{After, delivered_said, delivered_finishes, voted_said, changed_said, finishes_told, reading_said}
use Rattle.engine.specs.Operations.{delivering, voting, changing, reading, opened}

-- All that is lent: the two tables of the state, and the finish list.
pub record Memory : Type 0 where
  pub book : List ℕ
  pub sums : List ℤ
  pub finishes : List ℕ

-- The state that it holds.
abbrev pub held : Memory → State
held m = view m.book m.sums

-- What a call gives: its answer in the rules' words, how many finishes it counts, and the memory after it.
pub record Called : Type 0 where
  pub answer : Answer
  pub count : ℕ
  pub memory : Memory

abbrev pub called : {A : Type 0} → (A → Answer) → (A → ℕ) → After A → Called
called said count r =
    record { answer = said r.answer; count = count r.answer; memory = record { book = r.book; sums = r.sums; finishes = r.finishes } }

abbrev pub amounts_of : List Write → List ℤ
amounts_of ws = map (λ w. w.value) ws

-- A read at a version, or at none for SC.
abbrev pub asking : Snapshot → code.Option ℕ
asking (at st) = Some st
asking newest = None

-- One event, as a call.
unfoldable pub call : Event → Memory → Called
call (delivery t) m =
    called delivered_said delivered_finishes
    (delivering t.identity t.partitions t.st t.reads (keys_of t.writes) (amounts_of t.writes) m.book m.sums m.finishes)
call (vote i p b) m = called voted_said finishes_told (voting i p (is_aye b) m.book m.sums m.finishes)
call (change k) m = called changed_said finishes_told (changing k m.book m.sums m.finishes)
call (read key st) m = record { answer = reading_said (reading key (asking st) m.book m.sums); count = 0; memory = m }

-- The finish entries that a call wrote, two words each.
abbrev pub told : Called → List ℕ
told c = take (2 * c.count) c.memory.finishes

-- A log: what each call gives, and the memory after the last.
unfoldable pub calls : List Event → Memory → List Called
calls [] m = []
calls (e ∷ es) m = call e m ∷ calls es (call e m).memory

unfoldable pub after : List Event → Memory → Memory
after [] m = m
after (e ∷ es) m = after es (call e m).memory

-- Each delivery's own answer; all finish entries, in their order.
unfoldable pub own_called : List Event → Memory → List Answer
own_called [] m = []
own_called (delivery t ∷ es) m = (call (delivery t) m).answer ∷ own_called es (call (delivery t) m).memory
own_called (vote i p b ∷ es) m = own_called es (call (vote i p b) m).memory
own_called (change k ∷ es) m = own_called es (call (change k) m).memory
own_called (read key st ∷ es) m = own_called es (call (read key st) m).memory

unfoldable pub all_told : List Event → Memory → List ℕ
all_told [] m = []
all_told (e ∷ es) m = told (call e m) ++ all_told es (call e m).memory

-- Memory of any content with an engine opened in it.
unfoldable pub opened_in : ℕ → ℕ → ℕ → Memory → Memory
opened_in partitions own k m =
    record { book = (opened partitions own k m.book m.sums).book; sums = (opened partitions own k m.book m.sums).sums; finishes = m.finishes }
