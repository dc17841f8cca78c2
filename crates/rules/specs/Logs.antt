-- A log: its events one after the other, with what each gives, and the state at the end. What an answer must be, in three lines:
--
--     step e s                       one event: its answer, what finished, the next state
--     last es (opening parts own k)  the state after a log
--     desk room e s                  the same of any state and any finish list, with 15 and 13 looked at first
use Rattle.std.specs.Prelude.{List, [], ◌∷◌, ◌++◌}
use Rattle.rules.specs.Ledger.{State}
use Rattle.rules.specs.Closing.{Finish}
use Rattle.rules.specs.Events.{Event, Step}
use Rattle.rules.specs.Refusals.{step}

-- "It takes events in log order": what each gives.
unfoldable pub steps : List Event → State → List Step
steps [] s = []
steps (e ∷ es) s = step e s ∷ steps es (step e s).next

-- The state after the log.
unfoldable pub last : List Event → State → State
last [] s = s
last (e ∷ es) s = last es (step e s).next

-- All finishes, in their order.
unfoldable pub finishes : List Event → State → List Finish
finishes [] s = []
finishes (e ∷ es) s = (step e s).finishes ++ finishes es (step e s).next
