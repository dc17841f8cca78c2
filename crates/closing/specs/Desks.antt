-- A clock and a tally with the three tables, as the rules' clock and as a desk.
use Rattle.std.specs.Prelude.{ℕ, List, ℤ}
use Rattle.rules.specs.Ledger as rules
use Rattle.tables.specs.Closed.{Desk}
use Rattle.closing.specs.declared.Clock.{Clock}
use Rattle.closing.specs.declared.Tally.{Tally}

abbrev pub clock_of : Clock → rules.Clock
clock_of c = record { partitions = c.partitions; own = c.own; dc = c.dc; k = c.k }

abbrev pub desk_of : Tally → List ℕ → List ℤ → List ℕ → Desk
desk_of t book sums finishes =
    record { sc = t.sc; waiting = t.waiting; finished = t.finished; book = book; sums = sums; finishes = finishes }
