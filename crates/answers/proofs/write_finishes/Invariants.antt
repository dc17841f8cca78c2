-- `answers::write_finishes` meets its contract: the entries before the index are written, each in at most 24 bytes (`Told` of `specs/Finishes.antt`). Assumes nothing.
use Rattle.answers.specs.Finishes.{Told}
use Rattle.answers.proofs.write_finishes.Given as goal

abbrev pub invariant-loop-i : goal.invariant-loop-i
invariant-loop-i l = Told l.fn.out l.at l.finishes l.i l.out l.place
