-- `numerals::digits` meets its contract: what is left to read behind the value so far is what was to be read at first (`Reads` of `specs/Reading.antt`), and a value over the
-- limit only grows. Assumes nothing.
use Rattle.numerals.specs.Reading.{Reads}
use Rattle.numerals.proofs.digits.Given as goal

abbrev pub invariant-loop-b : goal.invariant-loop-b
invariant-loop-b l = Reads l.s l.limit l.v l.b-index
