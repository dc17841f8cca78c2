-- `answers::write_numbers` meets its contract: the numbers before the index are written behind the letter, each in at most 11 bytes (`Front` of
-- `specs/Lines.antt`). Assumes nothing.
use Rattle.answers.specs.Lines.{Front}
use Rattle.answers.proofs.write_numbers.Given as goal

abbrev pub invariant-loop-n : goal.invariant-loop-n
invariant-loop-n l = Front l.fn.out l.at l.letter l.numbers l.n-index l.out l.place
