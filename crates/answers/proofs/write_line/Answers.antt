-- The newline ends what the numbers began.
use Rattle.answers.specs.Lines.{line_wrote}
use Rattle.answers.proofs.write_line.Goals as goal

pub returns-clause-wrote : goal.returns-clause-wrote
returns-clause-wrote c =
    line_wrote c.args.numbers.now c.requires.few c.requires.room c.write_numbers-place.ensures.ends c.write_numbers-place.ensures.wrote c.write_byte.ensures
