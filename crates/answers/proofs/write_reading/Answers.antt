-- What is no value is a refusal, and its number is written.
use Rattle.answers.specs.Reads.{turned_wrote}
use Rattle.answers.proofs.write_reading.Goals as goal

pub returns-in_default-clause-wrote : goal.returns-in_default-clause-wrote
returns-in_default-clause-wrote c = turned_wrote c.args.key c.args.answer c.in_default.field-0 c.in_default.is c.number_of.ensures c.write_line.ensures.wrote
