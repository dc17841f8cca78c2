-- A tab, and the number behind it.
use Rattle.std.proofs.Common.{arith}
use Rattle.answers.specs.Lines.{field_wrote, field_ends}
use Rattle.answers.proofs.write_field.Goals as goal

pub returns-clause-wrote : goal.returns-clause-wrote
returns-clause-wrote c = field_wrote c.args.n c.requires c.write_byte-number.ensures (rw c.from.ensures at c.write_number.ensures)

pub returns-clause-ends : goal.returns-clause-ends
returns-clause-ends c = field_ends c.args.n (omega arith) c.write_byte-number.ensures (rw c.from.ensures at c.write_number.ensures)
