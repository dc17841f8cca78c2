-- The numbers, a tab, the value, the newline, one behind the other.
use Rattle.std.proofs.Common.{rules, to_z-of_z}
use Rattle.answers.specs.Reads.{value_room, value_ends, value_wrote}
use Rattle.answers.proofs.write_value.Goals as goal

pub write_byte-requires : goal.write_byte-requires
write_byte-requires c =
    let fits = c.ranges.amount in
    let signed = simp to_z-of_z at c.write_signed-last.ensures in
    value_room c.args.key c.args.st c.args.amount (search rules) c.requires c.write_numbers-place.ensures.ends c.write_numbers-place.ensures.wrote
    c.write_byte-sign.ensures signed

pub returns-clause-wrote : goal.returns-clause-wrote
returns-clause-wrote c =
    let fits = c.ranges.amount in
    let signed = simp to_z-of_z at c.write_signed-last.ensures in
    value_wrote c.args.key c.args.st c.args.amount (search rules) c.requires c.write_numbers-place.ensures.ends c.write_numbers-place.ensures.wrote
    c.write_byte-sign.ensures signed c.write_byte.ensures

pub returns-clause-ends : goal.returns-clause-ends
returns-clause-ends c =
    let fits = c.ranges.amount in
    let signed = simp to_z-of_z at c.write_signed-last.ensures in
    value_ends c.args.key c.args.st c.args.amount (search rules) c.requires c.write_numbers-place.ensures.ends c.write_numbers-place.ensures.wrote
    c.write_byte-sign.ensures signed c.write_byte.ensures
