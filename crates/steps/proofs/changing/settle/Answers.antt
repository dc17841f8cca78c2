-- Closing begins on tables that are sound, with what is read off them.
use Rattle.std.proofs.Common.{rules, arith}
use Rattle.steps.specs.Settling.{ready}
use Rattle.steps.proofs.changing.settle.Goals as goal

pub settle-requires : goal.settle-requires
settle-requires c =
    let same = c.in_ok-checked.ensures in
    ready c.in_ok-checked.checked.sound same.0 same.1 (search rules) (search rules) (omega arith) c.of-c.ensures c.of-tally.ensures.sc c.of-tally.ensures.waiting c.of-tally.ensures.none_finished
