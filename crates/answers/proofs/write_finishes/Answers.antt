-- What is written is the entries before the index; the next stands behind them.
use Rattle.std.proofs.Common.{arith}
use Rattle.answers.specs.Finishes.{told_start, told_step}
use Rattle.answers.proofs.write_finishes.Goals as goal

pub loop-i-init : goal.loop-i-init
loop-i-init c = told_start c.args.out.now c.args.at c.args.finishes.now

pub loop-i-preserved : goal.loop-i-preserved
loop-i-preserved c =
    told_step c.loop-i.invariant c.args.count (omega arith) c.requires.room c.write_finish-place.ensures.wrote c.write_finish-place.ensures.ends
