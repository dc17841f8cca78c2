-- What is taken lies within what is held, and once there was room for all answers at most the beginning of one line is left.
use Rattle.std.proofs.Common.{◌≡◌, ◌≤◌, ◌+◌, length, suc, cond, false, ◌-◌}
use Rattle.answers.specs.declared.TheConstants.{LONGEST}
use Rattle.telvrang.proofs.answer.Given as goal

abbrev pub invariant-loop-full : goal.invariant-loop-full
invariant-loop-full g l =
    (l.from ≤ l.left.held) × (l.left.held ≤ length l.chunk) × (LONGEST ≤ length l.answers) × (l.full ≡ false → l.left.held ≤ l.from + 512)

abbrev pub decreases-loop-full : goal.decreases-loop-full
decreases-loop-full g l = cond l.full (suc (l.left.held - l.from)) 0
