-- At most the beginning of one line is held, so there is always room to read more.
use Rattle.std.proofs.Common.{◌≤◌, length}
use Rattle.answers.specs.declared.TheConstants.{LONGEST}
use Rattle.telvrang.proofs.serve.Given as goal

abbrev pub invariant-loop : goal.invariant-loop
invariant-loop g l = (l.held ≤ 512) × (512 ≤ length l.chunk) × (LONGEST ≤ length l.answers)
