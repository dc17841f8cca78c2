-- Where the loop ends nothing is left above the floor: the range was empty, or its last version, the one above the floor, did not write the key.
use Rattle.std.proofs.Common.{rules, arith, ◌∙◌}
use mir.Syntax.{w64}
use mir.Facts.{to_z-of_z}
use Rattle.keeping.specs.Reading.{read_miss, read_end}
use Rattle.keeping.proofs.read_at.Goals as goal
use Rattle.keeping.proofs.read_at.Goals.{else-loop-version-test, then-loop-version-test+in_default+else-version-start-version}

pub returns : goal.returns
returns c =
    to_z-of_z {w = w64} (search rules)
    ∙ elim c.loop-version-test.branch [
      | else-loop-version-test w ↦ read_end c.loop-version.invariant (omega (arith, w.loop-version-test.false)) c.requires.key_bound
      | then-loop-version-test+in_default+else-version-start-version w ↦ read_end (read_miss c.loop-version.invariant (omega (arith, w.loop-version-test.true)) w.in_default.ensures) (omega arith) c.requires.key_bound
    ]
