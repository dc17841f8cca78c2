-- One number more stands behind those before it.
use Rattle.answers.specs.Lines.{front_step}
use Rattle.answers.proofs.write_numbers.Goals as goal

pub loop-n-preserved : goal.loop-n-preserved
loop-n-preserved c =
    front_step c.loop-n.invariant c.requires.room c.loop-n-test.true c.requires.few c.write_field-place.ensures.wrote c.write_field-place.ensures.ends
