-- Each head that is taken off leaves one entry fewer, so the measure is how many wait. Assumes nothing.
use Rattle.closing.proofs.+close.Given as goal

abbrev pub decreases-close : goal.decreases-close
decreases-close l = l.t.waiting
