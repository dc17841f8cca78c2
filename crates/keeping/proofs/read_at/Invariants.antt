-- No version above the one looked at, and at most st, writes the key: `Reading` of `specs/Reading.antt`.
use Rattle.keeping.specs.Reading.{Reading}
use Rattle.keeping.proofs.read_at.Given as goal

abbrev pub invariant-loop-version : goal.invariant-loop-version
invariant-loop-version l = Reading l.kept.book.words.now l.sums.amounts.now l.kept.sc l.key l.st l.floor l.version
