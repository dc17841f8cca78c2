-- From the last write to the first each is one store into the values, under those stored before: `Folding` of `specs/Folding.antt` is the rule `written` read from behind.
use Rattle.std.specs.Prelude.{◌+◌, ◌-◌}
use Rattle.keeping.specs.Folding.{Folding}
use Rattle.keeping.proofs.fold_oldest.Given as goal

abbrev pub invariant-loop-j : goal.invariant-loop-j
invariant-loop-j l = Folding l.kept.book.words.now l.initial.sums (l.kept.sc - 64 + 1) l.sums l.j
