use Rattle.std.proofs.Common.{◌+◌, ◌-◌, length}
use Rattle.rules.specs.Records.{a_write}
use Rattle.records.specs.Kept.{kept_writes}
use Rattle.records.specs.Lists.{Keeping}
use Rattle.records.proofs.lists.each_write.Given as goal

abbrev pub invariant-loop-from : goal.invariant-loop-from
invariant-loop-from l = Keeping a_write l.s (kept_writes l.writes) l.from

abbrev pub decreases-loop-from : goal.decreases-loop-from
decreases-loop-from l = length l.s + 1 - l.from
