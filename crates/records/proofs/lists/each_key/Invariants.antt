use Rattle.std.proofs.Common.{◌+◌, ◌-◌, length}
use Rattle.rules.specs.Bytes.{number}
use Rattle.rules.specs.Records.{key_limit}
use Rattle.records.specs.Kept.{kept_keys}
use Rattle.records.specs.Lists.{Keeping}
use Rattle.records.proofs.lists.each_key.Given as goal

abbrev pub invariant-loop-from : goal.invariant-loop-from
invariant-loop-from l = Keeping (number key_limit) l.s (kept_keys l.keys) l.from

abbrev pub decreases-loop-from : goal.decreases-loop-from
decreases-loop-from l = length l.s + 1 - l.from
