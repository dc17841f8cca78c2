-- What passed the check is a pair of sound tables.
use Rattle.std.proofs.Common.{rules}
use Rattle.checking.specs.SoundTables.{sound_tables}
use Rattle.steps.proofs.checked.check.Goals as goal

pub invariant_of-result : goal.invariant_of-result
invariant_of-result c = record { sound = sound_tables _ _ (search rules) }
