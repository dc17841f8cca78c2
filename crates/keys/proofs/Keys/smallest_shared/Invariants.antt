-- What the rests share is what the lists share at all, since the smaller of two keys is in neither rest of the other list; both rests ascend. The measure is what
-- is left of both.
use Prim.Native.Nat.{◌+◌}
use mathlib.Core.Bool.{true}
use mathlib.Core.Path.{◌≡◌}
use lib.ListN.{length}
use Rattle.rules.specs.Keys.{ascending, shared}
use Rattle.keys.proofs.Keys.smallest_shared.Given as goal

abbrev pub invariant-loop-one : goal.invariant-loop-one
invariant-loop-one l =
    record {
      same : shared l.self.list.now l.other.list.now ≡ shared l.ours l.theirs;
      ours_ascend : ascending l.ours ≡ true;
      theirs_ascend : ascending l.theirs ≡ true;
    }

abbrev pub decreases-loop-one : goal.decreases-loop-one
decreases-loop-one l = length l.ours + length l.theirs
