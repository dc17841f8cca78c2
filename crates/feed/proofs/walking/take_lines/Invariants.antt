-- The walk so far, and where the next line ends.
use Rattle.std.specs.Prelude.{◌-◌, length}
use Rattle.feed.specs.Answering.{memory}
use Rattle.feed.specs.Walking.{Walk, EndAt}
use Rattle.feed.proofs.walking.take_lines.Given as goal

abbrev pub invariant-loop-end : goal.invariant-loop-end
invariant-loop-end l =
    Walk l.input l.fn.start.standing (memory l.initial.book l.initial.sums l.initial.finishes) l.initial.out l.place (memory l.book l.sums l.finishes) l.out
    × EndAt l.input l.place.from l.end

abbrev pub decreases-loop-end : goal.decreases-loop-end
decreases-loop-end l = length l.input - l.end
