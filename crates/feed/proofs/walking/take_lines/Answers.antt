-- The walk starts at the first line, goes on line by line, and stops for want of room or before what has no newline.
use Rattle.std.specs.Prelude.{length}
use Rattle.std.proofs.Common.{sym, lt-ltb, le-ltb}
use Rattle.feed.specs.Walking.{walk_start, walk_on, walk_length, walk_short, walk_tail}
use Rattle.feed.proofs.walking.take_lines.Goals as goal
use Rattle.feed.proofs.walking.take_lines.Goals.{then-loop-end-test+else-may_go_on, else-loop-end-test}

pub loop-end-init : goal.loop-end-init
loop-end-init c = (
  walk_start _ c.args.start _ _ c.requires.begins.0 c.requires.begins.1 c.requires.list c.requires.known,
  record { found = rw c.requires.begins.0 c.find-end.ensures.0; inside = c.find-end.ensures.1 },
)

pub loop-end-preserved : goal.loop-end-preserved
loop-end-preserved c = (
  walk_on c.loop-end.invariant.0 c.loop-end.end c.loop-end.invariant.1.found c.loop-end-test.true
      (sym (rw (walk_length c.loop-end.invariant.0) at c.if-may_go_on.ensures)) c.take_whole-place.ensures,
  record { found = c.find-end-in-loop-end.ensures.0; inside = c.find-end-in-loop-end.ensures.1 },
)

pub returns : goal.returns
returns c =
    elim c.loop-end-test.branch [
      | then-loop-end-test+else-may_go_on w ↦ walk_short _ _ _ _ _ _ _ c.loop-end.end _ c.loop-end.invariant.0 c.loop-end.invariant.1 w.loop-end-test.true
          (sym (rw (walk_length c.loop-end.invariant.0) at w.if-may_go_on.ensures)) (lt-ltb c.loop-end.end (length c.args.input.now) w.loop-end-test.true)
      | else-loop-end-test w ↦ walk_tail _ _ _ _ _ _ _ c.loop-end.end _ c.loop-end.invariant.0 c.loop-end.invariant.1 w.loop-end-test.false
          (le-ltb c.loop-end.end (length c.args.input.now) w.loop-end-test.false)
    ]
