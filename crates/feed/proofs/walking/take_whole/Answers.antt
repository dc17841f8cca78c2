-- The end of a line that is skipped, or a line answered.
use Rattle.feed.specs.Walking.{came_skipped, came_answered}
use Rattle.feed.proofs.walking.take_whole.Goals as goal

pub returns-then-place : goal.returns-then-place
returns-then-place c = came_skipped _ _ _ _ c.args.place c.if-place.true c.requires.known

pub returns : goal.returns
returns c = came_answered _ _ _ _ c.args.place c.take_line-taken.result c.if-place.false c.take_line-taken.ensures
