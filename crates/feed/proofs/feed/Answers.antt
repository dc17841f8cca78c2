-- The walk over the lines, and what stands behind the last newline.
use Rattle.feed.specs.Ending.{whole_tail, rest_all}
use Rattle.feed.proofs.feed.Goals as goal

pub returns-clause-fed : goal.returns-clause-fed
returns-clause-fed c = whole_tail _ _ _ _ _ _ c.take_lines-stop.result _ c.take_lines-stop.ensures c.if-stop.false (rw (rest_all c.args.input.now c.take_lines-stop.result.place.from) at c.take_tail.ensures.ended)

pub returns-then-stop-clause-full : goal.returns-then-stop-clause-full
returns-then-stop-clause-full c = λ q. rw c.leave.ensures (c.take_lines-stop.ensures.no_room c.if-stop.true)
