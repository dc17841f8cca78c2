-- What stands behind the last newline is skipped, left, found too long, or the last line.
use Rattle.std.proofs.Common.{sym, ◌∙◌}
use Rattle.feed.specs.Ending.{ended_skipped, ended_left, ended_full, ended_overlong, ended_last}
use Rattle.feed.proofs.ending.take_tail.Goals as goal

pub returns-then-place-clause-ended : goal.returns-then-place-clause-ended
returns-then-place-clause-ended c = ended_skipped _ _ _ c.args.place _ c.requires.ends c.if-place.true

pub returns-then-is_left-clause-ended : goal.returns-then-is_left-clause-ended
returns-then-is_left-clause-ended c = rw c.leave.ensures (ended_left _ _ _ c.args.place _ c.requires.ends c.if-place.false (sym c.is_left.ensures ∙ c.if-is_left.true))

pub returns-then-out-place-lt-LONGEST-clause-ended : goal.returns-then-out-place-lt-LONGEST-clause-ended
returns-then-out-place-lt-LONGEST-clause-ended c = rw c.leave-then-out-place-lt-LONGEST.ensures (ended_full _ _ _ c.args.place _ c.requires.ends c.if-place.false (sym c.is_left.ensures ∙ c.if-is_left.false) c.if-out-place-lt-LONGEST.true)

pub returns-then-tail-gt-LINE-clause-ended : goal.returns-then-tail-gt-LINE-clause-ended
returns-then-tail-gt-LINE-clause-ended c =
    ended_overlong _ _ _ c.args.place _ c.requires.ends c.if-place.false (sym c.is_left.ensures ∙ c.if-is_left.false) c.if-out-place-lt-LONGEST.false c.if-tail-gt-LINE.true c.write_refusal.ensures.wrote

pub returns-clause-ended : goal.returns-clause-ended
returns-clause-ended c =
    ended_last _ _ _ c.args.place _ c.requires.ends c.if-place.false (sym c.is_left.ensures ∙ c.if-is_left.false) c.take_line-taken.result c.if-out-place-lt-LONGEST.false c.if-tail-gt-LINE.false c.take_line-taken.ensures
