-- An event before opening is refused by 13.
use Rattle.feed.specs.Taking.{took_early, no_opening}
use Rattle.feed.specs.Answering.{memory}
use Rattle.feed.proofs.taking.take_first.Goals as goal

pub returns-in_default : goal.returns-in_default
returns-in_default c fin = took_early _ (memory _ _ fin) (no_opening _ (memory _ _ fin) c.in_default.not-Opening) c.write_refusal.ensures.wrote c.write_refusal.ensures.ends
