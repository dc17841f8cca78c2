-- Before opening as there; afterwards what was known stays known.
use Rattle.feed.specs.Taking.{took_next}
use Rattle.feed.proofs.taking.take_record.Goals as goal

pub returns : goal.returns
returns c = rw c.if-not-opened.false (took_next _ _ _ _ c.requires.known c.requires.list c.take_next.ensures)
