-- A line that can't be read is refused by 14.
use Rattle.std.proofs.Common.{sym, ◌∙◌, ap}
use Rattle.records.specs.Said.{record_said}
use Rattle.feed.specs.Taking.{took_unread}
use Rattle.feed.proofs.taking.take_line.Goals as goal

pub returns-in-None : goal.returns-in-None
returns-in-None c =
    took_unread _ _ _ _ (sym c.read_record.ensures ∙ ap record_said c.in-None.is) c.requires.known c.write_refusal.ensures.wrote c.write_refusal.ensures.ends
