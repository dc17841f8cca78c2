-- What the operation left, its own line, and the finishes' lines behind it.
use Rattle.std.proofs.Common.{◌∙◌, sym}
use Rattle.feed.specs.Answering.{delivered, entries_fit, room_left, answered}
use Rattle.feed.proofs.answering.answer_delivery.Goals as goal

pub write_finishes-requires-clause-entries : goal.write_finishes-requires-clause-entries
write_finishes-requires-clause-entries c = rw c.finishes_of.ensures (entries_fit (delivered _ _ _ _ _ _ c.deliver-answer.ensures (c.amounts.ensures.all ∙ sym c.keys.ensures.all)) c.requires.list)

pub write_finishes-requires-clause-room : goal.write_finishes-requires-clause-room
write_finishes-requires-clause-room c =
    rw c.finishes_of.ensures (room_left (delivered _ _ _ _ _ _ c.deliver-answer.ensures (c.amounts.ensures.all ∙ sym c.keys.ensures.all)) c.requires.room c.write_delivered-behind.ensures.wrote c.write_delivered-behind.ensures.ends)

pub returns : goal.returns
returns c =
    rw (← c.reads.ensures, ← c.keys.ensures.kept, ← c.amounts.ensures.kept)
    (answered (delivered _ _ _ _ _ _ c.deliver-answer.ensures (c.amounts.ensures.all ∙ sym c.keys.ensures.all)) c.requires.room c.write_delivered-behind.ensures.wrote c.write_delivered-behind.ensures.ends (rw c.finishes_of.ensures at c.write_finishes.ensures.wrote) (rw c.finishes_of.ensures at c.write_finishes.ensures.ends))
