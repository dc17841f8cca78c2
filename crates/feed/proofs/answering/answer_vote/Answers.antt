-- What the operation left, its own line, and the finishes' lines behind it.
use Rattle.feed.specs.Answering.{voted, entries_fit, room_left, answered}
use Rattle.feed.proofs.answering.answer_vote.Goals as goal

pub write_finishes-requires-clause-entries : goal.write_finishes-requires-clause-entries
write_finishes-requires-clause-entries c = rw c.count_of.ensures (entries_fit (voted _ _ _ c.vote-answer.ensures) c.requires.list)

pub write_finishes-requires-clause-room : goal.write_finishes-requires-clause-room
write_finishes-requires-clause-room c =
    rw c.count_of.ensures (room_left (voted _ _ _ c.vote-answer.ensures) c.requires.room c.write_voted-behind.ensures.wrote c.write_voted-behind.ensures.ends)

pub returns : goal.returns
returns c =
    answered (voted _ _ _ c.vote-answer.ensures) c.requires.room c.write_voted-behind.ensures.wrote c.write_voted-behind.ensures.ends (rw c.count_of.ensures at c.write_finishes.ensures.wrote) (rw c.count_of.ensures at c.write_finishes.ensures.ends)
