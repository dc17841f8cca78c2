-- The event is answered on the tables, and a second opening refused.
use Rattle.records.specs.Said.{delivery_lent}
use Rattle.feed.specs.Taking.{refused_next, answered_next}
use Rattle.feed.proofs.taking.take_next.Goals as goal

pub returns-in-Opening : goal.returns-in-Opening
returns-in-Opening c = rw c.in-Opening.is (refused_next _ _ _ _ c.write_refusal.ensures.wrote c.write_refusal.ensures.ends)

pub returns-in-Delivery : goal.returns-in-Delivery
returns-in-Delivery c = rw (c.in-Delivery.is, delivery_lent c.in-Delivery.d) (answered_next c.answer_delivery.ensures)

pub returns-in-Vote : goal.returns-in-Vote
returns-in-Vote c = rw c.in-Vote.is (answered_next c.answer_vote.ensures)

pub returns-in-Change : goal.returns-in-Change
returns-in-Change c = rw c.in-Change.is (answered_next c.answer_change.ensures)

pub returns-in-Read : goal.returns-in-Read
returns-in-Read c = rw c.in-Read.is (answered_next (c.answer_read.ensures _))
