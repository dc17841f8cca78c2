-- A delivery whose fate is known: the vote to send, and what settling leaves.
use Rattle.engine.specs.Acting.{fate_settled}
use Rattle.engine.proofs.taking.settle_delivery.Goals as goal

pub returns-clause-after : goal.returns-clause-after
returns-clause-after c =
    fate_settled _ _ _ _ c.vote_for-send.ensures c.settle-told.ensures.value c.settle-told.ensures.book_after c.settle-told.ensures.sums_after
    c.settle-told.ensures.finishes_after
