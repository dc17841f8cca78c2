-- A vote: the clock as it was, the desk with the vote in its row, and what settling leaves.
use Rattle.std.proofs.Common.{◌∙◌}
use Rattle.engine.specs.Storing.{clock_read, desk_read, still_ready, settled_so, vote_desk}
use Rattle.engine.proofs.taking.take_vote.Goals as goal

pub settle-requires : goal.settle-requires
settle-requires c =
    still_ready (clock_read c.as_book.ensures c.of-c.ensures)
    (desk_read c.as_book-2.ensures c.of-tally.ensures.sc c.of-tally.ensures.waiting c.of-tally.ensures.none_finished ∙ vote_desk _ _ _ _ _ _ c.store_vote.ensures)
    c.requires.ready

pub returns-clause-after : goal.returns-clause-after
returns-clause-after c =
    settled_so (clock_read c.as_book.ensures c.of-c.ensures)
    (desk_read c.as_book-2.ensures c.of-tally.ensures.sc c.of-tally.ensures.waiting c.of-tally.ensures.none_finished ∙ vote_desk _ _ _ _ _ _ c.store_vote.ensures)
    c.settle.ensures.value c.settle.ensures.book_after c.settle.ensures.sums_after c.settle.ensures.finishes_after
