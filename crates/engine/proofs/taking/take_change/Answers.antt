-- A change: the clock with the new k, the desk as it was, and what settling leaves.
use Rattle.std.proofs.Common.{◌∙◌}
use Rattle.engine.specs.Storing.{clock_read, desk_read, still_ready, settled_so, change_desk, changed_clock}
use Rattle.engine.proofs.taking.take_change.Goals as goal

pub settle-requires : goal.settle-requires
settle-requires c =
    still_ready (changed_clock c.args.k (clock_read c.as_book.ensures c.of.ensures))
    (desk_read c.as_book-2.ensures c.of-tally.ensures.sc c.of-tally.ensures.waiting c.of-tally.ensures.none_finished ∙ change_desk _ _ _) c.requires

pub returns-clause-after : goal.returns-clause-after
returns-clause-after c =
    settled_so (changed_clock c.args.k (clock_read c.as_book.ensures c.of.ensures))
    (desk_read c.as_book-2.ensures c.of-tally.ensures.sc c.of-tally.ensures.waiting c.of-tally.ensures.none_finished ∙ change_desk _ _ _)
    c.settle.ensures.value c.settle.ensures.book_after c.settle.ensures.sums_after c.settle.ensures.finishes_after
