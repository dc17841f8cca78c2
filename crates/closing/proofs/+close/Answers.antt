-- What closing the rest asks of the list without its head, from what a desk is fit for. Assumes nothing.
use Rattle.closing.specs.Off.{fit_next, off_falls, head_bytes}
use Rattle.closing.proofs.+close.Goals as goal

pub invariant_of-head-2 : goal.invariant_of-head-2
invariant_of-head-2 t c =
    let bytes = head_bytes _ _ c.if-t-eq0.false c.requires in
    record { byte_sets = rw (c.waiting_row.ensures, c.as_book.ensures) bytes }

pub close-requires : goal.close-requires
close-requires t c = (
  off_falls _ _ _ _ c.decreases c.if-t-eq0.false c.take_head-next.ensures.after,
  fit_next _ _ _ c.if-t-eq0.false c.requires c.take_head-next.ensures.after,
)
