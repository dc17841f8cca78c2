-- What closing leaves, and the four counters stored behind it. Assumes nothing.
use Rattle.closing.specs.Off.{settles}
use Rattle.closing.proofs.settle.Goals as goal

pub returns-clause-book_after : goal.returns-clause-book_after
returns-clause-book_after c = (settles _ _ _ c.close-closed.ensures.after c.store_counters.ensures).1.0
