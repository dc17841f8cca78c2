-- An opening is refused by its number, or the tables hold the opening.
use Rattle.feed.specs.Taking.{took_refused_opening, took_opening}
use Rattle.feed.specs.Answering.{memory}
use Rattle.feed.proofs.taking.open.Goals as goal

pub returns-in-Err : goal.returns-in-Err
returns-in-Err c fin =
    took_refused_opening _ _ _ (memory _ _ fin) c.in-Err.refusal c.in-Err.ensures c.write_refusal.ensures.wrote c.write_refusal.ensures.ends

pub returns-in-Ok : goal.returns-in-Ok
returns-in-Ok c fin = took_opening _ _ _ (memory _ _ fin) c.in-Ok.ensures c.write_opened.ensures.wrote c.write_opened.ensures.ends
