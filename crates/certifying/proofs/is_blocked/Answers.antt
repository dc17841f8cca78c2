-- The walk over the first n places asks of each waiting row (`asked_any` of laws' Walks). Assumes nothing.
use Rattle.std.proofs.Common.{rules}
use borrow.Author.Tests.{tests}
use Rattle.laws.specs.Walks.{asked_any}
use Rattle.certifying.proofs.is_blocked.Goals as goal

pub returns : goal.returns
returns c = asked_any _ _ _ (λ x b q k. search (rules, tests)) _ _ _ c.any.ensures.ran
