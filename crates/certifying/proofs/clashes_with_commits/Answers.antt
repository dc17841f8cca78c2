-- The walk over the numbers below SC - st asks of each version from SC down (`asked_any` of laws' Walks). Assumes nothing.
use Rattle.std.proofs.Common.{rules}
use borrow.Author.Tests.{tests}
use Rattle.laws.specs.Walks.{asked_any}
use Rattle.certifying.proofs.clashes_with_commits.Goals as goal

pub returns : goal.returns
returns c = asked_any _ _ _ (λ x b q k. search (rules, tests)) _ _ _ c.any.ensures.ran
