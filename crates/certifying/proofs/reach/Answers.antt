-- The walk from the back asks of each waiting row whether it may not be passed, and stops where one answers so (`reached_back` of `specs/Walks.antt`). Assumes nothing.
use Rattle.std.proofs.Common.{rules}
use borrow.Author.Tests.{tests}
use Rattle.certifying.specs.Walks.{reached_back}
use Rattle.certifying.proofs.reach.Goals as goal

pub returns : goal.returns
returns c = reached_back _ _ _ (λ x b q k. search (rules, tests)) _ _ _ _ c.rposition.ensures.ran (search (rules, tests))
