-- `AnyRows::are_good` meets its contract: the walk over the numbers below the count asks of each row what the rules ask of its entry (`asked_all` of laws' Walks).
use Rattle.std.proofs.Common.{rules}
use borrow.Author.Tests.{tests}
use Rattle.laws.specs.Walks.{asked_all}
use Rattle.checking.specs.Whole.{waiting_pass}
use Rattle.checking.proofs.AnyRows.are_good.Goals as goal

pub returns : goal.returns
unfolding waiting_pass
returns c = asked_all _ _ _ (λ x b q k. search (rules, tests)) _ _ _ c.all.ensures.ran
