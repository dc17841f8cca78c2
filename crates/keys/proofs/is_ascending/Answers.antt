-- `keys::is_ascending` meets its contract: the library's walk over neighbours answers what the rules ask.
use Rattle.std.specs.Prelude.{ltb}
use Rattle.std.proofs.Common.{rules}
use borrow.Author.Tests.{tests}
use Rattle.std.proofs.lemmas.Fn.{always_returns_same}
use Rattle.keys.specs.Ascending.{sorted_ascends}
use Rattle.keys.proofs.is_ascending.Goals as goal

pub returns : goal.returns
returns c =
    sorted_ascends c.args.keys.now c.is_sorted_by.result
    (c.is_sorted_by.ensures.cases ltb (always_returns_same _ _ _ (λ a r q k. search (rules, tests))))
