-- `keys::is_bad` meets its contract: a key over 1,023 is found, or none is and the order decides.
use Rattle.std.proofs.Common.{rules}
use borrow.Author.Tests.{tests}
use Rattle.std.proofs.lemmas.Iterator.{YieldsList-from_slice}
use Rattle.std.proofs.lemmas.Iterator.Search.{any_from_yields_List}
use Rattle.rules.specs.Keys.{bad_key}
use Rattle.keys.specs.Limits.{some_bad, none_bad}
use Rattle.keys.proofs.is_bad.Goals as goal

pub returns-then-any : goal.returns-then-any
returns-then-any c =
    some_bad c.args.keys.now (any_from_yields_List bad_key _ _ _ c.any.ensures.ran (YieldsList-from_slice c.args.keys.now cc) (λ x b q k. search (rules, tests))) c.if-any.true

pub returns-else-any : goal.returns-else-any
returns-else-any c =
    none_bad c.args.keys.now (any_from_yields_List bad_key _ _ _ c.any.ensures.ran (YieldsList-from_slice c.args.keys.now cc) (λ x b q k. search (rules, tests))) c.if-any.false c.is_ascending.ensures
