-- `AnyRows::differ` meets its contract: the walk over the numbers below the count asks of each identity that it is not among those behind it.
use Rattle.std.proofs.Common.{rules, ◌∙◌, ◌+◌, not, arith}
use borrow.Author.Tests.{tests}
use Rattle.std.specs.Prelude.{refl}
use Rattle.std.proofs.lemmas.Iterator.{YieldsList-from_range}
use Rattle.std.proofs.lemmas.Iterator.Search.{all_from_yields_List}
use Rattle.rules.specs.Lists.{member}
use Rattle.checking.specs.Walks.{rest, different_all}
use Rattle.checking.specs.Whole.{identity_at, identities_pass}
use Rattle.checking.proofs.AnyRows.differ.Goals as goal

pub returns : goal.returns
unfolding identities_pass identity_at
returns c =
    all_from_yields_List (λ i. not (member (identity_at c.args.self.book.words.now i) (rest c.args.self.count (identity_at c.args.self.book.words.now) (i + 1)))) _ _ _ c.all.ensures.ran
    (YieldsList-from_range 0 c.args.self.count c.args.self.count refl (omega arith)) (λ x b q k. search (rules, tests))
    ∙ different_all (identity_at c.args.self.book.words.now) c.args.self.count
