-- `AnyRows::have` meets its contract: the walk over the numbers from a place on looks for the identity in each row.
use Rattle.std.proofs.Common.{rules, ◌∙◌, ◌-◌}
use borrow.Author.Tests.{tests}
use Rattle.std.specs.Prelude.{refl, eqb}
use Rattle.std.proofs.lemmas.Iterator.{YieldsList-from_range}
use Rattle.std.proofs.lemmas.Iterator.Search.{any_from_yields_List}
use Rattle.checking.specs.Walks.{any_rest}
use Rattle.checking.specs.Whole.{identity_at}
use Rattle.checking.proofs.AnyRows.have.Goals as goal

pub returns : goal.returns
unfolding identity_at
returns c =
    any_from_yields_List (λ i. eqb c.args.identity (identity_at c.args.self.book.words.now i)) _ _ _ c.any.ensures.ran
    (YieldsList-from_range c.args.from c.args.self.count (c.args.self.count - c.args.from) refl refl) (λ x b q k. search (rules, tests))
    ∙ any_rest (eqb c.args.identity) (identity_at c.args.self.book.words.now) c.args.self.count c.args.from
