-- `refusing::row_of` meets its contract: the search stops at the first row that begins with the identity, or none does. Assumes nothing.
use Rattle.std.proofs.Common.{rules, arith, refl, eqb, get_or}
use borrow.Author.Tests.{tests}
use Rattle.std.proofs.lemmas.Iterator.{YieldsList-from_range}
use Rattle.std.proofs.lemmas.Iterator.Search.{position_from_yields_List}
use Rattle.tables.specs.View.{waiting_words}
use Rattle.refusing.specs.Seeking.{found_row}
use Rattle.refusing.proofs.row_of.Goals as goal

pub returns : goal.returns
returns c =
    let book = c.args.book.words.now in
    found_row c.args.identity c.args.count book
    (position_from_yields_List (λ i. eqb (get_or (waiting_words book i) 0 0) c.args.identity) _ _ _ c.position.ensures.ran
    (YieldsList-from_range 0 c.args.count c.args.count refl (omega arith)) (λ x b q k. search (rules, tests)))
