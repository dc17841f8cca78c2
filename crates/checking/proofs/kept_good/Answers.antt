-- `checking::kept_good` meets its contract: the walk over as many numbers as rows are kept asks of each row what the rules ask of its commit (`asked_all` of laws' Walks).
use Rattle.std.specs.List.{list_all}
use Rattle.std.proofs.Common.{rules, ℕ, min, ap, ◌∙◌, ◌≡◌, arith}
use borrow.Author.Tests.{tests}
use Rattle.laws.specs.Tabs.{tab}
use Rattle.laws.specs.Walks.{asked_all}
use Rattle.checking.specs.GoodRows.{sets_good}
use Rattle.checking.specs.Whole.{newest_words, kept_pass}
use Rattle.checking.proofs.kept_good.Goals as goal

pub returns : goal.returns
unfolding kept_pass newest_words
returns c =
    let kept : c.min.result ≡ min c.args.sc 64 = omega arith in
    asked_all sets_good (newest_words c.args.book.words.now c.args.sc) _ (λ x b q k. search (rules, tests)) _ _ _ c.all.ensures.ran
    ∙ ap (λ (n : ℕ). list_all sets_good (tab n (newest_words c.args.book.words.now c.args.sc))) kept
