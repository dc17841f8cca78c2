-- A vote is refused by its number, or taken on the row of its identity.
use Rattle.std.specs.Prelude.{◌≡◌, Err, refl}
use Rattle.std.proofs.Common.{rules}
use Rattle.masks.specs.Ballots.{says_yes}
use Rattle.engine.specs.Public.{vote_refuses, vote_tables, vote_partition, votable_at, vote_takes_at}
use Rattle.engine.proofs.looking.vote.Goals as goal

pub returns-in_err-i : goal.returns-in_err-i
returns-in_err-i c =
    let given : c.from_residual.result ≡ Err c.in_err-i.field-0.0 = search rules in
    rw given (vote_refuses _ _ _ _ _ _ _ (c.in_err-i.ensures.number (says_yes c.args.ballot)) _ refl)

pub invariant_of-ledger : goal.invariant_of-ledger
invariant_of-ledger c =
    let tables = vote_tables _ _ _ _ _ _ _ (c.in_ok-i.ensures.number (says_yes c.args.ballot)) refl in
    record { long = tables.long; long_sums = tables.long_sums }

pub invariant_of-from : goal.invariant_of-from
invariant_of-from c = record { below_8 = vote_partition _ _ _ _ _ _ _ (c.in_ok-i.ensures.number (says_yes c.args.ballot)) refl }

pub take_vote-requires : goal.take_vote-requires
take_vote-requires c = votable_at _ _ _ _ _ _ _ (c.in_ok-i.ensures.number (says_yes c.args.ballot)) _ c.in_ok-i.ensures.row refl

pub returns : goal.returns
returns c =
    vote_takes_at _ _ _ _ _ _ _ (c.in_ok-i.ensures.number (says_yes c.args.ballot)) _ c.in_ok-i.ensures.row _ refl (search rules)
