-- A change is refused by its number, or taken.
use Rattle.std.specs.Prelude.{◌≡◌, Err, refl}
use Rattle.std.proofs.Common.{rules}
use Rattle.engine.specs.Public.{change_refuses, change_tables, change_readies, change_takes}
use Rattle.engine.proofs.looking.change.Goals as goal

pub returns-in_err-check_change : goal.returns-in_err-check_change
returns-in_err-check_change c =
    let given : c.from_residual.result ≡ Err c.in_err-check_change.field-0.0 = search rules in
    rw given (change_refuses _ _ _ _ _ c.in_err-check_change.ensures _ refl)

pub invariant_of-ledger : goal.invariant_of-ledger
invariant_of-ledger c =
    let tables = change_tables _ _ _ _ _ c.in_ok-check_change.ensures refl in
    record { long = tables.long; long_sums = tables.long_sums }

pub take_change-requires : goal.take_change-requires
take_change-requires c = change_readies _ _ _ _ _ c.in_ok-check_change.ensures refl

pub returns : goal.returns
returns c = change_takes _ _ _ _ _ c.in_ok-check_change.ensures _ refl (search rules)
