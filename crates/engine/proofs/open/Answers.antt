-- Opening is refused by its number, or the tables are opened.
use Rattle.std.specs.Prelude.{◌≡◌, Err, refl}
use Rattle.std.proofs.Common.{rules}
use Rattle.engine.specs.Public.{opening_refuses, opening_long, opening_takes}
use Rattle.engine.proofs.open.Goals as goal

pub returns-in_err-check_opening : goal.returns-in_err-check_opening
returns-in_err-check_opening c =
    let given : c.from_residual.result ≡ Err c.in_err-check_opening.field-0.0 = search rules in
    rw given (opening_refuses _ _ _ _ _ _ c.in_err-check_opening.ensures _ refl)

pub invariant_of-ledger : goal.invariant_of-ledger
invariant_of-ledger c =
    let tables = opening_long _ _ _ _ _ _ c.in_ok-check_opening.ensures refl in
    record { long = tables.long; long_sums = tables.long_sums }

pub returns : goal.returns
returns c = opening_takes _ _ _ _ _ _ c.in_ok-check_opening.ensures refl (search rules) (search rules)
