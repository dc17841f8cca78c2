-- A delivery is refused by its number, or taken.
use Rattle.std.specs.Prelude.{◌≡◌, Err, refl}
use Rattle.std.proofs.Common.{rules}
use Rattle.engine.specs.Public.{delivery_refused, delivery_tables, delivery_accepting, delivery_taken}
use Rattle.engine.proofs.looking.deliver.Goals as goal

pub returns-in_err-check_delivery : goal.returns-in_err-check_delivery
returns-in_err-check_delivery c =
    let given : c.from_residual.result ≡ Err c.in_err-check_delivery.field-0.0 = search rules in
    rw given (delivery_refused _ _ _ _ _ _ _ _ _ _ c.in_err-check_delivery.ensures _ refl)

pub invariant_of-ledger : goal.invariant_of-ledger
invariant_of-ledger c =
    let tables = delivery_tables _ _ _ _ _ _ _ _ _ _ c.in_ok-check_delivery.ensures refl in
    record { long = tables.long; long_sums = tables.long_sums }

pub take_delivery-requires : goal.take_delivery-requires
take_delivery-requires c = delivery_accepting _ _ _ _ _ _ _ _ _ _ c.in_ok-check_delivery.ensures refl

pub returns : goal.returns
returns c = delivery_taken _ _ _ _ _ _ _ _ _ _ c.in_ok-check_delivery.ensures _ refl (search rules)
