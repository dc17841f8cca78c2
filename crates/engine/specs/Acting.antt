-- What settling leaves, as the result of a delivery whose fate is known.
use Rattle.std.specs.Prelude.{ℕ, Bool, true, false, List, ◌≡◌, eqb, ℤ, Ok, Some, None, is_ok}
use Rattle.std.proofs.Common.{Result}
use Rattle.std.specs.declared.option.Option as code
use Rattle.rules.specs.Partitions.{only}
use Rattle.rules.specs.Ledger as rules
use Rattle.tables.specs.Closed.{Desk}
use Rattle.tables.specs.Settled.{closed_desk, settled_book}
use Rattle.masks.specs.declared.Ballot.{Ballot}
use Rattle.masks.specs.declared.Ballot.TheVariants.{Yes, No}
use Rattle.engine.specs.declared.answers.Reason.{Reason}
use Rattle.engine.specs.Fates.{send_if}
use Rattle.engine.specs.Delivering.{delivered_result}
use Rattle.engine.specs.Operations.{left}

-- The vote to send, one way out after the other.
pub sent_local : (l joins : Bool) → l ≡ true → None ≡ send_if l joins
sent_local l joins q = rw q

pub sent_yes : (l joins : Bool) → l ≡ false → joins ≡ true → Some Yes ≡ send_if l joins
sent_yes l joins q j = rw (q, j)

pub sent_no : (l joins : Bool) → l ≡ false → joins ≡ false → Some No ≡ send_if l joins
sent_no l joins q j = rw (q, j)

pub fate_settled : (c : rules.Clock) (set : ℕ) (fate : Result ℕ Reason) (d : Desk) {book : List ℕ} {sums : List ℤ} {fin : List ℕ} {send : code.Option Ballot} {m : ℕ}
    → send ≡ send_if (eqb set (only c.own)) (is_ok fate) → m ≡ (closed_desk c d).finished
    → book ≡ settled_book c d → sums ≡ (closed_desk c d).sums → fin ≡ (closed_desk c d).finishes
    → left (Ok (record { dc = c.dc; fate = fate; send = send; finishes = m })) book sums fin ≡ delivered_result c set fate d
unfolding delivered_result
fate_settled c set fate d sent told eb es ef = rw (eb, es, ef, told, sent)
