-- What each public operation must give: the number that refuses it, or the rules' event on the tables. Each contract is one equation with these.
use Rattle.std.specs.Prelude.{ℕ, ◌+◌, Bool, cond, List, [], eqb, ℤ, length, get_or}
use Rattle.rules.specs.Delivery.{ticked}
use Rattle.rules.specs.Read.{read_at}
use Rattle.rules.specs.Events.{snapshot, with_k}
use Rattle.tables.specs.View.{books_view, clock_view, view}
use Rattle.tables.specs.Opened.{opened_book, opened_sums}
use Rattle.tables.specs.Judged.{row_fate}
use Rattle.std.specs.Prelude.{Ok, Err}
use Rattle.std.proofs.Common.{Result}
use Rattle.std.specs.declared.option.Option as code
use Rattle.refusing.specs.declared.refusals.Refusal.{Refusal}
use Rattle.refusing.specs.Told.{named}
use Rattle.refusing.specs.Snapshots.{asked}
use Rattle.engine.specs.declared.answers.Delivered.{Delivered}
use Rattle.engine.specs.declared.answers.Reading.{Reading}
use Rattle.engine.specs.declared.answers.Reading.TheVariants.{Refused, Value}
use Rattle.engine.specs.Fates.{fate_of}
use Rattle.refusing.specs.Operands.{delivery_number, vote_number, change_number, read_number, opening_number, index_of, waiting_identities}
use Rattle.engine.specs.Answers.{After}
use Rattle.engine.specs.Delivering.{delivery_desk, delivered_result}
use Rattle.engine.specs.Voting.{desk_before, voted_desk, settled_result}

-- A refusal leaves every table as it was.
abbrev pub left : {A : Type 0} → A → List ℕ → List ℤ → List ℕ → After A
left a book sums fin = record { answer = a; book = book; sums = sums; finishes = fin }

-- The delivery, where nothing refuses it.
unfoldable pub delivered_on : ℕ → ℕ → ℕ → List ℕ → List ℕ → List ℤ → List ℕ → List ℤ → List ℕ → After (Result Delivered Refusal)
delivered_on identity set st reads keys amounts book sums fin =
    let c = ticked (clock_view book) in
    let f = row_fate c.own c.dc (get_or book 2 0) (get_or book 5 0) set st reads keys book in
    delivered_result c set (fate_of f) (delivery_desk f identity set st (c.dc + c.k) reads keys amounts book sums fin)

unfoldable pub delivering : ℕ → ℕ → ℕ → List ℕ → List ℕ → List ℤ → List ℕ → List ℤ → List ℕ → After (Result Delivered Refusal)
delivering identity set st reads keys amounts book sums fin =
    let number = delivery_number identity set st reads keys amounts book sums (length fin) in
    cond (eqb number 0) (delivered_on identity set st reads keys amounts book sums fin) (left (Err (named number)) book sums fin)

unfoldable pub voted_on : ℕ → ℕ → Bool → List ℕ → List ℤ → List ℕ → After (Result ℕ Refusal)
voted_on identity p agrees book sums fin =
    settled_result (clock_view book) (voted_desk (index_of identity (waiting_identities book)) p agrees book sums fin)

unfoldable pub voting : ℕ → ℕ → Bool → List ℕ → List ℤ → List ℕ → After (Result ℕ Refusal)
voting identity p agrees book sums fin =
    let number = vote_number identity p agrees book sums (length fin) in
    cond (eqb number 0) (voted_on identity p agrees book sums fin) (left (Err (named number)) book sums fin)

unfoldable pub changed_on : ℕ → List ℕ → List ℤ → List ℕ → After (Result ℕ Refusal)
changed_on k book sums fin = settled_result (with_k k (clock_view book)) (desk_before book sums fin)

unfoldable pub changing : ℕ → List ℕ → List ℤ → List ℕ → After (Result ℕ Refusal)
changing k book sums fin =
    let number = change_number k book sums (length fin) in
    cond (eqb number 0) (changed_on k book sums fin) (left (Err (named number)) book sums fin)

-- A read lends no finish list and changes nothing.
unfoldable pub reading : ℕ → code.Option ℕ → List ℕ → List ℤ → Reading
reading key st book sums =
    let number = read_number key (asked st) book sums in
    let at_st = snapshot (asked st) (view book sums) in
    cond (eqb number 0) (Value (read_at key at_st (books_view (get_or book 2 0) book sums)) at_st) (Refused (named number))

-- "opening: sizes outside the table [..] a lent table too short"
unfoldable pub opened : ℕ → ℕ → ℕ → List ℕ → List ℤ → After (Result (Unit {0}) Refusal)
opened partitions own k book sums =
    let number = opening_number partitions own k book sums in
    cond (eqb number 0) (left (Ok tt) (opened_book book partitions own k) (opened_sums sums) []) (left (Err (named number)) book sums [])
