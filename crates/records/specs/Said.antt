-- What the code's answers say, in the rules' words.
use Rattle.std.specs.Prelude.{ℕ, ◌≡◌, refl, Some, None, take}
use Rattle.std.specs.declared.option.Option as code
use Rattle.std.proofs.Math.Option.{Option, none, some}
use Rattle.rules.specs.Partitions as rules
use Rattle.rules.specs.Events.{delivery, vote, change, read, Snapshot}
use Rattle.rules.specs.Records as text
use Rattle.rules.specs.Records.{opens, event, unreadable}
use Rattle.tables.specs.Judged.{lent}
use Rattle.tables.specs.Voted.{ballot}
use Rattle.masks.specs.Ballots.{says_yes}
use Rattle.masks.specs.declared.Ballot.{Ballot}
use Rattle.refusing.specs.Snapshots.{asked}
use Rattle.records.specs.declared.items.Delivery as code_delivery
use Rattle.records.specs.declared.Record.{Record}
use Rattle.records.specs.declared.Record.TheVariants.{Opening, Delivery, Vote, Change, Read}
use Rattle.records.specs.Kept.{kept_keys, kept_writes}

abbrev pub said : {A : Type 0} → code.Option A → Option A
said None = none
said (Some x) = some x

abbrev pub ballot_said : code.Option Ballot → Option rules.Ballot
ballot_said None = none
ballot_said (Some b) = some (ballot (says_yes b))

abbrev pub snapshot_said : code.Option (code.Option ℕ) → Option Snapshot
snapshot_said None = none
snapshot_said (Some st) = some (asked st)

abbrev pub one_said : Record → text.Record
one_said (Opening sizes) = opens sizes.partitions sizes.own sizes.k
one_said (Delivery d) =
    event (delivery (record { identity = d.identity; partitions = d.set; st = d.st; reads = kept_keys d.reads; writes = kept_writes d.writes }))
one_said (Vote identity partition b) = event (vote identity partition (ballot (says_yes b)))
one_said (Change k) = event (change k)
one_said (Read key st) = event (read key (asked st))

abbrev pub record_said : code.Option Record → text.Record
record_said None = unreadable
record_said (Some r) = one_said r

-- A delivery that is lent as it was read.
pub delivery_lent : (d : code_delivery.Delivery) → one_said (Delivery d)
    ≡ event (delivery (lent d.identity d.set d.st (kept_keys d.reads) (take d.writes.count d.writes.keys) (take d.writes.count d.writes.amounts)))
unfolding lent
delivery_lent d = refl
