-- The line of a record, its newline left out, and the records that a line can hold.
use Rattle.std.specs.Prelude.{ℕ, ◌≤◌, ◌<◌, ◌^◌, map}
use mathlib.Core.List.{List, [], ◌∷◌, Memᴰ}
use Rattle.std.specs.Int.Signed.{mag}
use Rattle.rules.specs.Partitions.{Ballot, aye, nay}
use Rattle.rules.specs.Ledger.{Write, Transaction}
use Rattle.rules.specs.Events.{delivery, vote, change, read, Snapshot, at, newest}
use Rattle.rules.specs.Bytes.{tab_byte, comma, minus, equals, decimal_text, signed_text}
use Rattle.rules.specs.Records.{Record, opens, event, unreadable, byte_limit, key_limit, word_limit}
use Rattle.records.specs.Joined.{join}

-- "lists parted by commas, `-` for an empty list"
unfoldable pub list_text : List (List ℕ) → List ℕ
list_text [] = minus ∷ []
list_text (part ∷ parts) = join comma (part ∷ parts)

-- "writes as key=value"
unfoldable pub write_text : Write → List ℕ
write_text w = join equals (decimal_text w.key ∷ signed_text w.value ∷ [])

-- "Y or N"
abbrev pub ballot_text : Ballot → List ℕ
ballot_text aye = 89 ∷ []
ballot_text nay = 78 ∷ []

-- "st (`-` means SC)"
abbrev pub snapshot_text : Snapshot → List ℕ
snapshot_text (at st) = decimal_text st
snapshot_text newest = minus ∷ []

-- "O partitions, own, k; D identity, partition set, st, reads, writes [..]; V identity, partition, Y or N; K k; R key, st". No line says what can't be read.
unfoldable pub record_fields : Record → List (List ℕ)
record_fields (opens partitions own k) = (79 ∷ []) ∷ decimal_text partitions ∷ decimal_text own ∷ decimal_text k ∷ []
record_fields (event (delivery t)) =
    (68 ∷ []) ∷ decimal_text t.identity ∷ decimal_text t.partitions ∷ decimal_text t.st ∷ list_text (map decimal_text t.reads) ∷ list_text (map write_text t.writes) ∷ []
record_fields (event (vote identity partition b)) = (86 ∷ []) ∷ decimal_text identity ∷ decimal_text partition ∷ ballot_text b ∷ []
record_fields (event (change k)) = (75 ∷ []) ∷ decimal_text k ∷ []
record_fields (event (read key st)) = (82 ∷ []) ∷ decimal_text key ∷ snapshot_text st ∷ []
record_fields unreadable = []

-- "fields parted by one tab"
unfoldable pub record_text : Record → List ℕ
record_text r = join tab_byte (record_fields r)

-- "Field limits: partition set, partition number and partition count 255; key and k 65,535; st and identity 4,294,967,295; value signed 64-bit."
abbrev pub WithinWrite : Write → Type 0
WithinWrite w = (w.key ≤ key_limit) × (mag w.value < 2 ^ 63)

pub record WithinDelivery (t : Transaction) : Type 0 where
  pub identity : t.identity ≤ word_limit
  pub partitions : t.partitions ≤ byte_limit
  pub st : t.st ≤ word_limit
  pub reads : (key : ℕ) → Memᴰ key t.reads → key ≤ key_limit
  pub writes : (w : Write) → Memᴰ w t.writes → WithinWrite w

abbrev pub WithinSnapshot : Snapshot → Type 0
WithinSnapshot (at st) = st ≤ word_limit
WithinSnapshot newest = Unit {0}

abbrev pub Within : Record → Type 0
Within (opens partitions own k) = (partitions ≤ byte_limit) × (own ≤ byte_limit) × (k ≤ key_limit)
Within (event (delivery t)) = WithinDelivery t
Within (event (vote identity partition b)) = (identity ≤ word_limit) × (partition ≤ byte_limit)
Within (event (change k)) = k ≤ key_limit
Within (event (read key st)) = (key ≤ key_limit) × WithinSnapshot st
Within unreadable = Unit {0}
