-- 01, "The log as text": one line, and the record that it is.
use Rattle.std.specs.Prelude.{ℕ, Bool, false, cond, List, [], ◌∷◌, eqb, ltb, length}
use Rattle.std.proofs.Math.Option.{Option, none, some, bind}
use Rattle.rules.specs.Partitions.{Ballot, aye, nay}
use Rattle.rules.specs.Ledger.{Write}
use Rattle.rules.specs.Events.{Event, delivery, vote, change, read, Snapshot, at, newest}
use Rattle.rules.specs.Bytes.{split, number, signed, tab_byte, comma, minus, equals}

-- "Field limits: partition set, partition number and partition count 255; key and k 65,535; st and identity 4,294,967,295"
abbrev pub byte_limit : ℕ
byte_limit = 255

abbrev pub key_limit : ℕ
key_limit = 65_535

abbrev pub word_limit : ℕ
word_limit = 4_294_967_295

-- "A line over 512 bytes without its newline"
abbrev pub line_limit : ℕ
line_limit = 512

-- A record: an opening or an event, or a line that can't be read.
pub data Record : Type 0 where
  opens : ℕ → ℕ → ℕ → Record
  event : Event → Record
  unreadable : Record

-- "lists parted by commas, `-` for an empty list": every part must be readable.
unfoldable pub each_part : {A : Type 0} → (List ℕ → Option A) → List (List ℕ) → Option (List A)
each_part f [] = some []
each_part f (part ∷ parts) = bind (f part) (λ x. bind (each_part f parts) (λ xs. some (x ∷ xs)))

abbrev pub is_dash : List ℕ → Bool
is_dash [] = false
is_dash (b ∷ []) = eqb b minus
is_dash (b ∷ c ∷ bs) = false

unfoldable pub list_of : {A : Type 0} → (List ℕ → Option A) → List ℕ → Option (List A)
list_of f bs = cond (is_dash bs) (some []) (each_part f (split comma bs))

-- "writes as key=value"
unfoldable pub write_parts : List (List ℕ) → Option Write
write_parts [] = none
write_parts (k ∷ []) = none
write_parts (k ∷ v ∷ []) = bind (number key_limit k) (λ key. bind (signed v) (λ value. some (record { key = key; value = value })))
write_parts (k ∷ v ∷ more ∷ rest) = none

unfoldable pub a_write : List ℕ → Option Write
a_write bs = write_parts (split equals bs)

-- "Y or N"
unfoldable pub a_ballot : List ℕ → Option Ballot
a_ballot [] = none
a_ballot (b ∷ []) = cond (eqb b 89) (some aye) (cond (eqb b 78) (some nay) none)
a_ballot (b ∷ c ∷ bs) = none

-- "R key, st (`-` means SC)"
abbrev pub at_st : Option ℕ → Option Snapshot
at_st none = none
at_st (some st) = some (at st)

unfoldable pub a_snapshot : List ℕ → Option Snapshot
a_snapshot bs = cond (is_dash bs) (some newest) (at_st (number word_limit bs))

abbrev pub or_unreadable : Option Record → Record
or_unreadable none = unreadable
or_unreadable (some r) = r

-- "O partitions, own, k"
unfoldable pub opening_fields : List (List ℕ) → Option Record
opening_fields (p ∷ o ∷ k ∷ []) =
    bind (number byte_limit p) (λ partitions. bind (number byte_limit o) (λ own. bind (number key_limit k) (λ threshold. some (opens partitions own threshold))))
opening_fields [] = none
opening_fields (p ∷ []) = none
opening_fields (p ∷ o ∷ []) = none
opening_fields (p ∷ o ∷ k ∷ more ∷ rest) = none

-- "D identity, partition set, st, reads, writes as key=value"
unfoldable pub delivery_fields : List (List ℕ) → Option Record
delivery_fields (i ∷ p ∷ s ∷ r ∷ w ∷ []) =
    bind (number word_limit i) (λ identity. bind (number byte_limit p) (λ partitions. bind (number word_limit s) (λ st.
    bind (list_of (number key_limit) r) (λ reads. bind (list_of a_write w) (λ writes.
    some (event (delivery (record { identity = identity; partitions = partitions; st = st; reads = reads; writes = writes }))))))))
delivery_fields [] = none
delivery_fields (i ∷ []) = none
delivery_fields (i ∷ p ∷ []) = none
delivery_fields (i ∷ p ∷ s ∷ []) = none
delivery_fields (i ∷ p ∷ s ∷ r ∷ []) = none
delivery_fields (i ∷ p ∷ s ∷ r ∷ w ∷ more ∷ rest) = none

-- "V identity, partition, Y or N"
unfoldable pub vote_fields : List (List ℕ) → Option Record
vote_fields (i ∷ p ∷ y ∷ []) =
    bind (number word_limit i) (λ identity. bind (number byte_limit p) (λ partition. bind (a_ballot y) (λ b. some (event (vote identity partition b)))))
vote_fields [] = none
vote_fields (i ∷ []) = none
vote_fields (i ∷ p ∷ []) = none
vote_fields (i ∷ p ∷ y ∷ more ∷ rest) = none

-- "K k"
unfoldable pub change_fields : List (List ℕ) → Option Record
change_fields (k ∷ []) = bind (number key_limit k) (λ threshold. some (event (change threshold)))
change_fields [] = none
change_fields (k ∷ more ∷ rest) = none

-- "R key, st"
unfoldable pub read_fields : List (List ℕ) → Option Record
read_fields (k ∷ s ∷ []) = bind (number key_limit k) (λ key. bind (a_snapshot s) (λ st. some (event (read key st))))
read_fields [] = none
read_fields (k ∷ []) = none
read_fields (k ∷ s ∷ more ∷ rest) = none

-- "The first letter picks the record"
unfoldable pub by_letter : ℕ → List (List ℕ) → Option Record
by_letter letter fields =
    cond (eqb letter 79) (opening_fields fields)
    (cond (eqb letter 68) (delivery_fields fields)
    (cond (eqb letter 86) (vote_fields fields)
    (cond (eqb letter 75) (change_fields fields)
    (cond (eqb letter 82) (read_fields fields) none))))

unfoldable pub by_fields : List (List ℕ) → Option Record
by_fields [] = none
by_fields ([] ∷ fields) = none
by_fields ((letter ∷ []) ∷ fields) = by_letter letter fields
by_fields ((letter ∷ more ∷ rest) ∷ fields) = none

-- "fields parted by one tab"; a line over 512 bytes is unreadable whatever it holds
unfoldable pub record_of : List ℕ → Record
record_of line = cond (ltb line_limit (length line)) unreadable (or_unreadable (by_fields (split tab_byte line)))
