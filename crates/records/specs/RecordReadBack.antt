-- What the writer writes of a record is read back as that record.
use Rattle.std.specs.Prelude.{ℕ, ◌≤◌, false, ◌≡◌, refl, map, length}
use mathlib.Core.List.{List, [], ◌∷◌}
use Rattle.std.proofs.Common.{arith, le-ltb}
use Rattle.std.proofs.Math.Option.{some, bind}
use Rattle.rules.specs.Lists.{member}
use Rattle.rules.specs.Partitions.{aye, nay}
use Rattle.rules.specs.Ledger.{Write}
use Rattle.rules.specs.Events.{Event, delivery, vote, change, read, Snapshot, at, newest}
use Rattle.rules.specs.Bytes.{split, number, tab_byte, comma, equals, decimal_text, signed_text}
use Rattle.rules.specs.Records.{Record, opens, event, unreadable, byte_limit, key_limit, word_limit, line_limit, write_parts, a_write, a_ballot, a_snapshot, opening_fields, delivery_fields, vote_fields, change_fields, read_fields, by_letter, by_fields, record_of}
use Rattle.numerals.specs.Decimal.{decimal_some, decimal_digits, decimal_absent, tab_no_digit, comma_no_digit, equals_no_digit}
use Rattle.numerals.specs.Texts.{number_read_back}
use Rattle.numerals.specs.Amounts.{signed_text_absent, signed_read_back}
use Rattle.records.specs.Joined.{join, NoneHas, split_join, join_lacks}
use Rattle.records.specs.RecordTexts.{list_text, write_text, ballot_text, snapshot_text, record_fields, record_text, WithinWrite, WithinSnapshot, Within}
use Rattle.records.specs.ListTexts.{Begins, digits_begin, joined_begins, begun_no_dash, Item, list_read_back}

-- A key, and a write.
decimal_begins : (v : ℕ) → Begins (decimal_text v)
decimal_begins v = digits_begin (decimal_text v) (decimal_some v) (decimal_digits v)

key_item : (key : ℕ) → key ≤ key_limit → Item (number key_limit) decimal_text key
key_item key h =
    record {
      back = number_read_back key key_limit h;
      no_comma = decimal_absent comma key comma_no_digit;
      digit = decimal_begins key;
    }

write_lacks : (c : ℕ) (w : Write) → (c ≡ equals → ⊥) → member c (decimal_text w.key) ≡ false → member c (signed_text w.value) ≡ false → member c (write_text w) ≡ false
unfolding write_text
write_lacks c w n key value = join_lacks c equals (decimal_text w.key ∷ signed_text w.value ∷ []) n (key, (value, tt))

pub write_read_back : (w : Write) → WithinWrite w → a_write (write_text w) ≡ some w
unfolding a_write write_text write_parts bind
write_read_back w h =
    let parts = split_join equals (decimal_text w.key) (signed_text w.value ∷ [])
    (decimal_absent equals w.key equals_no_digit, (signed_text_absent equals w.value equals_no_digit (λ e. omega arith), tt)) in
    rw (parts, number_read_back w.key key_limit h.0, signed_read_back w.value h.1)

write_item : (w : Write) → WithinWrite w → Item a_write write_text w
unfolding write_text
write_item w h =
    record {
      back = write_read_back w h;
      no_comma = write_lacks comma w (λ e. omega arith) (decimal_absent comma w.key comma_no_digit) (signed_text_absent comma w.value comma_no_digit (λ e. omega arith));
      digit = joined_begins equals (decimal_text w.key) (signed_text w.value ∷ []) (decimal_begins w.key);
    }

-- A field of one byte.
snapshot_read_back : (st : Snapshot) → WithinSnapshot st → a_snapshot (snapshot_text st) ≡ some st
unfolding a_snapshot
snapshot_read_back (at st) h = rw (begun_no_dash (decimal_text st) (decimal_begins st), number_read_back st word_limit h)
snapshot_read_back newest h = refl

-- The fields.
fields_read_back : (r : Record) → Within r → (r ≡ unreadable → ⊥) → by_fields (record_fields r) ≡ some r
unfolding by_fields by_letter record_fields opening_fields delivery_fields vote_fields change_fields read_fields a_ballot bind
fields_read_back (opens partitions own k) h n =
    rw (number_read_back partitions byte_limit h.0, number_read_back own byte_limit h.1, number_read_back k key_limit h.2)
fields_read_back (event (delivery t)) h n =
    rw (
      number_read_back t.identity word_limit h.identity,
      number_read_back t.partitions byte_limit h.partitions,
      number_read_back t.st word_limit h.st,
      list_read_back (number key_limit) decimal_text t.reads (λ key m. key_item key (h.reads key m)),
      list_read_back a_write write_text t.writes (λ w m. write_item w (h.writes w m)),
    )
fields_read_back (event (vote identity partition aye)) h n = rw (number_read_back identity word_limit h.0, number_read_back partition byte_limit h.1)
fields_read_back (event (vote identity partition nay)) h n = rw (number_read_back identity word_limit h.0, number_read_back partition byte_limit h.1)
fields_read_back (event (change k)) h n = rw (number_read_back k key_limit h)
fields_read_back (event (read key st)) h n = rw (number_read_back key key_limit h.0, snapshot_read_back st h.1)
fields_read_back unreadable h n = absurd (n refl)

-- None of them has a tab.
number_untabbed : (v : ℕ) → member tab_byte (decimal_text v) ≡ false
number_untabbed v = decimal_absent tab_byte v tab_no_digit

write_untabbed : (w : Write) → member tab_byte (write_text w) ≡ false
write_untabbed w = write_lacks tab_byte w (λ e. omega arith) (number_untabbed w.key) (signed_text_absent tab_byte w.value tab_no_digit (λ e. omega arith))

each_untabbed : {A : Type 0} (text : A → List ℕ) → ((x : A) → member tab_byte (text x) ≡ false) → (xs : List A) → NoneHas tab_byte (map text xs)
each_untabbed text k [] = tt
each_untabbed text k (x ∷ xs) = (k x, each_untabbed text k xs)

list_untabbed : {A : Type 0} (text : A → List ℕ) → ((x : A) → member tab_byte (text x) ≡ false) → (xs : List A) → member tab_byte (list_text (map text xs)) ≡ false
unfolding list_text
list_untabbed text k [] = refl
list_untabbed text k (x ∷ xs) = join_lacks tab_byte comma (map text (x ∷ xs)) (λ e. omega arith) (each_untabbed text k (x ∷ xs))

snapshot_untabbed : (st : Snapshot) → member tab_byte (snapshot_text st) ≡ false
snapshot_untabbed (at st) = number_untabbed st
snapshot_untabbed newest = refl

fields_untabbed : (r : Record) → NoneHas tab_byte (record_fields r)
unfolding record_fields
fields_untabbed (opens partitions own k) = (refl, (number_untabbed partitions, (number_untabbed own, (number_untabbed k, tt))))
fields_untabbed (event (delivery t)) = (
  refl,
  (
    number_untabbed t.identity,
    (
      number_untabbed t.partitions,
      (
        number_untabbed t.st,
        (list_untabbed decimal_text number_untabbed t.reads, (list_untabbed write_text write_untabbed t.writes, tt)),
      ),
    ),
  ),
)
fields_untabbed (event (vote identity partition aye)) = (refl, (number_untabbed identity, (number_untabbed partition, (refl, tt))))
fields_untabbed (event (vote identity partition nay)) = (refl, (number_untabbed identity, (number_untabbed partition, (refl, tt))))
fields_untabbed (event (change k)) = (refl, (number_untabbed k, tt))
fields_untabbed (event (read key st)) = (refl, (number_untabbed key, (snapshot_untabbed st, tt)))
fields_untabbed unreadable = tt

split_fields : (r : Record) → (r ≡ unreadable → ⊥) → split tab_byte (record_text r) ≡ record_fields r
unfolding record_text record_fields
split_fields (opens partitions own k) n = split_join tab_byte (79 ∷ []) (decimal_text partitions ∷ decimal_text own ∷ decimal_text k ∷ []) (fields_untabbed (opens partitions own k))
split_fields (event (delivery t)) n =
    split_join tab_byte (68 ∷ [])
    (decimal_text t.identity ∷ decimal_text t.partitions ∷ decimal_text t.st ∷ list_text (map decimal_text t.reads) ∷ list_text (map write_text t.writes) ∷ [])
    (fields_untabbed (event (delivery t)))
split_fields (event (vote identity partition b)) n =
    split_join tab_byte (86 ∷ []) (decimal_text identity ∷ decimal_text partition ∷ ballot_text b ∷ []) (fields_untabbed (event (vote identity partition b)))
split_fields (event (change k)) n = split_join tab_byte (75 ∷ []) (decimal_text k ∷ []) (fields_untabbed (event (change k)))
split_fields (event (read key st)) n = split_join tab_byte (82 ∷ []) (decimal_text key ∷ snapshot_text st ∷ []) (fields_untabbed (event (read key st)))
split_fields unreadable n = absurd (n refl)

readable_read_back : (r : Record) → Within r → length (record_text r) ≤ line_limit → (r ≡ unreadable → ⊥) → record_of (record_text r) ≡ r
unfolding record_of
readable_read_back r h l n = rw (le-ltb line_limit (length (record_text r)) l, split_fields r n, fields_read_back r h n)

opens_readable : (partitions own k : ℕ) → opens partitions own k ≡ unreadable → ⊥
opens_readable partitions own k h = let z : ◌≡◌ {A = ℕ} 0 1 = cc in omega arith

event_readable : (e : Event) → event e ≡ unreadable → ⊥
event_readable e h = let z : ◌≡◌ {A = ℕ} 0 1 = cc in omega arith

pub record_read_back : (r : Record) → Within r → length (record_text r) ≤ line_limit → record_of (record_text r) ≡ r
unfolding record_of record_text record_fields join split by_fields
record_read_back (opens partitions own k) h l = readable_read_back (opens partitions own k) h l (opens_readable partitions own k)
record_read_back (event e) h l = readable_read_back (event e) h l (event_readable e)
record_read_back unreadable h l = refl
