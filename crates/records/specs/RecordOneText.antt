-- A record that was read has no second text, its numbers are within their limits, and its line is no longer than a line may be.
use Rattle.std.specs.Prelude.{ℕ, ◌≤◌, true, ◌≡◌, refl, eqb, ltb, length}
use mathlib.Core.List.{List, [], ◌∷◌}
use Rattle.std.proofs.Common.{sym, ap, ap₂, subst, ◌∙◌, eqb-true, ltb-false}
use Rattle.std.proofs.Math.Option.{Option, none, some, bind}
use Rattle.rules.specs.Partitions.{Ballot, aye, nay}
use Rattle.rules.specs.Ledger.{Write}
use Rattle.rules.specs.Events.{delivery, vote, change, read, Snapshot, at, newest}
use Rattle.rules.specs.Bytes.{split, number, signed, tab_byte, equals, decimal_text, signed_text}
use Rattle.rules.specs.Records.{Record, opens, event, unreadable, or_unreadable, byte_limit, key_limit, word_limit, line_limit, write_parts, a_write, is_dash, a_ballot, at_st, a_snapshot, list_of, opening_fields, delivery_fields, vote_fields, change_fields, read_fields, by_letter, by_fields, record_of}
use Rattle.laws.specs.Tests as tests
use Rattle.numerals.specs.Texts.{numeral, number_one_text}
use Rattle.numerals.specs.Amounts.{signed_one_text, signed_low}
use Rattle.records.specs.Joined.{join, join_split}
use Rattle.records.specs.RecordTexts.{write_text, ballot_text, snapshot_text, record_fields, record_text, WithinWrite, WithinSnapshot, Within}
use Rattle.records.specs.ListTexts.{nothing, chained, dash_text, list_one_text}

-- A number within its limit, a write.
number_says : (limit : ℕ) (bs : List ℕ) (v : ℕ) → number limit bs ≡ some v → (bs ≡ decimal_text v) × (v ≤ limit)
number_says limit bs v h = (number_one_text limit v bs h, (numeral limit bs v h).low)

write_parts_say : (parts : List (List ℕ)) (w : Write) → write_parts parts ≡ some w → (parts ≡ decimal_text w.key ∷ signed_text w.value ∷ []) × WithinWrite w
unfolding write_parts
write_parts_say [] w h = nothing w h
write_parts_say (k ∷ []) w h = nothing w h
write_parts_say (k ∷ v ∷ []) w h =
    chained (number key_limit k) (λ a. bind (signed v) (λ b. some (record { key = a; value = b }))) w h
    (λ a key h. chained (signed v) (λ b. some (record { key = a; value = b })) w h
    (λ b value h. let first = number_says key_limit k a key in
    let read : Write = record { key = a; value = b } in
    let same : read ≡ w = cc in
    subst (λ (w : Write). (k ∷ v ∷ [] ≡ decimal_text w.key ∷ signed_text w.value ∷ []) × WithinWrite w) same
    (ap₂ (λ (x y : List ℕ). x ∷ y ∷ []) first.0 (signed_one_text v b value), (first.1, signed_low v b value))))
write_parts_say (k ∷ v ∷ more ∷ rest) w h = nothing w h

write_says : (bs : List ℕ) (w : Write) → a_write bs ≡ some w → (bs ≡ write_text w) × WithinWrite w
unfolding a_write write_text
write_says bs w h =
    let parts = write_parts_say (split equals bs) w h in
    (sym (join_split equals bs) ∙ ap (join equals) parts.0, parts.1)

pub write_one_text : (bs : List ℕ) (w : Write) → a_write bs ≡ some w → bs ≡ write_text w
write_one_text bs w h = (write_says bs w h).0

-- A field of one byte.
ballot_says : (bs : List ℕ) (b : Ballot) → a_ballot bs ≡ some b → bs ≡ ballot_text b
unfolding a_ballot
ballot_says [] b h = nothing b h
ballot_says (x ∷ []) b h =
    tests.split (eqb x 89)
    (λ q. let found = rw q at h in let same : aye ≡ b = cc in
    subst (λ (b : Ballot). x ∷ [] ≡ ballot_text b) same (ap (λ (n : ℕ). n ∷ []) (eqb-true x 89 q)))
    (λ q. tests.split (eqb x 78)
    (λ r. let found = rw (q, r) at h in let same : nay ≡ b = cc in
    subst (λ (b : Ballot). x ∷ [] ≡ ballot_text b) same (ap (λ (n : ℕ). n ∷ []) (eqb-true x 78 r)))
    (λ r. nothing b (rw (q, r) at h)))
ballot_says (x ∷ y ∷ more) b h = nothing b h

at_says : (bs : List ℕ) (st : Snapshot) → at_st (number word_limit bs) ≡ some st → (bs ≡ snapshot_text st) × WithinSnapshot st
at_says bs st h = at_read (number word_limit bs) refl h
  where
    at_read : (o : Option ℕ) → number word_limit bs ≡ o → at_st o ≡ some st → (bs ≡ snapshot_text st) × WithinSnapshot st
    at_read none e h = nothing st h
    at_read (some v) e h =
        let same : at v ≡ st = cc in
        subst (λ (st : Snapshot). (bs ≡ snapshot_text st) × WithinSnapshot st) same (number_says word_limit bs v e)

snapshot_says : (bs : List ℕ) (st : Snapshot) → a_snapshot bs ≡ some st → (bs ≡ snapshot_text st) × WithinSnapshot st
unfolding a_snapshot
snapshot_says bs st h =
    tests.split (is_dash bs)
    (λ q. let found = rw q at h in let same : newest ≡ st = cc in
    subst (λ (st : Snapshot). (bs ≡ snapshot_text st) × WithinSnapshot st) same (dash_text bs q, tt))
    (λ q. at_says bs st (rw q at h))

-- What the fields that were read say of the record, the letter in front.
pub record Says (fields : List (List ℕ)) (r : Record) : Type 0 where
  pub text : fields ≡ record_fields r
  pub within : Within r

says_this : (fields : List (List ℕ)) (s r : Record) → some s ≡ some r → fields ≡ record_fields s → Within s → Says fields r
says_this fields s r h text within =
    let same : s ≡ r = cc in
    subst (λ (r : Record). Says fields r) same (record { text = text; within = within })

opening_says : (fields : List (List ℕ)) (r : Record) → opening_fields fields ≡ some r → Says ((79 ∷ []) ∷ fields) r
unfolding opening_fields record_fields
opening_says [] r h = nothing r h
opening_says (p ∷ []) r h = nothing r h
opening_says (p ∷ o ∷ []) r h = nothing r h
opening_says (p ∷ o ∷ k ∷ []) r h =
    chained (number byte_limit p) (λ a. bind (number byte_limit o) (λ b. bind (number key_limit k) (λ c. some (opens a b c)))) r h
    (λ a partitions h. chained (number byte_limit o) (λ b. bind (number key_limit k) (λ c. some (opens a b c))) r h
    (λ b own h. chained (number key_limit k) (λ c. some (opens a b c)) r h
    (λ c threshold h. let first = number_says byte_limit p a partitions in
    let second = number_says byte_limit o b own in
    let third = number_says key_limit k c threshold in
    says_this ((79 ∷ []) ∷ p ∷ o ∷ k ∷ []) (opens a b c) r h (rw (first.0, second.0, third.0)) (first.1, second.1, third.1))))
opening_says (p ∷ o ∷ k ∷ more ∷ rest) r h = nothing r h

abbrev delivered : ℕ → ℕ → ℕ → List ℕ → List Write → Record
delivered i p s r w = event (delivery (record { identity = i; partitions = p; st = s; reads = r; writes = w }))

delivery_says : (fields : List (List ℕ)) (r : Record) → delivery_fields fields ≡ some r → Says ((68 ∷ []) ∷ fields) r
unfolding delivery_fields record_fields
delivery_says [] r h = nothing r h
delivery_says (i ∷ []) r h = nothing r h
delivery_says (i ∷ p ∷ []) r h = nothing r h
delivery_says (i ∷ p ∷ s ∷ []) r h = nothing r h
delivery_says (i ∷ p ∷ s ∷ k ∷ []) r h = nothing r h
delivery_says (i ∷ p ∷ s ∷ k ∷ w ∷ []) r h =
    chained (number word_limit i) (λ a. bind (number byte_limit p) (λ b. bind (number word_limit s) (λ c.
    bind (list_of (number key_limit) k) (λ d. bind (list_of a_write w) (λ e. some (delivered a b c d e)))))) r h
    (λ a identity h. chained (number byte_limit p) (λ b. bind (number word_limit s) (λ c.
    bind (list_of (number key_limit) k) (λ d. bind (list_of a_write w) (λ e. some (delivered a b c d e))))) r h
    (λ b partitions h. chained (number word_limit s) (λ c.
    bind (list_of (number key_limit) k) (λ d. bind (list_of a_write w) (λ e. some (delivered a b c d e)))) r h
    (λ c st h. chained (list_of (number key_limit) k) (λ d. bind (list_of a_write w) (λ e. some (delivered a b c d e))) r h
    (λ d reads h. chained (list_of a_write w) (λ e. some (delivered a b c d e)) r h
    (λ e writes h. let first = number_says word_limit i a identity in
    let second = number_says byte_limit p b partitions in
    let third = number_says word_limit s c st in
    let fourth = list_one_text (number key_limit) decimal_text (λ v. v ≤ key_limit) (number_says key_limit) k d reads in
    let fifth = list_one_text a_write write_text WithinWrite write_says w e writes in
    says_this ((68 ∷ []) ∷ i ∷ p ∷ s ∷ k ∷ w ∷ []) (delivered a b c d e) r h (rw (first.0, second.0, third.0, fourth.0, fifth.0))
    (record { identity = first.1; partitions = second.1; st = third.1; reads = fourth.1; writes = fifth.1 }))))))
delivery_says (i ∷ p ∷ s ∷ k ∷ w ∷ more ∷ rest) r h = nothing r h

vote_says : (fields : List (List ℕ)) (r : Record) → vote_fields fields ≡ some r → Says ((86 ∷ []) ∷ fields) r
unfolding vote_fields record_fields
vote_says [] r h = nothing r h
vote_says (i ∷ []) r h = nothing r h
vote_says (i ∷ p ∷ []) r h = nothing r h
vote_says (i ∷ p ∷ y ∷ []) r h =
    chained (number word_limit i) (λ a. bind (number byte_limit p) (λ b. bind (a_ballot y) (λ c. some (event (vote a b c))))) r h
    (λ a identity h. chained (number byte_limit p) (λ b. bind (a_ballot y) (λ c. some (event (vote a b c)))) r h
    (λ b partition h. chained (a_ballot y) (λ c. some (event (vote a b c))) r h
    (λ c ballot h. let first = number_says word_limit i a identity in
    let second = number_says byte_limit p b partition in
    says_this ((86 ∷ []) ∷ i ∷ p ∷ y ∷ []) (event (vote a b c)) r h (rw (first.0, second.0, ballot_says y c ballot)) (first.1, second.1))))
vote_says (i ∷ p ∷ y ∷ more ∷ rest) r h = nothing r h

change_says : (fields : List (List ℕ)) (r : Record) → change_fields fields ≡ some r → Says ((75 ∷ []) ∷ fields) r
unfolding change_fields record_fields
change_says [] r h = nothing r h
change_says (k ∷ []) r h =
    chained (number key_limit k) (λ a. some (event (change a))) r h
    (λ a threshold h. let first = number_says key_limit k a threshold in
    says_this ((75 ∷ []) ∷ k ∷ []) (event (change a)) r h (rw first.0) first.1)
change_says (k ∷ more ∷ rest) r h = nothing r h

read_says : (fields : List (List ℕ)) (r : Record) → read_fields fields ≡ some r → Says ((82 ∷ []) ∷ fields) r
unfolding read_fields record_fields
read_says [] r h = nothing r h
read_says (k ∷ []) r h = nothing r h
read_says (k ∷ s ∷ []) r h =
    chained (number key_limit k) (λ a. bind (a_snapshot s) (λ b. some (event (read a b)))) r h
    (λ a key h. chained (a_snapshot s) (λ b. some (event (read a b))) r h
    (λ b st h. let first = number_says key_limit k a key in
    let second = snapshot_says s b st in
    says_this ((82 ∷ []) ∷ k ∷ s ∷ []) (event (read a b)) r h (rw (first.0, second.0)) (first.1, second.1)))
read_says (k ∷ s ∷ more ∷ rest) r h = nothing r h

-- "The first letter picks the record"
picked : (letter l : ℕ) (fields : List (List ℕ)) (r : Record) → eqb letter l ≡ true → Says ((l ∷ []) ∷ fields) r → Says ((letter ∷ []) ∷ fields) r
picked letter l fields r q says = subst (λ (n : ℕ). Says ((n ∷ []) ∷ fields) r) (sym (eqb-true letter l q)) says

letter_says : (letter : ℕ) (fields : List (List ℕ)) (r : Record) → by_letter letter fields ≡ some r → Says ((letter ∷ []) ∷ fields) r
unfolding by_letter
letter_says letter fields r h =
    tests.split (eqb letter 79) (λ q. picked letter 79 fields r q (opening_says fields r (rw q at h)))
    (λ o. tests.split (eqb letter 68) (λ q. picked letter 68 fields r q (delivery_says fields r (rw (o, q) at h)))
    (λ d. tests.split (eqb letter 86) (λ q. picked letter 86 fields r q (vote_says fields r (rw (o, d, q) at h)))
    (λ v. tests.split (eqb letter 75) (λ q. picked letter 75 fields r q (change_says fields r (rw (o, d, v, q) at h)))
    (λ k. tests.split (eqb letter 82) (λ q. picked letter 82 fields r q (read_says fields r (rw (o, d, v, k, q) at h)))
    (λ q. nothing r (rw (o, d, v, k, q) at h))))))

fields_say : (fields : List (List ℕ)) (r : Record) → by_fields fields ≡ some r → Says fields r
unfolding by_fields
fields_say [] r h = nothing r h
fields_say ([] ∷ fields) r h = nothing r h
fields_say ((letter ∷ []) ∷ fields) r h = letter_says letter fields r h
fields_say ((letter ∷ more ∷ rest) ∷ fields) r h = nothing r h

readable : (o : Option Record) (r : Record) → or_unreadable o ≡ r → (r ≡ unreadable → ⊥) → o ≡ some r
readable none r h n = absurd (n (sym h))
readable (some s) r h n = ap some h

line_says : (line : List ℕ) (r : Record) → record_of line ≡ r → (r ≡ unreadable → ⊥) → Says (split tab_byte line) r
unfolding record_of
line_says line r h n =
    tests.split (ltb line_limit (length line))
    (λ q. absurd (n (sym (rw q at h))))
    (λ q. fields_say (split tab_byte line) r (readable (by_fields (split tab_byte line)) r (rw q at h) n))

pub record_one_text : (line : List ℕ) (r : Record) → record_of line ≡ r → (r ≡ unreadable → ⊥) → line ≡ record_text r
unfolding record_text
record_one_text line r h n = sym (join_split tab_byte line) ∙ ap (join tab_byte) (line_says line r h n).text

pub record_within : (line : List ℕ) (r : Record) → record_of line ≡ r → (r ≡ unreadable → ⊥) → Within r
record_within line r h n = (line_says line r h n).within

-- Its line is no longer than a line may be.
line_low : (line : List ℕ) (r : Record) → record_of line ≡ r → (r ≡ unreadable → ⊥) → length line ≤ line_limit
unfolding record_of
line_low line r h n =
    tests.split (ltb line_limit (length line)) (λ q. absurd (n (sym (rw q at h)))) (λ q. ltb-false line_limit (length line) q)

pub record_length : (line : List ℕ) (r : Record) → record_of line ≡ r → (r ≡ unreadable → ⊥) → length (record_text r) ≤ line_limit
record_length line r h n = subst (λ (l : List ℕ). length l ≤ line_limit) (record_one_text line r h n) (line_low line r h n)
