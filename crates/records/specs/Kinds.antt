-- The kinds of record: too few fields, too many, and the right number of them, each read by what it is. Of a delivery the first nine items of its lists are kept.
use Rattle.std.specs.Prelude.{ℕ, false, List, [], ◌∷◌, ◌≡◌, refl, Some, None}
use Rattle.std.specs.declared.option.Option as code
use Rattle.std.proofs.Math.Option.{Option, none, some, bind}
use Rattle.rules.specs.Partitions.{Ballot}
use Rattle.rules.specs.Ledger.{Write}
use Rattle.rules.specs.Events.{delivery, vote, change, read, Snapshot}
use Rattle.rules.specs.Bytes.{number}
use Rattle.rules.specs.Records.{Record, opens, event, unreadable, or_unreadable, byte_limit, key_limit, word_limit, a_ballot, a_snapshot, a_write, list_of, opening_fields, delivery_fields, vote_fields, change_fields, read_fields}
use Rattle.laws.specs.Options.{given}
use Rattle.records.specs.Short.{short_record}
use Rattle.records.specs.Ends.{is_one}
use Rattle.records.specs.Lists.{short_list}

-- What some fields give, by a kind's rule.
unfoldable pub by_rule : (List (List ℕ) → Option Record) → List (List ℕ) → Record
by_rule rule fields = short_record (or_unreadable (rule fields))

-- "O partitions, own, k"
abbrev pub opening_of : code.Option ℕ → code.Option ℕ → code.Option ℕ → Record
opening_of None own k = unreadable
opening_of (Some p) None k = unreadable
opening_of (Some p) (Some own) None = unreadable
opening_of (Some p) (Some own) (Some k) = opens p own k

opening_read : (p own k : Option ℕ)
    → short_record (or_unreadable (bind p (λ p. bind own (λ own. bind k (λ k. some (opens p own k)))))) ≡ opening_of (given p) (given own) (given k)
unfolding short_record bind
opening_read none own k = refl
opening_read (some p) none k = refl
opening_read (some p) (some own) none = refl
opening_read (some p) (some own) (some k) = refl

pub opening_one : (x : List ℕ) → by_rule opening_fields (x ∷ []) ≡ unreadable
unfolding by_rule opening_fields short_record
opening_one x = refl

pub opening_two : (x y : List ℕ) → by_rule opening_fields (x ∷ y ∷ []) ≡ unreadable
unfolding by_rule opening_fields short_record
opening_two x y = refl

pub opening_more : (x y : List ℕ) (more : List (List ℕ)) → is_one more ≡ false → by_rule opening_fields (x ∷ y ∷ more) ≡ unreadable
unfolding by_rule opening_fields short_record
opening_more x y [] h = refl
opening_more x y (z ∷ []) h = cc
opening_more x y (z ∷ next ∷ rest) h = refl

pub opening_whole : (x y z : List ℕ)
    → by_rule opening_fields (x ∷ y ∷ z ∷ []) ≡ opening_of (given (number byte_limit x)) (given (number byte_limit y)) (given (number key_limit z))
unfolding by_rule opening_fields
opening_whole x y z = opening_read (number byte_limit x) (number byte_limit y) (number key_limit z)

pub ruleset openings = (opening_one, opening_two, opening_more, opening_whole)

-- "D identity, partition set, st, reads, writes as key=value"
abbrev pub delivery_of : code.Option ℕ → code.Option ℕ → code.Option ℕ → Option (List ℕ) → Option (List Write) → Record
delivery_of None p st reads writes = unreadable
delivery_of (Some i) None st reads writes = unreadable
delivery_of (Some i) (Some p) None reads writes = unreadable
delivery_of (Some i) (Some p) (Some st) none writes = unreadable
delivery_of (Some i) (Some p) (Some st) (some reads) none = unreadable
delivery_of (Some i) (Some p) (Some st) (some reads) (some writes) =
    event (delivery (record { identity = i; partitions = p; st = st; reads = reads; writes = writes }))

delivery_read : (i p st : Option ℕ) (reads : Option (List ℕ)) (writes : Option (List Write))
    → short_record (or_unreadable (bind i (λ identity. bind p (λ partitions. bind st (λ st. bind reads (λ reads. bind writes (λ writes.
    some (event (delivery (record { identity = identity; partitions = partitions; st = st; reads = reads; writes = writes }))))))))))
    ≡ delivery_of (given i) (given p) (given st) (short_list reads) (short_list writes)
unfolding short_record bind
delivery_read none p st reads writes = refl
delivery_read (some i) none st reads writes = refl
delivery_read (some i) (some p) none reads writes = refl
delivery_read (some i) (some p) (some st) none writes = refl
delivery_read (some i) (some p) (some st) (some reads) none = refl
delivery_read (some i) (some p) (some st) (some reads) (some writes) = refl

pub delivery_one : (v : List ℕ) → by_rule delivery_fields (v ∷ []) ≡ unreadable
unfolding by_rule delivery_fields short_record
delivery_one v = refl

pub delivery_two : (v w : List ℕ) → by_rule delivery_fields (v ∷ w ∷ []) ≡ unreadable
unfolding by_rule delivery_fields short_record
delivery_two v w = refl

pub delivery_three : (v w x : List ℕ) → by_rule delivery_fields (v ∷ w ∷ x ∷ []) ≡ unreadable
unfolding by_rule delivery_fields short_record
delivery_three v w x = refl

pub delivery_four : (v w x y : List ℕ) → by_rule delivery_fields (v ∷ w ∷ x ∷ y ∷ []) ≡ unreadable
unfolding by_rule delivery_fields short_record
delivery_four v w x y = refl

pub delivery_more : (v w x y : List ℕ) (more : List (List ℕ)) → is_one more ≡ false → by_rule delivery_fields (v ∷ w ∷ x ∷ y ∷ more) ≡ unreadable
unfolding by_rule delivery_fields short_record
delivery_more v w x y [] h = refl
delivery_more v w x y (z ∷ []) h = cc
delivery_more v w x y (z ∷ next ∷ rest) h = refl

pub delivery_whole : (v w x y z : List ℕ)
    → by_rule delivery_fields (v ∷ w ∷ x ∷ y ∷ z ∷ [])
    ≡ delivery_of (given (number word_limit v)) (given (number byte_limit w)) (given (number word_limit x)) (short_list (list_of (number key_limit) y))
    (short_list (list_of a_write z))
unfolding by_rule delivery_fields
delivery_whole v w x y z =
    delivery_read (number word_limit v) (number byte_limit w) (number word_limit x) (list_of (number key_limit) y) (list_of a_write z)

pub ruleset deliveries = (delivery_one, delivery_two, delivery_three, delivery_four, delivery_more, delivery_whole)

-- "V identity, partition, Y or N"
abbrev pub vote_of : code.Option ℕ → code.Option ℕ → Option Ballot → Record
vote_of None p b = unreadable
vote_of (Some i) None b = unreadable
vote_of (Some i) (Some p) none = unreadable
vote_of (Some i) (Some p) (some b) = event (vote i p b)

vote_read : (i p : Option ℕ) (b : Option Ballot)
    → short_record (or_unreadable (bind i (λ i. bind p (λ p. bind b (λ b. some (event (vote i p b))))))) ≡ vote_of (given i) (given p) b
unfolding short_record bind
vote_read none p b = refl
vote_read (some i) none b = refl
vote_read (some i) (some p) none = refl
vote_read (some i) (some p) (some b) = refl

pub vote_one : (x : List ℕ) → by_rule vote_fields (x ∷ []) ≡ unreadable
unfolding by_rule vote_fields short_record
vote_one x = refl

pub vote_two : (x y : List ℕ) → by_rule vote_fields (x ∷ y ∷ []) ≡ unreadable
unfolding by_rule vote_fields short_record
vote_two x y = refl

pub vote_more : (x y : List ℕ) (more : List (List ℕ)) → is_one more ≡ false → by_rule vote_fields (x ∷ y ∷ more) ≡ unreadable
unfolding by_rule vote_fields short_record
vote_more x y [] h = refl
vote_more x y (z ∷ []) h = cc
vote_more x y (z ∷ next ∷ rest) h = refl

pub vote_whole : (x y z : List ℕ) → by_rule vote_fields (x ∷ y ∷ z ∷ []) ≡ vote_of (given (number word_limit x)) (given (number byte_limit y)) (a_ballot z)
unfolding by_rule vote_fields
vote_whole x y z = vote_read (number word_limit x) (number byte_limit y) (a_ballot z)

pub ruleset votes = (vote_one, vote_two, vote_more, vote_whole)

-- "K k"
abbrev pub change_of : code.Option ℕ → Record
change_of None = unreadable
change_of (Some k) = event (change k)

change_read : (k : Option ℕ) → short_record (or_unreadable (bind k (λ k. some (event (change k))))) ≡ change_of (given k)
unfolding short_record bind
change_read none = refl
change_read (some k) = refl

pub change_more : (parts : List (List ℕ)) → is_one parts ≡ false → by_rule change_fields parts ≡ unreadable
unfolding by_rule change_fields short_record
change_more [] h = refl
change_more (x ∷ []) h = cc
change_more (x ∷ next ∷ rest) h = refl

pub change_whole : (x : List ℕ) → by_rule change_fields (x ∷ []) ≡ change_of (given (number key_limit x))
unfolding by_rule change_fields
change_whole x = change_read (number key_limit x)

pub ruleset changes = (change_more, change_whole)

-- "R key, st (`-` means SC)"
abbrev pub read_of : code.Option ℕ → Option Snapshot → Record
read_of None st = unreadable
read_of (Some key) none = unreadable
read_of (Some key) (some st) = event (read key st)

read_read : (key : Option ℕ) (st : Option Snapshot) → short_record (or_unreadable (bind key (λ key. bind st (λ st. some (event (read key st)))))) ≡ read_of (given key) st
unfolding short_record bind
read_read none st = refl
read_read (some key) none = refl
read_read (some key) (some st) = refl

pub read_one : (x : List ℕ) → by_rule read_fields (x ∷ []) ≡ unreadable
unfolding by_rule read_fields short_record
read_one x = refl

pub read_more : (x : List ℕ) (more : List (List ℕ)) → is_one more ≡ false → by_rule read_fields (x ∷ more) ≡ unreadable
unfolding by_rule read_fields short_record
read_more x [] h = refl
read_more x (y ∷ []) h = cc
read_more x (y ∷ next ∷ rest) h = refl

pub read_whole : (x y : List ℕ) → by_rule read_fields (x ∷ y ∷ []) ≡ read_of (given (number key_limit x)) (a_snapshot y)
unfolding by_rule read_fields
read_whole x y = read_read (number key_limit x) (a_snapshot y)

pub ruleset reads = (read_one, read_more, read_whole)
