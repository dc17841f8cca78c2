-- 01, "Numbers the desk hands back": each number of an event with its condition, in the order in which they are looked at.
use Rattle.std.specs.Prelude.{ℕ, Bool, false, not, cond, ◌&&◌, ◌||◌, List, [], ◌∷◌, eqb, leb, ltb, length}
use Rattle.std.specs.List.{list_any}
use Rattle.std.proofs.Math.Option.{Option, none, some}
use Rattle.rules.specs.Sizes.{most_waiting, most_dc, most_k, floor}
use Rattle.rules.specs.Partitions.{bad_set, other, heard_from}
use Rattle.rules.specs.Keys.{bad_key, bad_keys, too_many}
use Rattle.rules.specs.Ledger.{Transaction, Entry, State, keys_of, sizes_fit}
use Rattle.rules.specs.Soundness.{sound}
use Rattle.rules.specs.Events.{Event, delivery, vote, change, read, snapshot, refused, Step, accepted}

-- A number, and whether its condition holds.
pub record Check : Type 0 where
  pub number : ℕ
  pub holds : Bool

-- "given only when its condition holds and no earlier check applies": the first that holds.
unfoldable pub first_of : List Check → Option ℕ
first_of [] = none
first_of (c ∷ cs) = cond c.holds (some c.number) (first_of cs)

abbrev pub is_for : ℕ → Entry → Bool
is_for i e = eqb e.transaction.identity i

-- "an identity now waiting"
abbrev pub waits_for : ℕ → State → Bool
waits_for i s = list_any (is_for i) s.waiting

unfoldable pub delivery_checks : Transaction → State → List Check
delivery_checks t s =
    -- "partition set lacks our own, or names one beyond the number opened"
    record { number = 1; holds = bad_set s.clock.partitions s.clock.own t.partitions }
    -- "more than 8 keys read or more than 8 written"
    ∷ record { number = 2; holds = too_many t.reads || too_many (keys_of t.writes) }
    -- "a key over 1,023; [..] keys not strictly ascending"
    ∷ record { number = 3; holds = bad_keys t.reads || bad_keys (keys_of t.writes) }
    -- "identity 0, or an identity now waiting"
    ∷ record { number = 4; holds = eqb t.identity 0 || waits_for t.identity s }
    -- "st > SC"
    ∷ record { number = 5; holds = ltb s.books.sc t.st }
    -- "st < floor"
    ∷ record { number = 6; holds = ltb t.st (floor s.books.sc) }
    -- "32 already waiting"
    ∷ record { number = 7; holds = leb most_waiting (length s.waiting) }
    -- "DC is 4,000,000,000"
    ∷ record { number = 8; holds = eqb s.clock.dc most_dc }
    ∷ []

unfoldable pub vote_checks : ℕ → ℕ → State → List Check
vote_checks i p s =
    -- "identity not waiting"
    record { number = 9; holds = not (waits_for i s) }
    -- "from our own partition, or one not involved"
    ∷ record { number = 10; holds = list_any (λ e. is_for i e && not (other s.clock.own e.transaction.partitions p)) s.waiting }
    -- "that partition has voted on it"
    ∷ record { number = 11; holds = list_any (λ e. is_for i e && heard_from e.heard p) s.waiting }
    ∷ []

unfoldable pub change_checks : ℕ → List Check
change_checks k =
    -- "k over 31"
    record { number = 12; holds = ltb most_k k }
    ∷ []

unfoldable pub read_checks : ℕ → ℕ → State → List Check
read_checks key st s =
    -- "a key over 1,023"
    record { number = 3; holds = bad_key key }
    -- "st > SC"
    ∷ record { number = 5; holds = ltb s.books.sc st }
    -- "st < floor"
    ∷ record { number = 6; holds = ltb st (floor s.books.sc) }
    ∷ []

-- "those of the event in rising order"
unfoldable pub checks : Event → State → List Check
checks (delivery t) s = delivery_checks t s
checks (vote i p b) s = vote_checks i p s
checks (change k) s = change_checks k
checks (read key st) s = read_checks key (snapshot st s) s

-- "Every refusal [..] is given only when its condition holds and no earlier check applies.": the number of an event, if it gets one.
unfoldable pub refusal : Event → State → Option ℕ
refusal e s = first_of (checks e s)

-- "Every refusal returns its number alone, finishes nothing, leaves DC and all lent memory untouched"
unfoldable pub unless_refused : Option ℕ → State → Step → Step
unless_refused none s r = r
unless_refused (some n) s r = record { answer = refused n; finishes = []; next = s }

-- One event: refused by its number, or what it does.
-- "Every refusal returns its number alone [..] and is given only when its condition holds and no earlier check applies."
unfoldable pub step : Event → State → Step
step e s = unless_refused (refusal e s) s (accepted e s)

-- "opening: sizes outside the table"
unfoldable pub opening_refusal : ℕ → ℕ → ℕ → Option ℕ
opening_refusal partitions own k = first_of (record { number = 13; holds = not (sizes_fit partitions own k) } ∷ [])

-- "delivery, vote, change: the lent finish list holds fewer than 32 entries"
unfoldable pub too_little_room : ℕ → Event → Bool
too_little_room room (delivery t) = ltb room most_waiting
too_little_room room (vote i p b) = ltb room most_waiting
too_little_room room (change k) = ltb room most_waiting
too_little_room room (read key st) = false

-- "Then come 15 and 13, in that order, then those of the event in rising order.": of any state, with a finish list that holds so many entries
unfoldable pub desk_checks : ℕ → Event → State → List Check
desk_checks room e s =
    record { number = 15; holds = too_little_room room e } ∷ record { number = 13; holds = not (sound s) } ∷ checks e s

-- The same of any state and any finish list: "given only when its condition holds and no earlier check applies", and "Then come 15 and 13, in that
-- order, then those of the event in rising order."
unfoldable pub desk : ℕ → Event → State → Step
desk room e s = unless_refused (first_of (desk_checks room e s)) s (accepted e s)
