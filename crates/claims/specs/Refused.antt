-- 01, "Numbers the desk hands back": a number is given exactly when its condition holds and no earlier check applies, and the desk of any state is the
-- step of a sound one. That a refused event changes nothing is `step_refused` and, for any state and finish list, `desk_refused`.
use Rattle.std.specs.Prelude.{ℕ, ◌≤◌, Bool, true, false, not, List, [], ◌∷◌, ◌++◌, ◌↔◌, ◌≡◌, refl}
use Rattle.std.specs.List.{list_any}
use Rattle.std.proofs.Math.Option.{Option, none, some}
use Rattle.std.proofs.Common.{sym, ap, ◌∙◌, arith, le-ltb}
use Rattle.std.proofs.lemmas.Bool.{not-false}
use Rattle.rules.specs.Sizes.{most_waiting}
use Rattle.rules.specs.Ledger.{State, Clock, sizes_fit}
use Rattle.rules.specs.Partitions.{Ballot}
use Rattle.rules.specs.Delivery.{Fate, abort, join}
use Rattle.rules.specs.Soundness.{sound}
use Rattle.rules.specs.Events.{Event, delivery, vote, change, read, refused, Step, accepted, closing, delivered, deliver_at, deliver_with, take_vote, take_change, take_read}
use Rattle.rules.specs.Refusals.{Check, first_of, checks, refusal, unless_refused, step, opening_refusal, too_little_room, desk_checks, desk}
use Rattle.laws.specs.Tests.{split, or_left, or_right, or_neither}
use Rattle.claims.specs.Steps.{step_refused}

abbrev pub applies : Check → Bool
applies c = c.holds

-- "given only when its condition holds and no earlier check applies"
pub record Given (cs : List Check) (n : ℕ) : Type 0 where
  pub earlier : List Check
  pub check : Check
  pub later : List Check
  pub stands : cs ≡ earlier ++ check ∷ later
  pub numbered : check.number ≡ n
  pub met : check.holds ≡ true
  pub none_earlier : list_any applies earlier ≡ false

-- A number and no number are different answers.
none_or_some {ℓ} : {C : Type ℓ} (o : Option ℕ) (n : ℕ) → o ≡ none → o ≡ some n → C
none_or_some o n p q = let z : ◌≡◌ {A = ℕ} 0 1 = cc in absurd (omega arith)

-- The first of some checks is the one that holds behind those that don't.
first_holds : (c : Check) (cs : List Check) → c.holds ≡ true → first_of (c ∷ cs) ≡ some c.number
unfolding first_of
first_holds c cs q = rw q

first_fails : (c : Check) (cs : List Check) → c.holds ≡ false → first_of (c ∷ cs) ≡ first_of cs
unfolding first_of
first_fails c cs q = rw q

first_behind : (earlier : List Check) (c : Check) (later : List Check) → list_any applies earlier ≡ false → c.holds ≡ true
    → first_of (earlier ++ c ∷ later) ≡ some c.number
first_behind [] c later h q = first_holds c later q
first_behind (d ∷ earlier) c later h q =
    first_fails d (earlier ++ c ∷ later) (or_left d.holds (list_any applies earlier) h)
    ∙ first_behind earlier c later (or_right d.holds (list_any applies earlier) h) q

first_given : (cs : List Check) (n : ℕ) → first_of cs ≡ some n → Given cs n
unfolding first_of
first_given [] n h = none_or_some none n refl h
first_given (c ∷ cs) n h =
    split c.holds
    (λ q. record { earlier = []; check = c; later = cs; stands = refl; numbered = cc (first_holds c cs q); met = q; none_earlier = refl })
    (λ q.
    let rest : Given cs n = first_given cs n (sym (first_fails c cs q) ∙ h) in
    record {
      earlier = c ∷ rest.earlier;
      check = rest.check;
      later = rest.later;
      stands = ap (λ l. c ∷ l) rest.stands;
      numbered = rest.numbered;
      met = rest.met;
      none_earlier = or_neither c.holds (list_any applies rest.earlier) q rest.none_earlier;
    })

given_first : (cs : List Check) (n : ℕ) → Given cs n → first_of cs ≡ some n
given_first cs n g =
    ap first_of g.stands ∙ first_behind g.earlier g.check g.later g.none_earlier g.met ∙ ap some g.numbered

pub given_exactly : (cs : List Check) (n : ℕ) → (first_of cs ≡ some n → Given cs n) × (Given cs n → first_of cs ≡ some n)
given_exactly cs n = (first_given cs n, given_first cs n)

-- No number is given exactly when no check applies.
none_holds : (cs : List Check) → first_of cs ≡ none → list_any applies cs ≡ false
unfolding first_of
none_holds [] h = refl
none_holds (c ∷ cs) h =
    split c.holds (λ q. none_or_some (first_of (c ∷ cs)) c.number h (first_holds c cs q))
    (λ q. or_neither c.holds (list_any applies cs) q (none_holds cs (sym (first_fails c cs q) ∙ h)))

none_first : (cs : List Check) → list_any applies cs ≡ false → first_of cs ≡ none
unfolding first_of
none_first [] h = refl
none_first (c ∷ cs) h =
    first_fails c cs (or_left c.holds (list_any applies cs) h) ∙ none_first cs (or_right c.holds (list_any applies cs) h)

pub none_exactly : (cs : List Check) → first_of cs ≡ none ↔ list_any applies cs ≡ false
none_exactly cs = (none_holds cs, none_first cs)

-- Checks of which none applies, one by one.
abbrev pub NoneApplies : List Check → Type 0
NoneApplies [] = Unit
NoneApplies (c ∷ cs) = (c.holds ≡ false) × NoneApplies cs

none_of : (cs : List Check) → list_any applies cs ≡ false → NoneApplies cs
none_of [] h = tt
none_of (c ∷ cs) h = (or_left c.holds (list_any applies cs) h, none_of cs (or_right c.holds (list_any applies cs) h))

pub none_applies : (cs : List Check) → first_of cs ≡ none → NoneApplies cs
none_applies cs h = none_of cs (none_holds cs h)

-- "Every refusal returns its number alone, finishes nothing, leaves DC and all lent memory untouched", of any state and any finish list
pub desk_refused : (room : ℕ) (e : Event) (s : State) {n : ℕ} → first_of (desk_checks room e s) ≡ some n
    → desk room e s ≡ record { answer = refused n; finishes = []; next = s }
unfolding desk unless_refused
desk_refused room e s q = rw q

abbrev short : ℕ → Event → Check
short room e = record { number = 15; holds = too_little_room room e }

abbrev unsound : State → Check
unsound s = record { number = 13; holds = not (sound s) }

-- "Then come 15 and 13, in that order, then those of the event in rising order."
pub desk_short : (room : ℕ) (e : Event) (s : State) → too_little_room room e ≡ true
    → desk room e s ≡ record { answer = refused 15; finishes = []; next = s }
unfolding desk_checks
desk_short room e s q = desk_refused room e s (first_holds (short room e) (unsound s ∷ checks e s) q)

pub desk_unsound : (room : ℕ) (e : Event) (s : State) → too_little_room room e ≡ false → sound s ≡ false
    → desk room e s ≡ record { answer = refused 13; finishes = []; next = s }
unfolding desk_checks
desk_unsound room e s q u =
    desk_refused room e s
    (first_fails (short room e) (unsound s ∷ checks e s) q ∙ first_holds (unsound s) (checks e s) (ap not u))

-- A finish list of 32 entries is room enough for any event.
room_enough : (room : ℕ) (e : Event) → most_waiting ≤ room → too_little_room room e ≡ false
unfolding too_little_room
room_enough room (delivery t) h = le-ltb room most_waiting h
room_enough room (vote i p b) h = le-ltb room most_waiting h
room_enough room (change k) h = le-ltb room most_waiting h
room_enough room (read key st) h = refl

-- What no check applies to is taken.
pub desk_accepted : (room : ℕ) (e : Event) (s : State) → first_of (desk_checks room e s) ≡ none → desk room e s ≡ accepted e s
unfolding desk unless_refused
desk_accepted room e s q = rw q

-- With room enough and a sound state the desk gives the event's step.
pub desk_is_step : (room : ℕ) (e : Event) (s : State) → most_waiting ≤ room → sound s ≡ true → desk room e s ≡ step e s
unfolding desk desk_checks first_of step refusal
desk_is_step room e s h ok = rw (room_enough room e h, ok)

-- An accepted event's own answer is no refusal, so the answer tells whether the event was refused.
delivered_accepted : (c : Clock) (send : Option Ballot) (f : Fate) (n : ℕ) → delivered c send f ≡ refused n → ⊥
unfolding delivered
delivered_accepted c send (abort reason) n q = let z : ◌≡◌ {A = ℕ} 0 1 = cc in omega arith
delivered_accepted c send (join i) n q = let z : ◌≡◌ {A = ℕ} 0 1 = cc in omega arith

pub accepted_or_refused : (e : Event) (s : State) (n : ℕ) → (accepted e s).answer ≡ refused n → ⊥
unfolding accepted closing deliver_with deliver_at take_vote take_change take_read
accepted_or_refused (delivery t) s n q = delivered_accepted _ _ _ n q
accepted_or_refused (vote i p b) s n q = let z : ◌≡◌ {A = ℕ} 0 1 = cc in omega arith
accepted_or_refused (change k) s n q = let z : ◌≡◌ {A = ℕ} 0 1 = cc in omega arith
accepted_or_refused (read key st) s n q = let z : ◌≡◌ {A = ℕ} 0 1 = cc in omega arith

refused_by : (o : Option ℕ) (e : Event) (s : State) (n : ℕ) → (unless_refused o s (accepted e s)).answer ≡ refused n → o ≡ some n
unfolding unless_refused
refused_by none e s n q = absurd (accepted_or_refused e s n q)
refused_by (some m) e s n q = cc

-- Every refusal "is given only when its condition holds and no earlier check applies", and then it is given: by the step, and by the desk.
pub step_answers : (e : Event) (s : State) (n : ℕ) → (step e s).answer ≡ refused n ↔ Given (checks e s) n
unfolding step refusal
step_answers e s n = (
  λ q. first_given (checks e s) n (refused_by (refusal e s) e s n q),
  λ g. ap (λ (r : Step). r.answer) (step_refused e s (given_first (checks e s) n g)),
)

pub desk_answers : (room : ℕ) (e : Event) (s : State) (n : ℕ) → (desk room e s).answer ≡ refused n ↔ Given (desk_checks room e s) n
unfolding desk
desk_answers room e s n = (
  λ q. first_given (desk_checks room e s) n (refused_by (first_of (desk_checks room e s)) e s n q),
  λ g. ap (λ (r : Step). r.answer) (desk_refused room e s (given_first (desk_checks room e s) n g)),
)

abbrev sizes : ℕ → ℕ → ℕ → Check
sizes partitions own k = record { number = 13; holds = not (sizes_fit partitions own k) }

-- "opening: sizes outside the table"
pub opening_accepted : (partitions own k : ℕ) → opening_refusal partitions own k ≡ none ↔ sizes_fit partitions own k ≡ true
unfolding opening_refusal
opening_accepted partitions own k = (
  λ h. not-false (sizes_fit partitions own k) (none_applies (sizes partitions own k ∷ []) h).0,
  λ h. first_fails (sizes partitions own k) [] (ap not h) ∙ none_first [] refl,
)

pub opening_refused : (partitions own k : ℕ) → sizes_fit partitions own k ≡ false → opening_refusal partitions own k ≡ some 13
unfolding opening_refusal first_of
opening_refused partitions own k q = rw q
