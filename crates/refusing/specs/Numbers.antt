-- The number that refuses an operation is the rules' number, and 0 means that nothing refuses it.
use Rattle.std.specs.Prelude.{ℕ, ◌/◌, Bool, true, false, List, [], ◌∷◌, ◌≡◌, refl, ltb}
use Rattle.std.specs.List.{list_all}
use Rattle.std.proofs.Math.Option.{none}
use Rattle.std.proofs.Common.{sym, ◌∙◌, arith, ltb-true}
use Rattle.rules.specs.Ledger.{State}
use Rattle.rules.specs.Events.{Event, delivery, vote, change, read}
use Rattle.rules.specs.Soundness.{sound}
use Rattle.rules.specs.Refusals.{Check, first_of, checks, delivery_checks, vote_checks, change_checks, read_checks, refusal, too_little_room, desk_checks}
use Rattle.laws.specs.Tests.{split, and_left, and_right}
use Rattle.refusing.specs.Operands.{number_of, lent_number}

-- No check of the desk has number 0.
abbrev numbered : Check → Bool
numbered c = ltb 0 c.number

first_numbered : (cs : List Check) → list_all numbered cs ≡ true → number_of (first_of cs) ≡ 0 → first_of cs ≡ none
unfolding first_of
first_numbered [] h z = refl
first_numbered (c ∷ cs) h z =
    split c.holds
    (λ q. let some_number = ltb-true 0 c.number (and_left (numbered c) (list_all numbered cs) h) in
    let e : c.number ≡ 0 = rw q at z in absurd (omega arith))
    (λ q. rw q (first_numbered cs (and_right (numbered c) (list_all numbered cs) h) (rw q at z)))

checks_numbered : (e : Event) (s : State) → list_all numbered (checks e s) ≡ true
unfolding checks delivery_checks vote_checks change_checks read_checks
checks_numbered (delivery t) s = refl
checks_numbered (vote i p b) s = refl
checks_numbered (change k) s = refl
checks_numbered (read key st) s = refl

desk_numbered : (room : ℕ) (e : Event) (s : State) → list_all numbered (desk_checks room e s) ≡ true
unfolding desk_checks
desk_numbered room e s = checks_numbered e s

-- For tables that are long enough the number is the desk's.
pub lent_number_is : (words : ℕ) (e : Event) (s : State) → lent_number words false e s ≡ number_of (first_of (desk_checks (words / 2) e s))
unfolding lent_number desk_checks first_of refusal
lent_number_is words e s =
    split (too_little_room (words / 2) e) (λ q. rw q) (λ q. split (sound s) (λ r. rw (q, r)) (λ r. rw (q, r)))

pub unrefused : (words : ℕ) (e : Event) (s : State) → lent_number words false e s ≡ 0 → first_of (desk_checks (words / 2) e s) ≡ none
unrefused words e s z = first_numbered (desk_checks (words / 2) e s) (desk_numbered (words / 2) e s) (sym (lent_number_is words e s) ∙ z)

-- What 0 says: there is room, the state is sound, and the rules refuse nothing.
pub record Clear (words : ℕ) (e : Event) (s : State) : Type 0 where
  pub room : too_little_room (words / 2) e ≡ false
  pub is_sound : sound s ≡ true
  pub allowed : refusal e s ≡ none

pub clear : (words : ℕ) (e : Event) (s : State) → lent_number words false e s ≡ 0 → Clear words e s
unfolding lent_number refusal
clear words e s z =
    split (too_little_room (words / 2) e)
    (λ q. absurd (let bad : ◌≡◌ {A = ℕ} 15 0 = rw q at z in omega arith))
    (λ q. split (sound s)
    (λ r. record { room = q; is_sound = r; allowed = first_numbered (checks e s) (checks_numbered e s) (rw (q, r) at z) })
    (λ r. absurd (let bad : ◌≡◌ {A = ℕ} 13 0 = rw (q, r) at z in omega arith)))
