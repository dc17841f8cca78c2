-- Every number of the desk names a refusal, and the refusal has that number.
use Rattle.std.specs.Prelude.{ℕ, Bool, true, List, [], ◌∷◌, ◌≡◌, refl, eqb}
use Rattle.std.specs.List.{list_all}
use Rattle.std.proofs.Math.Option.{some}
use Rattle.std.proofs.Common.{subst, arith, eqb-true}
use Rattle.rules.specs.Ledger.{State}
use Rattle.rules.specs.Events.{Event, delivery, vote, change, read}
use Rattle.rules.specs.Refusals.{Check, first_of, checks, delivery_checks, vote_checks, change_checks, read_checks, desk_checks}
use Rattle.laws.specs.Tests.{split, and_left, and_right}
use Rattle.refusing.specs.Told.{numbered, named}

abbrev is_named : Check → Bool
is_named c = eqb (numbered (named c.number)) c.number

first_named : (cs : List Check) (n : ℕ) → list_all is_named cs ≡ true → first_of cs ≡ some n → numbered (named n) ≡ n
unfolding first_of
first_named [] n h given = let z : ◌≡◌ {A = ℕ} 0 1 = cc in absurd (omega arith)
first_named (c ∷ cs) n h given =
    split c.holds
    (λ q. let e : c.number ≡ n = let g = rw q at given in cc in
    subst (λ (m : ℕ). numbered (named m) ≡ m) e (eqb-true (numbered (named c.number)) c.number (and_left (is_named c) (list_all is_named cs) h)))
    (λ q. first_named cs n (and_right (is_named c) (list_all is_named cs) h) (rw q at given))

checks_named : (e : Event) (s : State) → list_all is_named (checks e s) ≡ true
unfolding checks delivery_checks vote_checks change_checks read_checks
checks_named (delivery t) s = refl
checks_named (vote i p b) s = refl
checks_named (change k) s = refl
checks_named (read key st) s = refl

desk_named : (room : ℕ) (e : Event) (s : State) → list_all is_named (desk_checks room e s) ≡ true
unfolding desk_checks
desk_named room e s = checks_named e s

pub desk_number : (room : ℕ) (e : Event) (s : State) (n : ℕ) → first_of (desk_checks room e s) ≡ some n → numbered (named n) ≡ n
desk_number room e s n given = first_named (desk_checks room e s) n (desk_named room e s) given
