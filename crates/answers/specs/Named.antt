-- A finish of the rules is a commit under a version that isn't 0, or an abort: so the word 0 of a finish entry stands for an abort alone.
use Rattle.std.specs.Prelude.{ℕ, ◌+◌, Bool, true, not, List, [], ◌∷◌, ◌≡◌, refl, eqb}
use Rattle.std.proofs.Common.{ne_eqb, arith}
use Rattle.std.proofs.Math.Option.{Option, none, some}
use Rattle.std.specs.List.{list_all}
use Rattle.rules.specs.Ledger.{Entry, Clock, Books, State}
use Rattle.rules.specs.Closing.{ready, commits, Outcome, version, aborts, Finish, finish, books_after, close}
use Rattle.rules.specs.Events.{Event, Step, accepted, closing}
use Rattle.rules.specs.Refusals.{refusal, unless_refused, step, first_of, desk_checks, desk}
use Rattle.laws.specs.Tests.{split, and_both}
use Rattle.claims.specs.Steps.{close_nil, close_ready, close_rest, accepted_closes}

abbrev pub named_outcome : Outcome → Bool
named_outcome (version v) = not (eqb v 0)
named_outcome aborts = true

abbrev pub named_version : Finish → Bool
named_version f = named_outcome f.outcome

abbrev pub all_named : List Finish → Bool
all_named fs = list_all named_version fs

-- A commit's version is one above an SC.
finish_named : (c : Clock) (e : Entry) (b : Books) → named_version (finish c e b) ≡ true
unfolding finish
finish_named c e b = split (commits c e) (λ q. rw (q, ne_eqb (b.sc + 1) 0 (λ z. omega arith))) (λ q. rw q)

pub close_named : (c : Clock) (es : List Entry) (b : Books) → all_named (close c es b).finishes ≡ true
close_named c [] b = rw (close_nil c b)
close_named c (e ∷ es) b =
    split (ready c e)
    (λ q. rw (close_ready c e es b q)
    (and_both (named_version (finish c e b)) (all_named (close c es (books_after c e b)).finishes) (finish_named c e b) (close_named c es (books_after c e b))))
    (λ q. rw (close_rest c e es b q))

pub accepted_named : (e : Event) (s : State) → all_named (accepted e s).finishes ≡ true
unfolding closing
accepted_named e s = accepted_closes (λ r. all_named r.finishes ≡ true) e s (λ a c es. close_named c es s.books) (λ a. refl)

-- A refusal finishes nothing.
unless_named : (o : Option ℕ) (s : State) (r : Step) → all_named r.finishes ≡ true → all_named (unless_refused o s r).finishes ≡ true
unfolding unless_refused
unless_named none s r h = h
unless_named (some n) s r h = refl

pub step_named : (e : Event) (s : State) → all_named (step e s).finishes ≡ true
unfolding step
step_named e s = unless_named (refusal e s) s (accepted e s) (accepted_named e s)

pub desk_named : (room : ℕ) (e : Event) (s : State) → all_named (desk room e s).finishes ≡ true
unfolding desk
desk_named room e s = unless_named (first_of (desk_checks room e s)) s (accepted e s) (accepted_named e s)
