-- The engine follows the eager run over a log, one event at a time: if it does over the rest of the log from the next state, it does over the whole.
use Rattle.std.specs.Prelude.{ℕ, List, [], ◌∷◌, ◌++◌, ◌≡◌}
use Rattle.std.proofs.Common.{append_assoc, ap}
use Rattle.std.proofs.Math.Option.{none}
use Rattle.rules.specs.Partitions.{Heard}
use Rattle.rules.specs.Ledger.{Transaction, State}
use Rattle.rules.specs.Events.{Event, delivery}
use Rattle.rules.specs.Refusals.{refusal, step}
use Rattle.rules.specs.Logs.{last, finishes}
use Rattle.laws.specs.Each.{Each}
use Rattle.claims.specs.Filled.{Under}
use Rattle.claims.specs.Timing.{own_answers}
use Rattle.claims.specs.Eager.{Run, answered, eager, filled, owed, caught_up, ahead, list_after, caught_up_free, eager_ahead, Quiet}

-- What a log gives by the rules; what the eager run gives, with what is owed before it. The engine follows where they are equal.
abbrev pub run : List Event → State → Run
run es s = record { answers = own_answers es s; finishes = finishes es s; state = last es s }

abbrev pub eager_run : (ℕ → Heard) → List Event → State → Run
eager_run w es s =
    record {
      answers = (eager w es (caught_up w s)).answers;
      finishes = (owed w s).finishes ++ (eager w es (caught_up w s)).finishes;
      state = (eager w es (caught_up w s)).state;
    }

-- At the end of the log, where nothing is owed.
pub follow_end : (w : ℕ → Heard) (s : State) → owed w s ≡ record { finishes = []; waiting = s.waiting; books = s.books }
    → run [] s ≡ eager_run w [] s
unfolding eager own_answers finishes last caught_up
follow_end w s free = rw free

-- A delivery at which nothing is owed.
pub follow_delivery : (w : ℕ → Heard) (t : Transaction) (es : List Event) (s : State)
    → owed w s ≡ record { finishes = []; waiting = (filled w s).waiting; books = s.books }
    → (refusal (delivery t) s ≡ none → Each (Under w) (list_after t s))
    → run es (step (delivery t) s).next ≡ eager_run w es (step (delivery t) s).next → run (delivery t ∷ es) s ≡ eager_run w (delivery t ∷ es) s
unfolding eager own_answers finishes last ahead
follow_delivery w t es s free h later =
    rw (
      caught_up_free w t s free,
      free,
      eager_ahead w t s free h,
      append_assoc (step (delivery t) s).finishes (owed w (step (delivery t) s).next).finishes (eager w es (caught_up w (step (delivery t) s).next)).finishes,
    )
    (ap (answered (step (delivery t) s)) later)

-- An event that is no delivery: it has no answer that counts, and the eager run goes on from x.
pub follow_quiet : (w : ℕ → Heard) (e : Event) (es : List Event) (s x : State)
    → own_answers (e ∷ es) s ≡ own_answers es (step e s).next → eager w (e ∷ es) (caught_up w s) ≡ eager w es x → Quiet w s (step e s) x
    → run es (step e s).next ≡ eager_run w es (step e s).next → run (e ∷ es) s ≡ eager_run w (e ∷ es) s
unfolding finishes last
follow_quiet w e es s x silent goes_on quiet later =
    rw (
      silent,
      goes_on,
      quiet.owes,
      ← quiet.stays,
      append_assoc (step e s).finishes (owed w (step e s).next).finishes (eager w es (caught_up w (step e s).next)).finishes,
    )
    (ap (λ (r : Run). record { answers = r.answers; finishes = (step e s).finishes ++ r.finishes; state = r.state }) later)
