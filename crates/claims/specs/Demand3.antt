-- Demand 3: two logs with the same deliveries and changes in the same order and the same votes, all in time, give the same answers to deliveries, the same finishes and the same last state.
-- Each is compared with the eager run, which looks at the deliveries and changes alone, and at all votes together.
use Rattle.std.specs.Prelude.{ℕ, ◌≡◌}
use mathlib.Core.List.{List, [], ◌∷◌, ◌++◌, map, append-nil}
use Rattle.std.proofs.Math.Path.{refl, sym, ap, fun_ext}
use Rattle.std.proofs.Common.{◌∙◌}
use Rattle.rules.specs.Partitions.{Ballot, Heard}
use Rattle.rules.specs.Ledger.{Transaction, Entry, State, opening}
use Rattle.rules.specs.Events.{Event, delivery, vote, change, read, with_vote}
use Rattle.rules.specs.Refusals.{step}
use Rattle.rules.specs.Logs.{last}
use Rattle.laws.specs.Each.{Each, each_weaken, map_same, next_place}
use Rattle.claims.specs.Gather.{votes_of, same_votes_of}
use Rattle.claims.specs.Filled.{fill, Under, Timely, resting_stays, resting_fill}
use Rattle.claims.specs.Timing.{moves, has_vote, Timed, own_answers, Alike}
use Rattle.claims.specs.Eager.{Run, eager, eager_moves, eager_change, filled, owed, caught_up, vote_quiet, read_quiet, change_quiet, list_after}
use Rattle.claims.specs.Follow.{run, eager_run, follow_end, follow_delivery, follow_quiet}
use Rattle.claims.specs.Fair.{Entered, votes_within, timely}
use Rattle.claims.specs.Known.{Known, joined_entered, voted_entered, known_delivery, known_vote, known_change, known_read}

module _ (s : State) (es : List Event) (timed : Timed s es) where
  -- An entry that waits somewhere in the log has heard some of its votes, and at the log's end all.
  under : (before rest : List Event) (waiting : List Entry) → es ≡ before ++ rest → Each (Entered s before) waiting → Each (Under (votes_of es)) waiting
  under before rest waiting cut h =
      each_weaken (Entered s before) (Under (votes_of es))
      (λ e from. rw from.has (votes_within s es timed e.transaction.identity before rest cut)) waiting h

  full : (before : List Event) → es ≡ before ++ [] → (e : Entry) → Entered s before e → fill (votes_of es) e ≡ e
  unfolding fill
  full before cut e from =
      let all : votes_of es e.transaction.identity ≡ e.heard =
      ap (λ (fs : List Event). votes_of fs e.transaction.identity) (cut ∙ append-nil before) ∙ sym from.has in
      ap (λ (h : Heard). record { transaction = e.transaction; rt = e.rt; heard = h }) all

  -- So nothing is owed at the end, nor at a delivery.
  free_at_end : (before : List Event) (now : State) → es ≡ before ++ [] → Known s before now
      → owed (votes_of es) now ≡ record { finishes = []; waiting = now.waiting; books = now.books }
  unfolding owed
  free_at_end before now cut known =
      rw (map_same (fill (votes_of es)) now.waiting
      (each_weaken (Entered s before) (λ e. fill (votes_of es) e ≡ e) (full before cut) now.waiting known.entries))
      (resting_stays now.clock now.waiting now.books known.resting)

  free_at_delivery : (t : Transaction) (before rest : List Event) (now : State) → es ≡ before ++ delivery t ∷ rest → Known s before now
      → owed (votes_of es) now ≡ record { finishes = []; waiting = (filled (votes_of es) now).waiting; books = now.books }
  unfolding owed filled
  free_at_delivery t before rest now cut known =
      resting_stays now.clock (map (fill (votes_of es)) now.waiting) now.books
      (resting_fill (votes_of es) now.clock now.waiting
      (each_weaken (Entered s before) (Timely (votes_of es) now.clock)
      (λ e from. rw known.here at (timely s es timed before e from t rest cut)) now.waiting known.entries)
      known.resting)

  -- The engine follows the eager run from any place of the log.
  follows : (rest before : List Event) (now : State) → es ≡ before ++ rest → Known s before now → run rest now ≡ eager_run (votes_of es) rest now
  unfolding eager own_answers
  follows [] before now cut known = follow_end (votes_of es) now (free_at_end before now cut known)
  follows (delivery t ∷ rest) before now cut known =
      follow_delivery (votes_of es) t rest now (free_at_delivery t before rest now cut known)
      (λ q. under (before ++ delivery t ∷ []) rest (list_after t now) (next_place before rest (delivery t) cut)
      (joined_entered s es timed before rest now known t cut q))
      (follows rest (before ++ delivery t ∷ []) (step (delivery t) now).next (next_place before rest (delivery t) cut)
      (known_delivery s es timed before rest now known t cut))
  follows (vote i p b ∷ rest) before now cut known =
      follow_quiet (votes_of es) (vote i p b) rest now (caught_up (votes_of es) now) refl refl
      (vote_quiet (votes_of es) i p b now
      (under (before ++ vote i p b ∷ []) rest (map (with_vote i p b) now.waiting) (next_place before rest (vote i p b) cut)
      (voted_entered s es timed before rest now known i p b cut)))
      (follows rest (before ++ vote i p b ∷ []) (step (vote i p b) now).next (next_place before rest (vote i p b) cut)
      (known_vote s es timed before rest now known i p b cut))
  follows (change k ∷ rest) before now cut known =
      follow_quiet (votes_of es) (change k) rest now (eager_change k (caught_up (votes_of es) now)) refl refl
      (change_quiet (votes_of es) k now (under before (change k ∷ rest) now.waiting cut known.entries))
      (follows rest (before ++ change k ∷ []) (step (change k) now).next (next_place before rest (change k) cut)
      (known_change s es timed before rest now known k))
  follows (read key st ∷ rest) before now cut known =
      follow_quiet (votes_of es) (read key st) rest now (caught_up (votes_of es) now) refl refl (read_quiet (votes_of es) key st now)
      (follows rest (before ++ read key st ∷ []) (step (read key st) now).next (next_place before rest (read key st) cut)
      (known_read s es timed before rest now known key st))

-- At opening nothing waits.
known_opening : (partitions own k : ℕ) → Known (opening partitions own k) [] (opening partitions own k)
unfolding opening last
known_opening partitions own k = record { here = refl; resting = tt; entries = tt }

-- A log in time gives what its moves and all its votes give.
by_moves : (partitions own k : ℕ) (es : List Event) → Timed (opening partitions own k) es
    → run es (opening partitions own k) ≡ eager_run (votes_of es) (moves es) (opening partitions own k)
by_moves partitions own k es timed =
    follows (opening partitions own k) es timed es [] (opening partitions own k) refl (known_opening partitions own k)
    ∙ rw (eager_moves (votes_of es) es (caught_up (votes_of es) (opening partitions own k)))

pub demand_3 : (partitions own k : ℕ) (es fs : List Event)
    → Timed (opening partitions own k) es → Timed (opening partitions own k) fs
    → moves es ≡ moves fs
    → ((i p : ℕ) (b : Ballot) → has_vote i p b es ≡ has_vote i p b fs)
    → Alike (opening partitions own k) es fs
demand_3 partitions own k es fs es_timed fs_timed same_moves same_votes =
    let votes : votes_of es ≡ votes_of fs = fun_ext (λ i. same_votes_of i es fs (same_votes i)) in
    let same : run es (opening partitions own k) ≡ run fs (opening partitions own k) =
    by_moves partitions own k es es_timed ∙ rw (votes, same_moves) (sym (by_moves partitions own k fs fs_timed)) in
    record {
      answers = ap (λ (r : Run). r.answers) same;
      told = ap (λ (r : Run). r.finishes) same;
      state = ap (λ (r : Run). r.state) same;
    }
