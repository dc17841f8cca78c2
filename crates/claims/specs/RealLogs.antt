-- The condition of demand 3 isn't empty: 01's whole run and a log with its vote early meet it. Nor is it idle: with the vote late, the answers differ.
use Rattle.std.specs.Prelude.{ℕ, true, List, [], ◌∷◌, map, ◌≡◌, refl, pos, negsuc}
use Rattle.std.proofs.Common.{arith}
use Rattle.std.proofs.Math.Option.{none, some}
use Rattle.rules.specs.Partitions.{Ballot, aye}
use Rattle.rules.specs.Ledger.{opening}
use Rattle.rules.specs.Closing.{version}
use Rattle.rules.specs.Events.{Event, vote, waits, aborted, voted}
use Rattle.rules.specs.Logs.{steps}
use Rattle.rules.specs.Cases.{seen_of, computed, deliver, ◌puts◌, ◌ends◌}
use Rattle.rules.specs.WholeRun.{whole_run}
use Rattle.claims.specs.Timing.{moves, is_vote, has_vote, is_waiting, threshold, own_answers, Timed, Alike}
use Rattle.claims.specs.InTime.{everywhere, all_in_time, in_time_timed}
use Rattle.claims.specs.Demand3.{demand_3}

-- The same deliveries, the vote straight after its delivery, and no reads.
unfoldable pub early_vote : List Event
early_vote =
    deliver 10 3 0 (7 ∷ []) (7 puts pos 500 ∷ [])
    ∷ vote 10 1 aye
    ∷ deliver 11 1 0 (8 ∷ []) (8 puts negsuc 39 ∷ [])
    ∷ deliver 12 1 1 (7 ∷ []) (7 puts pos 600 ∷ [])
    ∷ []

-- The whole run finishes 10 at the vote. Here the vote finishes nothing, and 10 ends at the delivery of 11.
pub the_early_vote : map seen_of (steps early_vote (opening 2 0 1)) ≡
    record { answer = waits 1 0 (some aye); lines = []; sc = 0 }
    ∷ record { answer = voted; lines = []; sc = 0 }
    ∷ record { answer = waits 2 0 none; lines = 11 ends version 1 ∷ 10 ends version 2 ∷ []; sc = 2 }
    ∷ record { answer = aborted 3 1 none; lines = []; sc = 2 }
    ∷ []
unfolding computed early_vote
the_early_vote = refl

whole_run_in_time : all_in_time (opening 2 0 1) whole_run ≡ true
unfolding computed whole_run everywhere is_waiting threshold
whole_run_in_time = refl

early_vote_in_time : all_in_time (opening 2 0 1) early_vote ≡ true
unfolding computed early_vote everywhere is_waiting threshold
early_vote_in_time = refl

-- So both meet the condition of demand 3.
pub whole_run_timed : Timed (opening 2 0 1) whole_run
whole_run_timed = in_time_timed (opening 2 0 1) whole_run whole_run_in_time

pub early_vote_timed : Timed (opening 2 0 1) early_vote
early_vote_timed = in_time_timed (opening 2 0 1) early_vote early_vote_in_time

same_moves : moves whole_run ≡ moves early_vote
unfolding moves whole_run early_vote
same_moves = refl

same_votes : (i p : ℕ) (b : Ballot) → has_vote i p b whole_run ≡ has_vote i p b early_vote
unfolding has_vote is_vote whole_run early_vote
same_votes i p b = refl

pub real_logs_alike : Alike (opening 2 0 1) whole_run early_vote
real_logs_alike = demand_3 2 0 1 whole_run early_vote whole_run_timed early_vote_timed same_moves same_votes

-- A vote behind the next delivery is too late: 12 finds 10 waiting, and is aborted for another reason.
unfoldable pub late_vote : List Event
late_vote =
    deliver 10 3 0 (7 ∷ []) (7 puts pos 500 ∷ [])
    ∷ deliver 11 1 0 (8 ∷ []) (8 puts negsuc 39 ∷ [])
    ∷ deliver 12 1 1 (7 ∷ []) (7 puts pos 600 ∷ [])
    ∷ vote 10 1 aye
    ∷ []

whole_run_answers : own_answers whole_run (opening 2 0 1) ≡ waits 1 0 (some aye) ∷ waits 2 0 none ∷ aborted 3 1 none ∷ []
unfolding computed whole_run own_answers
whole_run_answers = refl

late_vote_answers : own_answers late_vote (opening 2 0 1) ≡ waits 1 0 (some aye) ∷ waits 2 0 none ∷ aborted 3 3 none ∷ []
unfolding computed late_vote own_answers
late_vote_answers = refl

-- The same moves and votes, and not alike.
pub late_vote_differs :
    (moves whole_run ≡ moves late_vote)
    × ((i p : ℕ) (b : Ballot) → has_vote i p b whole_run ≡ has_vote i p b late_vote)
    × (Alike (opening 2 0 1) whole_run late_vote → ⊥)
unfolding moves has_vote is_vote whole_run late_vote
late_vote_differs =
    (refl, λ i p b. refl, λ alike. let reasons : ◌≡◌ {A = ℕ} 1 3 = cc (alike.answers, whole_run_answers, late_vote_answers) in omega arith)
