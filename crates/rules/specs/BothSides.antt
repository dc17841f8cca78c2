-- 01, "Both sides of each line": the starred cases as one table under one claim, and the others as a second.
-- "Unless said otherwise: two partitions, own 0, k = 1, delivery 10 as above waiting without votes."
use Rattle.std.specs.Prelude.{ℕ, zero, suc, ◌+◌, List, [], ◌∷◌, ◌++◌, map, ◌≡◌, refl, pos}
use Rattle.std.proofs.Math.Option.{none, some}
use Rattle.rules.specs.Partitions.{aye, nay}
use Rattle.rules.specs.Closing.{version, aborts}
use Rattle.rules.specs.Events.{Event, vote, change, refused, waits, aborted, voted, changed}
use Rattle.rules.specs.Cases.{Case, row, computed, wanted, deliver, ◌puts◌, ◌ends◌, commits_up_to}

-- "delivery 10 as above", but for its st.
abbrev ten_at : ℕ → Event
ten_at st = deliver 10 3 st (7 ∷ []) (7 puts pos 500 ∷ [])

-- "delivery 10 as above"
abbrev pub ten : Event
ten = ten_at 0

-- A local that brings DC from 1 to 2 and clashes with nothing: it commits at once, as version 1.
abbrev pub filler : Event
filler = deliver 90 1 0 [] (100 puts pos 1 ∷ [])

-- "Local reads 1, writes 3"
abbrev one_three : Event
one_three = deliver 11 1 0 (1 ∷ []) (3 puts pos 5 ∷ [])

-- "Local reads 7, writes 8"
abbrev seven_eight : Event
seven_eight = deliver 11 1 0 (7 ∷ []) (8 puts pos 5 ∷ [])

-- A local that reads nothing and writes key 5, at an st.
abbrev pub at_snapshot : ℕ → Event
at_snapshot st = deliver 1000 1 st [] (5 puts pos 5 ∷ [])

unfoldable pub starred : List Case
starred =
    -- "Local reads 1, writes 3, at DC 2: place 0."
    row 1 (ten ∷ []) one_three (waits 2 0 none) (11 ends version 1 ∷ []) 1
    -- "The same at DC 3: place 1, and it waits."
    ∷ row 1 (ten ∷ filler ∷ []) one_three (waits 3 1 none) [] 1
    -- "k = 0: the same local at DC 2: place 1."
    ∷ row 0 (ten ∷ []) one_three (waits 2 1 none) [] 0
    -- "Local reads 7, writes 8: at DC 2, place 0"
    ∷ row 1 (ten ∷ []) seven_eight (waits 2 0 none) (11 ends version 1 ∷ []) 1
    -- "at DC 3, reason 3."
    ∷ row 1 (ten ∷ filler ∷ []) seven_eight (aborted 3 3 none) [] 1
    -- "Local reads nothing, writes 7, at DC 2: place 1."
    ∷ row 1 (ten ∷ []) (deliver 11 1 0 [] (7 puts pos 5 ∷ [])) (waits 2 1 none) [] 0
    -- "Local reads 7, writes 7, at DC 2: reason 3."
    ∷ row 1 (ten ∷ []) (deliver 11 1 0 (7 ∷ []) (7 puts pos 5 ∷ [])) (aborted 2 3 none) [] 0
    -- "Global reads 9, writes 7: reason 2."
    ∷ row 1 (ten ∷ []) (deliver 11 3 0 (9 ∷ []) (7 puts pos 5 ∷ [])) (aborted 2 2 (some nay)) [] 0
    -- "st = SC is taken": SC is 1, and delivery 10, which came at DC 2, is passed at DC 3.
    ∷ row 1 (filler ∷ ten ∷ []) (at_snapshot 1) (waits 3 0 none) (1000 ends version 2 ∷ []) 2
    -- "SC + 1 is 5."
    ∷ row 1 (filler ∷ ten ∷ []) (at_snapshot 2) (refused 5) [] 1
    -- "SC 64: st 0 is taken." Delivery 10 comes behind the 64 commits, at st 64: at st 0 it would clash with version 7, which wrote key 7.
    ∷ row 1 (commits_up_to 64 ++ ten_at 64 ∷ []) (at_snapshot 0) (waits 66 0 none) (1000 ends version 65 ∷ []) 65
    -- "SC 65: st 0 is 6". Delivery 10 comes behind the 65 commits, at st 65: at st 0 it would itself be 6.
    ∷ row 1 (commits_up_to 65 ++ ten_at 65 ∷ []) (at_snapshot 0) (refused 6) [] 65
    -- "st 1 is taken."
    ∷ row 1 (commits_up_to 65 ++ ten_at 65 ∷ []) (at_snapshot 1) (waits 67 0 none) (1000 ends version 66 ∷ []) 66
    -- "Vote N at DC 2: B 10, SC as before."
    ∷ row 1 (ten ∷ filler ∷ []) (vote 10 1 nay) voted (10 ends aborts ∷ []) 1
    -- "The vote again: 9."
    ∷ row 1 (ten ∷ filler ∷ vote 10 1 nay ∷ []) (vote 10 1 nay) (refused 9) [] 1
    ∷ []

pub the_starred_cases : map computed starred ≡ map wanted starred
unfolding computed starred commits_up_to
the_starred_cases = refl

-- Delivery 10 and so many locals that wait behind it: with k = 0 none may pass it.
unfoldable pub behind_ten : ℕ → List Event
behind_ten zero = ten ∷ []
behind_ten (suc n) = behind_ten n ++ deliver (n + 11) 1 0 [] (1 puts pos 5 ∷ []) ∷ []

unfoldable pub unstarred : List Case
unstarred =
    -- "Vote again while waiting: 11."
    row 1 (ten ∷ vote 10 1 aye ∷ []) (vote 10 1 nay) (refused 11) [] 0
    -- "Vote from partition 0: 10."
    ∷ row 1 (ten ∷ []) (vote 10 0 aye) (refused 10) [] 0
    -- "Key 1,023 taken"
    ∷ row 1 (ten ∷ []) (deliver 11 1 0 [] (1023 puts pos 5 ∷ [])) (waits 2 0 none) (11 ends version 1 ∷ []) 1
    -- "1,024 is 3."
    ∷ row 1 (ten ∷ []) (deliver 11 1 0 [] (1024 puts pos 5 ∷ [])) (refused 3) [] 0
    -- "k 31 taken"
    ∷ row 1 (ten ∷ []) (change 31) changed [] 0
    -- "32 is 12."
    ∷ row 1 (ten ∷ []) (change 32) (refused 12) [] 0
    -- "With 31 waiting a delivery is taken"
    ∷ row 0 (behind_ten 30) (deliver 50 1 0 [] (1 puts pos 5 ∷ [])) (waits 32 31 none) [] 0
    -- "with 32 it is 7."
    ∷ row 0 (behind_ten 31) (deliver 50 1 0 [] (1 puts pos 5 ∷ [])) (refused 7) [] 0
    ∷ []

pub the_unstarred_cases : map computed unstarred ≡ map wanted unstarred
unfolding computed unstarred behind_ten
the_unstarred_cases = refl
