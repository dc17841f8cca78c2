-- 01, "Slips that cost a fee": for each of them a case that the slip would answer otherwise, as one table under one claim.
use Rattle.std.specs.Prelude.{List, [], ◌∷◌, map, ◌≡◌, refl, pos}
use Rattle.std.proofs.Math.Option.{none, some}
use Rattle.rules.specs.Partitions.{aye, nay}
use Rattle.rules.specs.Closing.{version}
use Rattle.rules.specs.Events.{Event, vote, read, at, waits, aborted, voted, value}
use Rattle.rules.specs.Cases.{Case, row, computed, wanted, deliver, ◌puts◌, ◌ends◌, commits_up_to}
use Rattle.rules.specs.BothSides.{ten, filler}

-- A local that reads key 50.
abbrev reader : Event
reader = deliver 91 1 0 (50 ∷ []) (101 puts pos 1 ∷ [])

unfoldable pub slips : List Case
slips =
    -- "Passing tested with DC < rt: the k-th follower is turned back.": the second follower at k = 2 passes.
    row 2 (ten ∷ filler ∷ []) reader (waits 3 0 none) (91 ends version 2 ∷ []) 2
    -- "Finishing on DC = rt only: a head whose votes come late never finishes.": the vote at DC 3 finds rt = 2.
    -- "Closing one head an event, leaving ready ones behind.": the local behind it finishes with it.
    ∷ row 1 (ten ∷ filler ∷ reader ∷ []) (vote 10 1 aye) voted (10 ends version 2 ∷ 91 ends version 3 ∷ []) 3
    -- A vote that comes early waits for the threshold.
    ∷ row 1 (ten ∷ []) (vote 10 1 aye) voted [] 0
    -- "Testing commits from st on: a transaction clashes with what it has already seen.": version 1 wrote key 100.
    ∷ row 1 (filler ∷ []) (deliver 11 1 1 (100 ∷ []) []) (waits 2 0 none) (11 ends version 2 ∷ []) 2
    ∷ row 1 (filler ∷ []) (deliver 11 1 0 (100 ∷ []) []) (aborted 2 1 none) [] 1
    -- "Testing a global one on its reads alone.": it writes key 50, which version 1 read. A local one may.
    ∷ row 1 (reader ∷ []) (deliver 11 3 0 [] (50 puts pos 5 ∷ [])) (aborted 2 1 (some nay)) [] 1
    ∷ row 1 (reader ∷ []) (deliver 11 1 0 [] (50 puts pos 5 ∷ [])) (waits 2 0 none) (11 ends version 2 ∷ []) 2
    -- "Raising DC for a refused delivery, so every later threshold shifts."
    ∷ row 1 (ten ∷ deliver 0 1 0 [] [] ∷ []) filler (waits 2 0 none) (90 ends version 1 ∷ []) 1
    -- 64 are kept: at SC 64 the commit of version 1 is one of them, and a newcomer at st 0 that reads its key clashes.
    ∷ row 1 (commits_up_to 64) (deliver 1000 1 0 (1 ∷ []) []) (aborted 65 1 none) [] 64
    -- The fold: at SC 66 and st 2, the floor, version 1 is read from the values and version 3 is not yet there.
    ∷ row 1 (commits_up_to 66) (read 1 (at 2)) (value 2 (pos 1)) [] 66
    ∷ row 1 (commits_up_to 66) (read 3 (at 2)) (value 2 (pos 0)) [] 66
    ∷ []

pub the_slips : map computed slips ≡ map wanted slips
unfolding computed slips commits_up_to
the_slips = refl
