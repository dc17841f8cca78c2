-- 01, "A whole run": its seven records, and the lines that they must give.
use Rattle.std.specs.Prelude.{List, [], ◌∷◌, map, ◌≡◌, refl, pos, negsuc}
use Rattle.std.proofs.Math.Option.{none, some}
use Rattle.rules.specs.Partitions.{aye}
use Rattle.rules.specs.Ledger.{opening}
use Rattle.rules.specs.Closing.{version}
use Rattle.rules.specs.Events.{Event, vote, read, at, newest, waits, aborted, voted, value}
use Rattle.rules.specs.Logs.{steps}
use Rattle.rules.specs.Cases.{seen_of, computed, deliver, ◌puts◌, ◌ends◌}

-- O|2|0|1 opens; the other six records:
unfoldable pub whole_run : List Event
whole_run =
    deliver 10 3 0 (7 ∷ []) (7 puts pos 500 ∷ [])
    ∷ deliver 11 1 0 (8 ∷ []) (8 puts negsuc 39 ∷ [])
    ∷ vote 10 1 aye
    ∷ read 8 newest
    ∷ read 7 (at 1)
    ∷ deliver 12 1 1 (7 ∷ []) (7 puts pos 600 ∷ [])
    ∷ []

-- W|10|1|0, W|11|2|0 with C|11|1, V|10|1 with C|10|2, R|8|2|-40, R|7|1|0, A|12|3|1
pub the_whole_run : map seen_of (steps whole_run (opening 2 0 1)) ≡
    record { answer = waits 1 0 (some aye); lines = []; sc = 0 }
    ∷ record { answer = waits 2 0 none; lines = 11 ends version 1 ∷ []; sc = 1 }
    ∷ record { answer = voted; lines = 10 ends version 2 ∷ []; sc = 2 }
    ∷ record { answer = value 2 (negsuc 39); lines = []; sc = 2 }
    ∷ record { answer = value 1 (pos 0); lines = []; sc = 2 }
    ∷ record { answer = aborted 3 1 none; lines = []; sc = 2 }
    ∷ []
unfolding computed whole_run
the_whole_run = refl
