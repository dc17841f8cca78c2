-- The words of the promises compute, and demand 3 of bytes isn't empty: 01's whole run as bytes opens an engine and has the events of the run, and so has a log of other bytes, with the
-- vote early, a line that can't be read, an event before the opening and a second opening, and no reads.
use Rattle.std.specs.Prelude.{ℕ, List, [], ◌∷◌, map, ◌≡◌, refl, pos, negsuc}
use Rattle.std.proofs.Math.Option.{Option, some, bind}
use Rattle.rules.specs.Partitions.{aye}
use Rattle.rules.specs.Ledger.{sizes_fit}
use Rattle.rules.specs.Events.{vote, read, newest}
use Rattle.rules.specs.Bytes.{split, is_digit, digits_value, well_led, number, signed}
use Rattle.rules.specs.Records.{opens, event, unreadable, each_part, list_of, write_parts, a_write, a_ballot, a_snapshot, opening_fields, delivery_fields, vote_fields, change_fields, read_fields, by_letter, by_fields, record_of}
use Rattle.rules.specs.Program.{whole_lines}
use Rattle.rules.specs.Cases.{deliver, ◌puts◌}
use Rattle.rules.specs.WholeRun.{whole_run}
use Rattle.rules.specs.WholeRunText.{the_log}
use Rattle.claims.specs.Timing.{moves, is_vote, has_vote}
use Rattle.claims.specs.RealLogs.{early_vote, whole_run_timed, early_vote_timed}
use Rattle.promises.specs.Callers.{Caller, log, Whole}
use Rattle.promises.specs.LogBytes.{records, Sizes, Opened, opened_by, events_in}
use Rattle.promises.specs.Promises.{SameMovesAndVotes, AlikeBytes, demand_3_of_bytes}

abbrev two_own_0 : Sizes
two_own_0 = record { partitions = 2; own = 0; k = 1 }

abbrev run_opened : Opened
run_opened = record { before = []; sizes = two_own_0; behind = map event whole_run }

-- What opens a log, by computing. The line opens all that this takes, so that each claim opens this one name.
unfoldable computed : List ℕ → Option Opened
unfolding
    sizes_fit
    split is_digit digits_value well_led number signed
    bind each_part list_of write_parts a_write a_ballot a_snapshot
    opening_fields delivery_fields vote_fields change_fields read_fields by_letter by_fields record_of
    whole_lines opened_by
computed bytes = opened_by (records bytes)

pub whole_run_opens : opened_by (records the_log) ≡ some run_opened
unfolding computed the_log whole_run
whole_run_opens = refl

-- `|` stands for the tab, and the last line lacks its newline.
unfoldable pub another_log : List ℕ
another_log =
    -- R|7|-
    82 ∷ 9 ∷ 55 ∷ 9 ∷ 45 ∷ 10
    -- O|2|0|1
    ∷ 79 ∷ 9 ∷ 50 ∷ 9 ∷ 48 ∷ 9 ∷ 49 ∷ 10
    -- an empty line
    ∷ 10
    -- D|10|3|0|7|7=500
    ∷ 68 ∷ 9 ∷ 49 ∷ 48 ∷ 9 ∷ 51 ∷ 9 ∷ 48 ∷ 9 ∷ 55 ∷ 9 ∷ 55 ∷ 61 ∷ 53 ∷ 48 ∷ 48 ∷ 10
    -- V|10|1|Y
    ∷ 86 ∷ 9 ∷ 49 ∷ 48 ∷ 9 ∷ 49 ∷ 9 ∷ 89 ∷ 10
    -- O|1|0|0
    ∷ 79 ∷ 9 ∷ 49 ∷ 9 ∷ 48 ∷ 9 ∷ 48 ∷ 10
    -- D|11|1|0|8|8=-40
    ∷ 68 ∷ 9 ∷ 49 ∷ 49 ∷ 9 ∷ 49 ∷ 9 ∷ 48 ∷ 9 ∷ 56 ∷ 9 ∷ 56 ∷ 61 ∷ 45 ∷ 52 ∷ 48 ∷ 10
    -- D|12|1|1|7|7=600
    ∷ 68 ∷ 9 ∷ 49 ∷ 50 ∷ 9 ∷ 49 ∷ 9 ∷ 49 ∷ 9 ∷ 55 ∷ 9 ∷ 55 ∷ 61 ∷ 54 ∷ 48 ∷ 48
    ∷ []

abbrev another_opened : Opened
another_opened =
    record {
      before = event (read 7 newest) ∷ [];
      sizes = two_own_0;
      behind = unreadable
          ∷ event (deliver 10 3 0 (7 ∷ []) (7 puts pos 500 ∷ []))
          ∷ event (vote 10 1 aye)
          ∷ opens 1 0 0
          ∷ event (deliver 11 1 0 (8 ∷ []) (8 puts negsuc 39 ∷ []))
          ∷ event (deliver 12 1 1 (7 ∷ []) (7 puts pos 600 ∷ []))
          ∷ [];
    }

pub another_opens : opened_by (records another_log) ≡ some another_opened
unfolding computed another_log
another_opens = refl

-- So demand 3 holds of the two, whoever gives them to `feed`, and in whatever pieces.
pub same_moves_and_votes : SameMovesAndVotes run_opened another_opened
unfolding events_in moves has_vote is_vote whole_run early_vote
same_moves_and_votes = record { sizes = refl; moved = refl; voted = λ i p b. refl; timed = whole_run_timed; also_timed = early_vote_timed }

pub real_bytes_alike : (b c : Caller) → Whole b → Whole c → log b ≡ the_log → log c ≡ another_log → AlikeBytes b c run_opened another_opened
real_bytes_alike b c b_whole c_whole one other =
    demand_3_of_bytes b c b_whole c_whole run_opened another_opened (rw one whole_run_opens) (rw other another_opens) same_moves_and_votes
