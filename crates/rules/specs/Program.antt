-- 01, "A program over it reads a log as text and writes the answers": bytes in, bytes out.
use Rattle.std.specs.Prelude.{ℕ, List, [], ◌∷◌, ◌++◌}
use Rattle.std.proofs.Math.Option.{Option, none, some}
use Rattle.rules.specs.Ledger.{State, opening}
use Rattle.rules.specs.Events.{Event}
use Rattle.rules.specs.Refusals.{opening_refusal, step}
use Rattle.rules.specs.Bytes.{split, newline}
use Rattle.rules.specs.Records.{Record, opens, event, unreadable, record_of}
use Rattle.rules.specs.AnswerText.{refusal_text, opened_text, step_text}

-- What a record gives: the bytes of its answer, and the state, which there is none of before opening.
pub record Told : Type 0 where
  pub text : List ℕ
  pub ledger : Option State

-- An opening: refused by its number, or the state that it gives.
abbrev pub opened_or : Option ℕ → ℕ → ℕ → ℕ → Told
opened_or none partitions own k = record { text = opened_text partitions own k; ledger = some (opening partitions own k) }
opened_or (some n) partitions own k = record { text = refusal_text n; ledger = none }

-- "a second opening"
unfoldable pub open_record : ℕ → ℕ → ℕ → Option State → Told
open_record partitions own k (some s) = record { text = refusal_text 13; ledger = some s }
open_record partitions own k none = opened_or (opening_refusal partitions own k) partitions own k

-- "event before opening"
unfoldable pub event_record : Event → Option State → Told
event_record e none = record { text = refusal_text 13; ledger = none }
event_record e (some s) = record { text = step_text e (step e s); ledger = some (step e s).next }

-- "The program looks at 14 first."
unfoldable pub take_record : Record → Option State → Told
take_record unreadable l = record { text = refusal_text 14; ledger = l }
take_record (opens partitions own k) l = open_record partitions own k l
take_record (event e) l = event_record e l

unfoldable pub take_lines : List (List ℕ) → Option State → Told
take_lines [] l = record { text = []; ledger = l }
take_lines (line ∷ lines) l =
    record {
      text = (take_record (record_of line) l).text ++ (take_lines lines (take_record (record_of line) l).ledger).text;
      ledger = (take_lines lines (take_record (record_of line) l).ledger).ledger;
    }

-- "One record a line [..] The last line may lack its newline. No input gives no output.": what stands behind the last newline is a line only if
-- it isn't empty.
unfoldable pub whole_lines : List (List ℕ) → List (List ℕ)
whole_lines [] = []
whole_lines ([] ∷ []) = []
whole_lines ((b ∷ bs) ∷ []) = (b ∷ bs) ∷ []
whole_lines (line ∷ next ∷ lines) = line ∷ whole_lines (next ∷ lines)

-- The program: what a log gives.
unfoldable pub run_text : List ℕ → Told
run_text bytes = take_lines (whole_lines (split newline bytes)) none
