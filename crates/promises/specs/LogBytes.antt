-- The words of the promises: the bytes of a log as records, an opening and events, and what their text must be; the bytes out as lines.
use Rattle.std.specs.Prelude.{ℕ, ◌+◌, Bool, false, not, cond, ◌||◌, List, [], ◌∷◌, ◌++◌, map, eqb, length, drop}
use Rattle.std.specs.List.{filter, count_by}
use Rattle.std.proofs.Math.Option.{Option, none, some}
use Rattle.rules.specs.Ledger.{State, opening, sizes_fit}
use Rattle.rules.specs.Events.{Event, delivery, vote, change, read, Answer, Step}
use Rattle.rules.specs.Bytes.{split, newline}
use Rattle.rules.specs.Records.{Record, opens, event, unreadable, record_of}
use Rattle.rules.specs.AnswerText.{refusal_text, delivery_text, step_text}
use Rattle.rules.specs.Program.{whole_lines}

-- "One record a line"
abbrev pub lines : List ℕ → List (List ℕ)
lines bytes = whole_lines (split newline bytes)

abbrev pub records : List ℕ → List Record
records log = map record_of (lines log)

-- "O partitions, own, k"
pub record Sizes : Type 0 where
  pub partitions : ℕ
  pub own : ℕ
  pub k : ℕ

-- "opening: sizes outside the table" is refused, so an O is accepted where they are in it.
abbrev pub is_accepted : Record → Bool
is_accepted (opens partitions own k) = sizes_fit partitions own k
is_accepted (event e) = false
is_accepted unreadable = false

-- What opens the engine: the first O that is accepted, with the records before it and those behind it.
pub record Opened : Type 0 where
  pub before : List Record
  pub sizes : Sizes
  pub behind : List Record

abbrev pub preceded : Record → Option Opened → Option Opened
preceded r none = none
preceded r (some o) = some (record { before = r ∷ o.before; sizes = o.sizes; behind = o.behind })

unfoldable pub opened_by : List Record → Option Opened
opened_by [] = none
opened_by (opens partitions own k ∷ rs) =
    cond (sizes_fit partitions own k)
    (some (record { before = []; sizes = record { partitions = partitions; own = own; k = k }; behind = rs }))
    (preceded (opens partitions own k) (opened_by rs))
opened_by (event e ∷ rs) = preceded (event e) (opened_by rs)
opened_by (unreadable ∷ rs) = preceded unreadable (opened_by rs)

-- The events among some records, "in log order": a line that can't be read is none, nor is an opening.
unfoldable pub events_in : List Record → List Event
events_in [] = []
events_in (event e ∷ rs) = e ∷ events_in rs
events_in (opens partitions own k ∷ rs) = events_in rs
events_in (unreadable ∷ rs) = events_in rs

-- The state at opening, and the events behind it.
abbrev pub start : Opened → State
start o = opening o.sizes.partitions o.sizes.own o.sizes.k

abbrev pub events_of : Opened → List Event
events_of o = events_in o.behind

-- The text of the records before the opening: 14 for a line that can't be read, and for all else 13, "event before opening" or "sizes outside the table".
unfoldable pub text_before : List Record → List ℕ
text_before [] = []
text_before (event e ∷ rs) = refusal_text 13 ++ text_before rs
text_before (opens partitions own k ∷ rs) = refusal_text 13 ++ text_before rs
text_before (unreadable ∷ rs) = refusal_text 14 ++ text_before rs

-- The text of the records behind it: of each event the text of its step, one after the other; between them 14 for a line that can't be read, 13 for
-- "a second opening".
unfoldable pub text_behind : List Record → List Step → List ℕ
text_behind [] later = []
text_behind (event e ∷ rs) [] = []
text_behind (event e ∷ rs) (now ∷ later) = step_text e now ++ text_behind rs later
text_behind (opens partitions own k ∷ rs) later = refusal_text 13 ++ text_behind rs later
text_behind (unreadable ∷ rs) later = refusal_text 14 ++ text_behind rs later

-- The first letters of answer lines: "W identity, DC, place; A identity, DC, reason", "C identity, version; or B identity".
abbrev pub letter_w : ℕ
letter_w = 87

abbrev pub letter_a : ℕ
letter_a = 65

abbrev pub letter_c : ℕ
letter_c = 67

abbrev pub letter_b : ℕ
letter_b = 66

abbrev pub begins : ℕ → List ℕ → Bool
begins letter [] = false
begins letter (b ∷ bs) = eqb b letter

-- How many lines begin with a letter.
abbrev pub lines_of : ℕ → List ℕ → ℕ
lines_of letter bytes = count_by (begins letter) (lines bytes)

-- "After its event, one line a finish: C identity, version; or B identity." Every other line is a record's own answer.
abbrev pub is_finish : List ℕ → Bool
is_finish line = begins letter_c line || begins letter_b line

abbrev pub finish_lines : List ℕ → List (List ℕ)
finish_lines bytes = filter is_finish (lines bytes)

abbrev pub own_lines : List ℕ → List (List ℕ)
own_lines bytes = filter (λ line. not (is_finish line)) (lines bytes)

-- Of a line for each record, those of the deliveries.
unfoldable pub at_deliveries : List Record → List (List ℕ) → List (List ℕ)
at_deliveries [] ls = []
at_deliveries (r ∷ rs) [] = []
at_deliveries (event (delivery t) ∷ rs) (line ∷ ls) = line ∷ at_deliveries rs ls
at_deliveries (event (vote i p b) ∷ rs) (line ∷ ls) = at_deliveries rs ls
at_deliveries (event (change k) ∷ rs) (line ∷ ls) = at_deliveries rs ls
at_deliveries (event (read key st) ∷ rs) (line ∷ ls) = at_deliveries rs ls
at_deliveries (opens partitions own k ∷ rs) (line ∷ ls) = at_deliveries rs ls
at_deliveries (unreadable ∷ rs) (line ∷ ls) = at_deliveries rs ls

-- "each delivery's own answer", of those behind the opening: the records before it and the opening itself have an own line each.
abbrev pub delivery_lines : Opened → List ℕ → List (List ℕ)
delivery_lines o bytes = at_deliveries o.behind (drop (length o.before + 1) (own_lines bytes))

-- The same by the rules: the lines of the answers that deliveries get, one after the other.
unfoldable pub told_lines : List Event → List Answer → List (List ℕ)
told_lines [] answers = []
told_lines (delivery t ∷ es) [] = []
told_lines (delivery t ∷ es) (a ∷ answers) = lines (delivery_text t.identity a) ++ told_lines es answers
told_lines (vote i p b ∷ es) answers = told_lines es answers
told_lines (change k ∷ es) answers = told_lines es answers
told_lines (read key st ∷ es) answers = told_lines es answers
