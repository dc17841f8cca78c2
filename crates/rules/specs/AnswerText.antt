-- 01, "The log as text": the lines that answer a record.
use Rattle.std.specs.Prelude.{ℕ, List, [], ◌∷◌, ◌++◌}
use Rattle.rules.specs.Closing.{Outcome, version, aborts, Finish}
use Rattle.rules.specs.Events.{Event, delivery, vote, change, read, Answer, refused, waits, aborted, voted, changed, value, Step}
use Rattle.rules.specs.Bytes.{decimal_text, signed_text, tab_byte, newline}

-- A tab and a number; the end of a line.
abbrev pub field : ℕ → List ℕ → List ℕ
field n rest = tab_byte ∷ (decimal_text n ++ rest)

abbrev pub end : List ℕ
end = newline ∷ []

-- "X number"
unfoldable pub refusal_text : ℕ → List ℕ
refusal_text n = 88 ∷ field n end

-- "O [..] repeated"
unfoldable pub opened_text : ℕ → ℕ → ℕ → List ℕ
opened_text partitions own k = 79 ∷ field partitions (field own (field k end))

-- "After its event, one line a finish: C identity, version; or B identity."
unfoldable pub outcome_text : ℕ → Outcome → List ℕ
outcome_text identity (version v) = 67 ∷ field identity (field v end)
outcome_text identity aborts = 66 ∷ field identity end

unfoldable pub finishes_text : List Finish → List ℕ
finishes_text [] = []
finishes_text (f ∷ fs) = outcome_text f.transaction.identity f.outcome ++ finishes_text fs

-- "W identity, DC, place; A identity, DC, reason"
unfoldable pub delivery_text : ℕ → Answer → List ℕ
delivery_text identity (refused n) = refusal_text n
delivery_text identity (waits dc place send) = 87 ∷ field identity (field dc (field place end))
delivery_text identity (aborted dc reason send) = 65 ∷ field identity (field dc (field reason end))
delivery_text identity voted = []
delivery_text identity changed = []
delivery_text identity (value st v) = []

-- "V (identity, partition) [..] repeated"
unfoldable pub vote_text : ℕ → ℕ → Answer → List ℕ
vote_text identity partition (refused n) = refusal_text n
vote_text identity partition voted = 86 ∷ field identity (field partition end)
vote_text identity partition (waits dc place send) = []
vote_text identity partition (aborted dc reason send) = []
vote_text identity partition changed = []
vote_text identity partition (value st v) = []

-- "K repeated"
unfoldable pub change_text : ℕ → Answer → List ℕ
change_text k (refused n) = refusal_text n
change_text k changed = 75 ∷ field k end
change_text k voted = []
change_text k (waits dc place send) = []
change_text k (aborted dc reason send) = []
change_text k (value st v) = []

-- "R key, st, value"
unfoldable pub read_text : ℕ → Answer → List ℕ
read_text key (refused n) = refusal_text n
read_text key (value st v) = 82 ∷ field key (field st (tab_byte ∷ (signed_text v ++ end)))
read_text key voted = []
read_text key changed = []
read_text key (waits dc place send) = []
read_text key (aborted dc reason send) = []

unfoldable pub answer_text : Event → Answer → List ℕ
answer_text (delivery t) a = delivery_text t.identity a
answer_text (vote i p b) a = vote_text i p a
answer_text (change k) a = change_text k a
answer_text (read key st) a = read_text key a

-- The answer, then the finishes.
unfoldable pub step_text : Event → Step → List ℕ
step_text e r = answer_text e r.answer ++ finishes_text r.finishes
