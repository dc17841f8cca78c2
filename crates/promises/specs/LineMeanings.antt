-- What an event's own line says, in document 01's words: when it is X and with which number, W and with which place, A and with which reason, R and with which value; of the state behind
-- the events before it.
use Rattle.std.specs.Prelude.{ℕ, ◌+◌, List, ◌∷◌, ◌++◌, ◌≡◌, ℤ}
use Rattle.std.proofs.Math.Option.{none}
use Rattle.std.proofs.Common.{ap, ap₂, ◌∙◌, append-nil}
use Rattle.rules.specs.Ledger.{Transaction, State, opening}
use Rattle.rules.specs.Closing.{Finish}
use Rattle.rules.specs.Delivery.{ticked}
use Rattle.rules.specs.Events.{Event, delivery, vote, change, read, Answer, Snapshot, snapshot}
use Rattle.rules.specs.Refusals.{checks, refusal, step}
use Rattle.rules.specs.Logs.{last}
use Rattle.rules.specs.Bytes.{signed_text, tab_byte}
use Rattle.rules.specs.AnswerText.{field, end, refusal_text, delivery_text, vote_text, change_text, read_text, answer_text, finishes_text, step_text}
use Rattle.claims.specs.Refused.{Given, step_answers}
use Rattle.claims.specs.Clashes.{ClashingCommit}
use Rattle.claims.specs.Fates.{NoPlace, Entangled, Placed}
use Rattle.claims.specs.Deliveries.{abort_answer, wait_answer, reason_1_exactly, reason_2_exactly, reason_3_exactly, place_exactly}
use Rattle.claims.specs.History.{committed_by}
use Rattle.claims.specs.Reads.{NewestValue, up_to, read_exactly}

abbrev pub own_text : Event → State → List ℕ
own_text e s = answer_text e (step e s).answer

-- "given only when its condition holds and no earlier check applies": X and the number.
pub number_told : (e : Event) (s : State) (n : ℕ) → Given (checks e s) n → own_text e s ≡ refusal_text n
unfolding answer_text delivery_text vote_text change_text read_text
number_told (delivery t) s n given = ap (delivery_text t.identity) ((step_answers (delivery t) s n).1 given)
number_told (vote i p b) s n given = ap (vote_text i p) ((step_answers (vote i p b) s n).1 given)
number_told (change k) s n given = ap (change_text k) ((step_answers (change k) s n).1 given)
number_told (read key st) s n given = ap (read_text key) ((step_answers (read key st) s n).1 given)

module _ (t : Transaction) (s : State) (taken : refusal (delivery t) s ≡ none) where
  abbrev pub reason_line : ℕ → List ℕ
  reason_line reason = 65 ∷ field t.identity (field (s.clock.dc + 1) (field reason end))

  told : (a : Answer) → (step (delivery t) s).answer ≡ a → own_text (delivery t) s ≡ answer_text (delivery t) a
  told a e = ap (answer_text (delivery t)) e

  -- "W identity, DC, place": "A local one takes the smallest place i", a global one "joins at the end".
  pub place_told : (i : ℕ) → Placed (ticked s.clock) t s.waiting s.books i → own_text (delivery t) s ≡ 87 ∷ field t.identity (field (s.clock.dc + 1) (field i end))
  unfolding answer_text delivery_text
  place_told i placed = told (wait_answer t s i) ((place_exactly t s taken i).1 placed)

  -- "A identity, DC, reason"
  pub reason_1_told : ClashingCommit s.clock.own t s.books → own_text (delivery t) s ≡ reason_line 1
  unfolding answer_text delivery_text
  reason_1_told clashing = told (abort_answer t s 1) ((reason_1_exactly t s taken).1 clashing)

  pub reason_2_told : Entangled (ticked s.clock) t s.waiting s.books → own_text (delivery t) s ≡ reason_line 2
  unfolding answer_text delivery_text
  reason_2_told entangled = told (abort_answer t s 2) ((reason_2_exactly t s taken).1 entangled)

  pub reason_3_told : NoPlace (ticked s.clock) t s.waiting s.books → own_text (delivery t) s ≡ reason_line 3
  unfolding answer_text delivery_text
  reason_3_told nowhere = told (abort_answer t s 3) ((reason_3_exactly t s taken).1 nowhere)

-- "R key, st, value": "the value of the newest version that is at most st", of what a log from opening committed before it. It finishes nothing.
pub record ReadTold (es : List Event) (s : State) (key : ℕ) (st : Snapshot) : Type 0 where
  pub value : ℤ
  pub newest : NewestValue key (up_to (snapshot st (last es s)) (committed_by es s)) value
  pub text : step_text (read key st) (step (read key st) (last es s)) ≡ 82 ∷ field key (field (snapshot st (last es s)) (tab_byte ∷ (signed_text value ++ end)))

pub read_told : (es : List Event) (partitions own k key : ℕ) (st : Snapshot) → refusal (read key st) (last es (opening partitions own k)) ≡ none
    → ReadTold es (opening partitions own k) key st
unfolding step_text answer_text read_text finishes_text
read_told es partitions own k key st taken =
    let r = read_exactly es partitions own k key st taken in
    let line = 82 ∷ field key (field (snapshot st (last es (opening partitions own k))) (tab_byte ∷ (signed_text r.value_read ++ end))) in
    record {
      value = r.value_read;
      newest = r.newest;
      text = ap₂ (λ (a : Answer) (fs : List Finish). read_text key a ++ finishes_text fs) r.answers r.finishes_nothing ∙ append-nil line;
    }
