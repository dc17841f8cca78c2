-- The lines of the text that answers a log: an own line for each record and a line for each finish, in their order; how many there are with a letter.
use Rattle.std.specs.Prelude.{ℕ, suc, ◌+◌, Bool, true, false, not, ◌||◌, List, [], ◌∷◌, ◌++◌, map, ◌≡◌, refl, eqb, length, drop}
use Rattle.std.specs.List.{filter}
use Rattle.std.proofs.Math.Seq.{drop-append-add}
use Rattle.std.proofs.Common.{sym, ap, ap₂, ◌∙◌, arith, append_assoc, append-nil, length-append}
use Rattle.std.proofs.lemmas.List.{map-append, length-map}
use Rattle.std.proofs.lemmas.List.Elements.{filter-append}
use Rattle.rules.specs.Ledger.{Transaction, State}
use Rattle.rules.specs.Closing.{Outcome, version, aborts, Finish}
use Rattle.rules.specs.Events.{Event, delivery, vote, change, read, Answer, refused, waits, aborted, voted, changed, value}
use Rattle.rules.specs.Refusals.{step}
use Rattle.rules.specs.Logs.{steps, finishes}
use Rattle.rules.specs.Records.{Record, opens, event, unreadable}
use Rattle.rules.specs.AnswerText.{refusal_text, opened_text, outcome_text, finishes_text, delivery_text, answer_text, step_text}
use Rattle.claims.specs.Timing.{moves, own_answers}
use Rattle.promises.specs.LogBytes.{lines, Opened, events_in, start, events_of, text_before, text_behind, letter_c, letter_b, is_finish, finish_lines, own_lines, at_deliveries, delivery_lines, told_lines}
use Rattle.promises.specs.LogEvents.{number_before, text_before_one}
use Rattle.promises.specs.OneLine.{no_lines, OneLine, refusal_line, opened_line, outcome_letter, outcome_line, own_letter, own_line}

-- The line that a text is.
abbrev pub the_line : {letter : ℕ} {text : List ℕ} → OneLine letter text → List ℕ
the_line {letter} one = letter ∷ one.fields

unfoldable pub number_line : ℕ → List ℕ
number_line n = the_line (refusal_line n)

unfoldable pub finish_line : Finish → List ℕ
finish_line f = the_line (outcome_line f.transaction.identity f.outcome)

unfoldable pub event_line : Event → State → List ℕ
event_line e s = the_line (own_line e s)

-- The lines of the records before the opening, and of those behind it.
unfoldable pub lines_before : List Record → List (List ℕ)
lines_before rs = map (λ r. number_line (number_before r)) rs

unfoldable pub lines_behind : List Record → State → List (List ℕ)
lines_behind [] s = []
lines_behind (event e ∷ rs) s = event_line e s ∷ (map finish_line (step e s).finishes ++ lines_behind rs (step e s).next)
lines_behind (opens partitions own k ∷ rs) s = number_line 13 ∷ lines_behind rs s
lines_behind (unreadable ∷ rs) s = number_line 14 ∷ lines_behind rs s

before_are : (rs : List Record) (others : List ℕ) → lines (text_before rs ++ others) ≡ lines_before rs ++ lines others
unfolding text_before lines_before number_line
before_are [] others = refl
before_are (r ∷ rs) others =
    ap (λ (t : List ℕ). lines (t ++ others)) (text_before_one r rs)
    ∙ ap lines (append_assoc (refusal_text (number_before r)) (text_before rs) others)
    ∙ (refusal_line (number_before r)).before (text_before rs ++ others)
    ∙ ap (λ (ls : List (List ℕ)). number_line (number_before r) ∷ ls) (before_are rs others)

finishes_are : (fs : List Finish) (others : List ℕ) → lines (finishes_text fs ++ others) ≡ map finish_line fs ++ lines others
unfolding finishes_text finish_line
finishes_are [] others = refl
finishes_are (f ∷ fs) others =
    ap lines (append_assoc (outcome_text f.transaction.identity f.outcome) (finishes_text fs) others)
    ∙ (outcome_line f.transaction.identity f.outcome).before (finishes_text fs ++ others)
    ∙ ap (λ (ls : List (List ℕ)). finish_line f ∷ ls) (finishes_are fs others)

finishes_alone : (fs : List Finish) → lines (finishes_text fs) ≡ map finish_line fs
finishes_alone fs =
    ap lines (sym (append-nil (finishes_text fs))) ∙ finishes_are fs [] ∙ ap (λ (ls : List (List ℕ)). map finish_line fs ++ ls) no_lines ∙ append-nil (map finish_line fs)

behind_are : (rs : List Record) (s : State) → lines (text_behind rs (steps (events_in rs) s)) ≡ lines_behind rs s
unfolding text_behind events_in steps lines_behind number_line event_line step_text
behind_are [] s = no_lines
behind_are (event e ∷ rs) s =
    let more = text_behind rs (steps (events_in rs) (step e s).next) in
    ap lines (append_assoc (answer_text e (step e s).answer) (finishes_text (step e s).finishes) more)
    ∙ (own_line e s).before (finishes_text (step e s).finishes ++ more)
    ∙ ap (λ (ls : List (List ℕ)). event_line e s ∷ ls)
    (finishes_are (step e s).finishes more ∙ ap (λ (ls : List (List ℕ)). map finish_line (step e s).finishes ++ ls) (behind_are rs (step e s).next))
behind_are (opens partitions own k ∷ rs) s = (refusal_line 13).before _ ∙ ap (λ (ls : List (List ℕ)). number_line 13 ∷ ls) (behind_are rs s)
behind_are (unreadable ∷ rs) s = (refusal_line 14).before _ ∙ ap (λ (ls : List (List ℕ)). number_line 14 ∷ ls) (behind_are rs s)

-- Which of them are finishes.
pub own_is_none : (a : Answer) → (eqb (own_letter a) letter_c || eqb (own_letter a) letter_b) ≡ false
own_is_none (refused n) = refl
own_is_none (waits dc place send) = refl
own_is_none (aborted dc reason send) = refl
own_is_none voted = refl
own_is_none changed = refl
own_is_none (value st v) = refl

outcome_is_one : (o : Outcome) → (eqb (outcome_letter o) letter_c || eqb (outcome_letter o) letter_b) ≡ true
outcome_is_one (version v) = refl
outcome_is_one aborts = refl

event_no_finish : (e : Event) (s : State) → is_finish (event_line e s) ≡ false
unfolding event_line
event_no_finish e s = own_is_none (step e s).answer

number_no_finish : (n : ℕ) → is_finish (number_line n) ≡ false
unfolding number_line
number_no_finish n = refl

finish_is_one : (f : Finish) → is_finish (finish_line f) ≡ true
unfolding finish_line
finish_is_one f = outcome_is_one f.outcome

abbrev is_own : List ℕ → Bool
is_own line = not (is_finish line)

module _ {A : Type 0} (p : A → Bool) where
  kept_all : {B : Type 0} (f : B → A) → ((x : B) → p (f x) ≡ true) → (xs : List B) → filter p (map f xs) ≡ map f xs
  kept_all f h [] = refl
  kept_all f h (x ∷ xs) = rw (h x) (ap (λ (l : List A). f x ∷ l) (kept_all f h xs))

  kept_none : {B : Type 0} (f : B → A) → ((x : B) → p (f x) ≡ false) → (xs : List B) → filter p (map f xs) ≡ []
  kept_none f h [] = refl
  kept_none f h (x ∷ xs) = rw (h x) (kept_none f h xs)

finishes_kept : (rs : List Record) (s : State) → filter is_finish (lines_behind rs s) ≡ map finish_line (finishes (events_in rs) s)
unfolding lines_behind events_in finishes
finishes_kept [] s = refl
finishes_kept (event e ∷ rs) s =
    let now = (step e s).finishes in
    rw (event_no_finish e s)
    (filter-append is_finish (map finish_line now) (lines_behind rs (step e s).next)
    ∙ ap₂ (λ (ls ks : List (List ℕ)). ls ++ ks) (kept_all is_finish finish_line finish_is_one now) (finishes_kept rs (step e s).next)
    ∙ sym (map-append finish_line now (finishes (events_in rs) (step e s).next)))
finishes_kept (opens partitions own k ∷ rs) s = rw (number_no_finish 13) (finishes_kept rs s)
finishes_kept (unreadable ∷ rs) s = rw (number_no_finish 14) (finishes_kept rs s)

-- One own line for each record.
own_behind : List Record → State → List (List ℕ)
own_behind [] s = []
own_behind (event e ∷ rs) s = event_line e s ∷ own_behind rs (step e s).next
own_behind (opens partitions own k ∷ rs) s = number_line 13 ∷ own_behind rs s
own_behind (unreadable ∷ rs) s = number_line 14 ∷ own_behind rs s

finish_not_own : (f : Finish) → is_own (finish_line f) ≡ false
finish_not_own f = rw (finish_is_one f)

number_is_own : (n : ℕ) → is_own (number_line n) ≡ true
number_is_own n = rw (number_no_finish n)

own_kept : (rs : List Record) (s : State) → filter is_own (lines_behind rs s) ≡ own_behind rs s
unfolding lines_behind own_behind
own_kept [] s = refl
own_kept (event e ∷ rs) s =
    let now = (step e s).finishes in
    rw (event_no_finish e s)
    (ap (λ (ls : List (List ℕ)). event_line e s ∷ ls)
    (filter-append is_own (map finish_line now) (lines_behind rs (step e s).next)
    ∙ ap₂ (λ (ls ks : List (List ℕ)). ls ++ ks) (kept_none is_own finish_line finish_not_own now) (own_kept rs (step e s).next)))
own_kept (opens partitions own k ∷ rs) s = rw (number_no_finish 13) (ap (λ (ls : List (List ℕ)). number_line 13 ∷ ls) (own_kept rs s))
own_kept (unreadable ∷ rs) s = rw (number_no_finish 14) (ap (λ (ls : List (List ℕ)). number_line 14 ∷ ls) (own_kept rs s))

own_length : (rs : List Record) (s : State) → length (own_behind rs s) ≡ length rs
unfolding own_behind
own_length [] s = refl
own_length (event e ∷ rs) s = ap suc (own_length rs (step e s).next)
own_length (opens partitions own k ∷ rs) s = ap suc (own_length rs s)
own_length (unreadable ∷ rs) s = ap suc (own_length rs s)

-- A delivery's own line is that of its own answer.
event_told : (t : Transaction) (s : State) → lines (delivery_text t.identity (step (delivery t) s).answer) ≡ event_line (delivery t) s ∷ []
unfolding event_line answer_text
event_told t s =
    ap lines (sym (append-nil (delivery_text t.identity (step (delivery t) s).answer)))
    ∙ (own_line (delivery t) s).before []
    ∙ ap (λ (ls : List (List ℕ)). event_line (delivery t) s ∷ ls) no_lines

deliveries_told : (rs : List Record) (s : State) → at_deliveries rs (own_behind rs s) ≡ told_lines (moves (events_in rs)) (own_answers (events_in rs) s)
unfolding own_behind events_in moves own_answers told_lines at_deliveries
deliveries_told [] s = refl
deliveries_told (event (delivery t) ∷ rs) s =
    ap (λ (ls : List (List ℕ)). event_line (delivery t) s ∷ ls) (deliveries_told rs (step (delivery t) s).next)
    ∙ ap (λ (ls : List (List ℕ)). ls ++ told_lines (moves (events_in rs)) (own_answers (events_in rs) (step (delivery t) s).next)) (sym (event_told t s))
deliveries_told (event (vote i p b) ∷ rs) s = deliveries_told rs (step (vote i p b) s).next
deliveries_told (event (change k) ∷ rs) s = deliveries_told rs (step (change k) s).next
deliveries_told (event (read key st) ∷ rs) s = deliveries_told rs (step (read key st) s).next
deliveries_told (opens partitions own k ∷ rs) s = deliveries_told rs s
deliveries_told (unreadable ∷ rs) s = deliveries_told rs s

-- The whole text of a log with an opening.
abbrev pub text_of : Opened → List ℕ
text_of o = text_before o.before ++ (opened_text o.sizes.partitions o.sizes.own o.sizes.k ++ text_behind o.behind (steps (events_of o) (start o)))

module _ (o : Opened) where
  unfoldable pub opening_line : List ℕ
  opening_line = the_line (opened_line o.sizes.partitions o.sizes.own o.sizes.k)

  pub all_lines : lines (text_of o) ≡ lines_before o.before ++ opening_line ∷ lines_behind o.behind (start o)
  unfolding opening_line
  all_lines =
      before_are o.before _
      ∙ ap (λ (ls : List (List ℕ)). lines_before o.before ++ ls)
      ((opened_line o.sizes.partitions o.sizes.own o.sizes.k).before _ ∙ ap (λ (ls : List (List ℕ)). opening_line ∷ ls) (behind_are o.behind (start o)))

  opening_no_finish : is_finish opening_line ≡ false
  unfolding opening_line
  opening_no_finish = refl

  pub its_finish_lines : finish_lines (text_of o) ≡ lines (finishes_text (finishes (events_of o) (start o)))
  unfolding lines_before
  its_finish_lines =
      ap (filter is_finish) all_lines
      ∙ filter-append is_finish (lines_before o.before) (opening_line ∷ lines_behind o.behind (start o))
      ∙ rw (kept_none is_finish (λ (r : Record). number_line (number_before r)) (λ r. number_no_finish (number_before r)) o.before, opening_no_finish)
      (finishes_kept o.behind (start o))
      ∙ sym (finishes_alone (finishes (events_of o) (start o)))

  its_own_lines : own_lines (text_of o) ≡ lines_before o.before ++ opening_line ∷ own_behind o.behind (start o)
  unfolding lines_before
  its_own_lines =
      ap (filter is_own) all_lines
      ∙ filter-append is_own (lines_before o.before) (opening_line ∷ lines_behind o.behind (start o))
      ∙ rw (kept_all is_own (λ (r : Record). number_line (number_before r)) (λ r. number_is_own (number_before r)) o.before, opening_no_finish)
      (ap (λ (ls : List (List ℕ)). lines_before o.before ++ opening_line ∷ ls) (own_kept o.behind (start o)))

  before_length : length (lines_before o.before) ≡ length o.before
  unfolding lines_before
  before_length = length-map o.before (λ r. number_line (number_before r))

  pub its_delivery_lines : delivery_lines o (text_of o) ≡ told_lines (moves (events_of o)) (own_answers (events_of o) (start o))
  its_delivery_lines =
      let place : length o.before + 1 ≡ length (lines_before o.before) + 1 = ap (λ (n : ℕ). n + 1) (sym before_length) in
      ap₂ (λ (n : ℕ) (ls : List (List ℕ)). at_deliveries o.behind (drop n ls)) place its_own_lines
      ∙ ap (at_deliveries o.behind) (drop-append-add (lines_before o.before) (opening_line ∷ own_behind o.behind (start o)) 1)
      ∙ deliveries_told o.behind (start o)

  pub own_line_each : length (own_lines (text_of o)) ≡ length o.before + (1 + length o.behind)
  own_line_each =
      let own = own_length o.behind (start o) in
      let before = before_length in
      ap length its_own_lines
      ∙ length-append (lines_before o.before) (opening_line ∷ own_behind o.behind (start o))
      ∙ omega arith

-- The whole text of a log with none.
unopened_lines : (rs : List Record) → lines (text_before rs) ≡ lines_before rs
unopened_lines rs = ap lines (sym (append-nil (text_before rs))) ∙ before_are rs [] ∙ ap (λ (ls : List (List ℕ)). lines_before rs ++ ls) no_lines ∙ append-nil (lines_before rs)

pub unopened_line_each : (rs : List Record) → length (own_lines (text_before rs)) ≡ length rs
unfolding lines_before
unopened_line_each rs =
    ap (λ (ls : List (List ℕ)). length (filter is_own ls)) (unopened_lines rs)
    ∙ ap length (kept_all is_own (λ (r : Record). number_line (number_before r)) (λ r. number_is_own (number_before r)) rs)
    ∙ length-map rs (λ r. number_line (number_before r))
