-- How many lines of the text that answers a log have a letter: those of the answers, and those of the finishes. So the counts of the log's lines are the counts of its events.
use Rattle.std.specs.Prelude.{ℕ, ◌+◌, Bool, false, cond, List, [], ◌∷◌, ◌++◌, map, ◌≡◌, refl, eqb}
use Rattle.std.specs.List.{count_by, sum_by}
use Rattle.std.proofs.Common.{ap, ◌∙◌, arith}
use Rattle.std.proofs.lemmas.List.Sums.{sum_by-cons, sum_by-append}
use Rattle.rules.specs.Ledger.{State}
use Rattle.rules.specs.Closing.{Outcome, version, aborts, Finish}
use Rattle.rules.specs.Events.{Event, Answer, refused, waits, aborted, voted, changed, value, Step}
use Rattle.rules.specs.Refusals.{step}
use Rattle.rules.specs.Logs.{steps, finishes}
use Rattle.rules.specs.Records.{Record, opens, event, unreadable}
use Rattle.claims.specs.Counts.{joins_told, aborts_told, commit_of, abort_of, joined_in, aborted_at_delivery, committed_in, aborted_at_closing}
use Rattle.promises.specs.LogBytes.{Opened, events_in, start, events_of, letter_w, letter_a, letter_c, letter_b, begins, lines_of}
use Rattle.promises.specs.LogEvents.{number_before}
use Rattle.promises.specs.OneLine.{outcome_letter, own_letter}
use Rattle.laws.specs.Tests.{or_left, or_right}
use Rattle.promises.specs.OutLines.{own_is_none, number_line, finish_line, event_line, lines_before, lines_behind, text_of, opening_line, all_lines}

abbrev one_if : Bool → ℕ
one_if b = cond b 1 0

-- A letter that numbers and openings don't have: how many answers and outcomes have it.
module _ (letter : ℕ) (own : Answer → ℕ) (ended : Outcome → ℕ) (no_number : eqb 88 letter ≡ false) (no_opening : eqb 79 letter ≡ false)
    (own_is : (a : Answer) → one_if (eqb (own_letter a) letter) ≡ own a) (ended_is : (o : Outcome) → one_if (eqb (outcome_letter o) letter) ≡ ended o) where
  count : List (List ℕ) → ℕ
  count ls = count_by (begins letter) ls

  count_one : (l : List ℕ) (ls : List (List ℕ)) → count (l ∷ ls) ≡ one_if (begins letter l) + count ls
  unfolding count
  count_one l ls = sum_by-cons (λ (k : List ℕ). one_if (begins letter k)) l ls

  count_both : (ls ks : List (List ℕ)) → count (ls ++ ks) ≡ count ls + count ks
  unfolding count
  count_both ls ks = sum_by-append (λ (k : List ℕ). one_if (begins letter k)) ls ks

  count_number : (n : ℕ) (ls : List (List ℕ)) → count (number_line n ∷ ls) ≡ count ls
  unfolding number_line
  count_number n ls = count_one (number_line n) ls ∙ rw no_number (omega arith)

  count_finishes : (fs : List Finish) → count (map finish_line fs) ≡ sum_by (λ f. ended f.outcome) fs
  unfolding count finish_line
  count_finishes [] = refl
  count_finishes (f ∷ fs) =
      let more = count_finishes fs in
      let one = ended_is f.outcome in
      let sum = sum_by-cons (λ (f : Finish). ended f.outcome) f fs in
      let here = count_one (finish_line f) (map finish_line fs) in
      omega arith

  count_event : (e : Event) (s : State) (ls : List (List ℕ)) → count (event_line e s ∷ ls) ≡ own (step e s).answer + count ls
  unfolding event_line
  count_event e s ls = count_one (event_line e s) ls ∙ ap (λ (n : ℕ). n + count ls) (own_is (step e s).answer)

  count_none : count [] ≡ 0
  unfolding count
  count_none = refl

  count_behind : (rs : List Record) (s : State)
      → count (lines_behind rs s) ≡ sum_by (λ r. own r.answer) (steps (events_in rs) s) + sum_by (λ f. ended f.outcome) (finishes (events_in rs) s)
  unfolding lines_behind events_in steps finishes
  count_behind [] s = count_none
  count_behind (event e ∷ rs) s =
      let next = (step e s).next in
      let here = count_event e s (map finish_line (step e s).finishes ++ lines_behind rs next) in
      let both = count_both (map finish_line (step e s).finishes) (lines_behind rs next) in
      let ends = count_finishes (step e s).finishes in
      let more = count_behind rs next in
      let answers = sum_by-cons (λ (r : Step). own r.answer) (step e s) (steps (events_in rs) next) in
      let all_ends = sum_by-append (λ (f : Finish). ended f.outcome) (step e s).finishes (finishes (events_in rs) next) in
      omega arith
  count_behind (opens partitions own k ∷ rs) s = count_number 13 (lines_behind rs s) ∙ count_behind rs s
  count_behind (unreadable ∷ rs) s = count_number 14 (lines_behind rs s) ∙ count_behind rs s

  count_before : (rs : List Record) → count (lines_before rs) ≡ 0
  unfolding lines_before
  count_before [] = count_none
  count_before (r ∷ rs) = count_number (number_before r) (lines_before rs) ∙ count_before rs

  count_opening : (o : Opened) (ls : List (List ℕ)) → count (opening_line o ∷ ls) ≡ count ls
  unfolding opening_line
  count_opening o ls = count_one (opening_line o) ls ∙ rw no_opening (omega arith)

  lines_counted : (o : Opened) → lines_of letter (text_of o)
      ≡ sum_by (λ r. own r.answer) (steps (events_of o) (start o)) + sum_by (λ f. ended f.outcome) (finishes (events_of o) (start o))
  unfolding count
  lines_counted o =
      let here = lines_behind o.behind (start o) in
      let before = count_before o.before in
      let both = count_both (lines_before o.before) (opening_line o ∷ here) in
      let opening = count_opening o here in
      ap count (all_lines o) ∙ (let e : count (lines_before o.before ++ opening_line o ∷ here) ≡ count here = omega arith in e) ∙ count_behind o.behind (start o)

-- The four letters.
nothing : {A : Type 0} (xs : List A) → sum_by (λ x. 0) xs ≡ 0
nothing [] = refl
nothing (x ∷ xs) = nothing xs

own_w : (a : Answer) → one_if (eqb (own_letter a) letter_w) ≡ joins_told a
own_w (refused n) = refl
own_w (waits dc place send) = refl
own_w (aborted dc reason send) = refl
own_w voted = refl
own_w changed = refl
own_w (value st v) = refl

own_a : (a : Answer) → one_if (eqb (own_letter a) letter_a) ≡ aborts_told a
own_a (refused n) = refl
own_a (waits dc place send) = refl
own_a (aborted dc reason send) = refl
own_a voted = refl
own_a changed = refl
own_a (value st v) = refl

own_c : (a : Answer) → one_if (eqb (own_letter a) letter_c) ≡ 0
own_c a = rw (or_left (eqb (own_letter a) letter_c) (eqb (own_letter a) letter_b) (own_is_none a))

own_b : (a : Answer) → one_if (eqb (own_letter a) letter_b) ≡ 0
own_b a = rw (or_right (eqb (own_letter a) letter_c) (eqb (own_letter a) letter_b) (own_is_none a))

ended_w : (o : Outcome) → one_if (eqb (outcome_letter o) letter_w) ≡ 0
ended_w (version v) = refl
ended_w aborts = refl

ended_a : (o : Outcome) → one_if (eqb (outcome_letter o) letter_a) ≡ 0
ended_a (version v) = refl
ended_a aborts = refl

ended_c : (o : Outcome) → one_if (eqb (outcome_letter o) letter_c) ≡ commit_of o
ended_c (version v) = refl
ended_c aborts = refl

ended_b : (o : Outcome) → one_if (eqb (outcome_letter o) letter_b) ≡ abort_of o
ended_b (version v) = refl
ended_b aborts = refl

module _ (o : Opened) where
  no_ends : sum_by (λ (f : Finish). 0) (finishes (events_of o) (start o)) ≡ 0
  no_ends = nothing (finishes (events_of o) (start o))

  no_answers : sum_by (λ (r : Step). 0) (steps (events_of o) (start o)) ≡ 0
  no_answers = nothing (steps (events_of o) (start o))

  -- "W identity, DC, place", "A identity, DC, reason", "C identity, version", "B identity"
  pub w_lines : lines_of letter_w (text_of o) ≡ joined_in (events_of o) (start o)
  w_lines = let all = lines_counted letter_w joins_told (λ e. 0) refl refl own_w ended_w o in let none = no_ends in omega arith

  pub a_lines : lines_of letter_a (text_of o) ≡ aborted_at_delivery (events_of o) (start o)
  a_lines = let all = lines_counted letter_a aborts_told (λ e. 0) refl refl own_a ended_a o in let none = no_ends in omega arith

  pub c_lines : lines_of letter_c (text_of o) ≡ committed_in (events_of o) (start o)
  c_lines = let all = lines_counted letter_c (λ a. 0) commit_of refl refl own_c ended_c o in let none = no_answers in omega arith

  pub b_lines : lines_of letter_b (text_of o) ≡ aborted_at_closing (events_of o) (start o)
  b_lines = let all = lines_counted letter_b (λ a. 0) abort_of refl refl own_b ended_b o in let none = no_answers in omega arith
