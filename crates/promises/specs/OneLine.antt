-- A text of an answer or a finish is one line, with its letter: refusals and openings, an event's own answer, a finish.
use Rattle.std.specs.Prelude.{ℕ, false, List, [], ◌∷◌, ◌++◌, ◌≡◌, refl, eqb, ℤ}
use Rattle.std.proofs.Math.Option.{Option}
use Rattle.std.proofs.Common.{sym, ap, ◌∙◌, arith, append_assoc}
use Rattle.rules.specs.Lists.{member}
use Rattle.rules.specs.Partitions.{Ballot}
use Rattle.rules.specs.Ledger.{Transaction, Clock, State}
use Rattle.rules.specs.Delivery.{Fate, abort, join}
use Rattle.rules.specs.Closing.{Outcome, version, aborts}
use Rattle.rules.specs.Events.{Event, delivery, vote, change, read, Snapshot, Answer, refused, waits, aborted, voted, changed, value, delivered, accepted, closing, deliver_with, deliver_at, take_vote, take_change, take_read}
use Rattle.rules.specs.Refusals.{refusal, step}
use Rattle.rules.specs.Bytes.{split, newline, tab_byte, decimal_text, signed_text}
use Rattle.rules.specs.AnswerText.{field, end, refusal_text, opened_text, outcome_text, delivery_text, vote_text, change_text, read_text, answer_text}
use Rattle.rules.specs.Program.{whole_lines}
use Rattle.laws.specs.Tests as tests
use Rattle.claims.specs.Steps.{step_accepted, step_refused, refused_or}
use Rattle.numerals.specs.Decimal.{decimal_absent, newline_no_digit}
use Rattle.numerals.specs.Amounts.{signed_text_absent}
use Rattle.numerals.specs.Parts.{split_front}
use Rattle.feed.specs.Splits.{some_part, whole_more}
use Rattle.promises.specs.LogBytes.{lines, letter_w, letter_a, letter_c, letter_b}

-- A line in front of others.
line_in_front : (line others : List ℕ) → member newline line ≡ false → lines (line ++ newline ∷ others) ≡ line ∷ lines others
line_in_front line others h =
    let p = some_part newline others in
    let whole : whole_lines (line ∷ split newline others) ≡ line ∷ whole_lines (split newline others) = rw p.are (whole_more line p.first p.others) in
    rw (split_front newline line others h, whole)

pub no_lines : lines [] ≡ []
unfolding split whole_lines
no_lines = refl

-- The fields of a line, with its newline at their end and no other.
record Fields (text : List ℕ) : Type 0 where
  bytes : List ℕ
  are : text ≡ bytes ++ newline ∷ []
  without : member newline bytes ≡ false

no_fields : Fields end
no_fields = record { bytes = []; are = refl; without = refl }

in_front : (part rest : List ℕ) → member newline part ≡ false → Fields rest → Fields (tab_byte ∷ (part ++ rest))
in_front part rest h k =
    record {
      bytes = tab_byte ∷ (part ++ k.bytes);
      are = ap (λ (l : List ℕ). tab_byte ∷ l) (ap (λ (l : List ℕ). part ++ l) k.are ∙ sym (append_assoc part k.bytes (newline ∷ [])));
      without = tests.any_append (eqb newline) part k.bytes ∙ tests.or_neither (member newline part) (member newline k.bytes) h k.without;
    }

one_field : (n : ℕ) (rest : List ℕ) → Fields rest → Fields (field n rest)
one_field n rest = in_front (decimal_text n) rest (decimal_absent newline n newline_no_digit)

value_field : (v : ℤ) → Fields (tab_byte ∷ (signed_text v ++ end))
value_field v = in_front (signed_text v) end (signed_text_absent newline v newline_no_digit (λ e. omega arith)) no_fields

-- A text that is one line, with such a letter.
pub record OneLine (letter : ℕ) (text : List ℕ) : Type 0 where
  pub fields : List ℕ
  pub before : (others : List ℕ) → lines (text ++ others) ≡ (letter ∷ fields) ∷ lines others

one_line : (letter : ℕ) (text : List ℕ) → eqb newline letter ≡ false → Fields text → OneLine letter (letter ∷ text)
one_line letter text h k =
    record {
      fields = k.bytes;
      before = λ others.
          ap (λ (l : List ℕ). lines (letter ∷ (l ++ others))) k.are
          ∙ ap (λ (l : List ℕ). lines (letter ∷ l)) (append_assoc k.bytes (newline ∷ []) others)
          ∙ line_in_front (letter ∷ k.bytes) others (tests.or_neither (eqb newline letter) (member newline k.bytes) h k.without);
    }

pub refusal_line : (n : ℕ) → OneLine 88 (refusal_text n)
unfolding refusal_text
refusal_line n = one_line 88 (field n end) refl (one_field n end no_fields)

pub opened_line : (partitions own k : ℕ) → OneLine 79 (opened_text partitions own k)
unfolding opened_text
opened_line partitions own k =
    one_line 79 (field partitions (field own (field k end))) refl (one_field partitions _ (one_field own _ (one_field k end no_fields)))

abbrev pub outcome_letter : Outcome → ℕ
outcome_letter (version v) = letter_c
outcome_letter aborts = letter_b

pub outcome_line : (identity : ℕ) (o : Outcome) → OneLine (outcome_letter o) (outcome_text identity o)
unfolding outcome_text
outcome_line identity (version v) = one_line letter_c (field identity (field v end)) refl (one_field identity _ (one_field v end no_fields))
outcome_line identity aborts = one_line letter_b (field identity end) refl (one_field identity end no_fields)

-- Which answers an event gets.
module _ (P : Event → Answer → Type 0) (by_number : (e : Event) (n : ℕ) → P e (refused n))
    (by_place : (t : Transaction) (dc place : ℕ) (send : Option Ballot) → P (delivery t) (waits dc place send))
    (by_reason : (t : Transaction) (dc reason : ℕ) (send : Option Ballot) → P (delivery t) (aborted dc reason send))
    (by_vote : (i p : ℕ) (b : Ballot) → P (vote i p b) voted) (by_change : (k : ℕ) → P (change k) changed)
    (by_value : (key : ℕ) (asked : Snapshot) (st : ℕ) (v : ℤ) → P (read key asked) (value st v)) where
  by_fate : (t : Transaction) (c : Clock) (send : Option Ballot) (f : Fate) → P (delivery t) (delivered c send f)
  unfolding delivered
  by_fate t c send (abort reason) = by_reason t c.dc reason send
  by_fate t c send (join i) = by_place t c.dc i send

  accepted_answer : (e : Event) (s : State) → P e (accepted e s).answer
  unfolding accepted deliver_with deliver_at take_vote take_change take_read closing
  accepted_answer (delivery t) s = by_fate t _ _ _
  accepted_answer (vote i p b) s = by_vote i p b
  accepted_answer (change k) s = by_change k
  accepted_answer (read key st) s = by_value key st _ _

  pub answer_of : (e : Event) (s : State) → P e (step e s).answer
  answer_of e s =
      refused_or (refusal e s) (λ q. rw (step_accepted e s q) (accepted_answer e s)) (λ n q. rw (step_refused e s q) (by_number e n))

abbrev pub own_letter : Answer → ℕ
own_letter (refused n) = 88
own_letter (waits dc place send) = letter_w
own_letter (aborted dc reason send) = letter_a
own_letter voted = 86
own_letter changed = 75
own_letter (value st v) = 82

refused_line : (e : Event) (n : ℕ) → OneLine 88 (answer_text e (refused n))
unfolding answer_text delivery_text vote_text change_text read_text
refused_line (delivery t) n = refusal_line n
refused_line (vote i p b) n = refusal_line n
refused_line (change k) n = refusal_line n
refused_line (read key st) n = refusal_line n

pub own_line : (e : Event) (s : State) → OneLine (own_letter (step e s).answer) (answer_text e (step e s).answer)
unfolding answer_text delivery_text vote_text change_text read_text
own_line =
    answer_of (λ e a. OneLine (own_letter a) (answer_text e a)) refused_line
    (λ t dc place send. one_line letter_w (field t.identity (field dc (field place end))) refl (one_field t.identity _ (one_field dc _ (one_field place end no_fields))))
    (λ t dc reason send. one_line letter_a (field t.identity (field dc (field reason end))) refl (one_field t.identity _ (one_field dc _ (one_field reason end no_fields))))
    (λ i p b. one_line 86 (field i (field p end)) refl (one_field i _ (one_field p end no_fields)))
    (λ k. one_line 75 (field k end) refl (one_field k end no_fields))
    (λ key asked st v. one_line 82 (field key (field st (tab_byte ∷ (signed_text v ++ end)))) refl (one_field key _ (one_field st _ (value_field v))))
