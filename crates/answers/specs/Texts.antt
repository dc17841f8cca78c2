-- What is written from an operation's answer and its finish list is the text of the rules' step: the answer's own line, then a line for each finish.
use Rattle.std.specs.Prelude.{ℕ, true, List, [], ◌∷◌, ◌++◌, ◌≡◌, refl, eqb, length}
use Rattle.std.proofs.Common.{Result, append-nil, sym, ap, ap₂, ◌∙◌}
use Rattle.std.proofs.lemmas.Bool.{not-true}
use Rattle.std.proofs.Math.Option.{Option, none, some}
use Rattle.rules.specs.Partitions.{Ballot}
use Rattle.rules.specs.Ledger.{Transaction, State}
use Rattle.rules.specs.Closing.{Outcome, version, aborts, Finish}
use Rattle.rules.specs.Events.{Event, delivery, vote, change, read, Snapshot, Answer, Step, accepted, take_read}
use Rattle.rules.specs.Refusals.{unless_refused, first_of, desk_checks, desk}
use Rattle.rules.specs.AnswerText.{outcome_text, finishes_text, delivery_text, vote_text, change_text, read_text, answer_text, step_text}
use Rattle.laws.specs.Tests.{and_left, and_right}
use Rattle.laws.specs.Cuts.{put}
use Rattle.tables.specs.Closed.{outcome_word, entry_words, words_of}
use Rattle.refusing.specs.declared.refusals.Refusal.{Refusal}
use Rattle.engine.specs.declared.answers.Delivered.{Delivered}
use Rattle.engine.specs.declared.answers.Reading.{Reading}
use Rattle.engine.specs.Answers.{After, Means, delivered_said, delivered_finishes, voted_said, changed_said, finishes_told, reading_said}
use Rattle.answers.specs.Finishes.{outcome_of, words_text}
use Rattle.answers.specs.Named.{named_outcome, named_version, all_named, desk_named}

-- An outcome is read back off its word.
outcome_back : (o : Outcome) → named_outcome o ≡ true → outcome_of (outcome_word o) ≡ o
outcome_back (version v) h = rw (not-true (eqb v 0) h)
outcome_back aborts h = refl

-- The lines read off the words of finishes, whatever stands behind them, are the lines of these finishes.
words_back : (fs : List Finish) (rest : List ℕ) → all_named fs ≡ true → words_text (length fs) (words_of fs ++ rest) ≡ finishes_text fs
unfolding words_text words_of entry_words finishes_text
words_back [] rest h = refl
words_back (f ∷ fs) rest h =
    ap₂ (λ (o : Outcome) (l : List ℕ). outcome_text f.transaction.identity o ++ l)
    (outcome_back f.outcome (and_left (named_version f) (all_named fs) h))
    (words_back fs rest (and_right (named_version f) (all_named fs) h))

pub finishes_text_of_words : (fs : List Finish) (fin : List ℕ) → all_named fs ≡ true → words_text (length fs) (put fin 0 (words_of fs)) ≡ finishes_text fs
unfolding put
finishes_text_of_words fs fin h = words_back fs _ h

-- An operation that means what the rules' desk gives: its finishes' lines, and with them the whole text.
module _ {A : Type 0} (said : A → Answer) (count : A → ℕ) (fin : List ℕ) (r : After A) (room : ℕ) (e : Event) (s : State)
    (k : Means said count fin r (desk room e s)) where
  finishes_said : words_text (count r.answer) r.finishes ≡ finishes_text (desk room e s).finishes
  finishes_said = rw (k.counted, k.told) (finishes_text_of_words (desk room e s).finishes fin (desk_named room e s))

  whole_text : answer_text e (said r.answer) ++ words_text (count r.answer) r.finishes ≡ step_text e (desk room e s)
  unfolding step_text
  whole_text = ap₂ (λ (a : Answer) (l : List ℕ). answer_text e a ++ l) k.says finishes_said

module _ (fin : List ℕ) (room : ℕ) (s : State) where
  pub delivery_said_text : (r : After (Result Delivered Refusal)) (t : Transaction) (identity : ℕ) → identity ≡ t.identity
      → Means delivered_said delivered_finishes fin r (desk room (delivery t) s)
      → delivery_text identity (delivered_said r.answer) ++ words_text (delivered_finishes r.answer) r.finishes
      ≡ step_text (delivery t) (desk room (delivery t) s)
  unfolding answer_text
  delivery_said_text r t identity same k =
      ap (λ (i : ℕ). delivery_text i (delivered_said r.answer) ++ words_text (delivered_finishes r.answer) r.finishes) same
      ∙ whole_text delivered_said delivered_finishes fin r room (delivery t) s k

  pub vote_said_text : (r : After (Result ℕ Refusal)) (identity partition : ℕ) (b : Ballot)
      → Means voted_said finishes_told fin r (desk room (vote identity partition b) s)
      → vote_text identity partition (voted_said r.answer) ++ words_text (finishes_told r.answer) r.finishes
      ≡ step_text (vote identity partition b) (desk room (vote identity partition b) s)
  unfolding answer_text
  vote_said_text r identity partition b k = whole_text voted_said finishes_told fin r room (vote identity partition b) s k

  pub change_said_text : (r : After (Result ℕ Refusal)) (n : ℕ) → Means changed_said finishes_told fin r (desk room (change n) s)
      → change_text n (changed_said r.answer) ++ words_text (finishes_told r.answer) r.finishes ≡ step_text (change n) (desk room (change n) s)
  unfolding answer_text
  change_said_text r n k = whole_text changed_said finishes_told fin r room (change n) s k

-- A read finishes nothing.
unless_nothing : (o : Option ℕ) (s : State) (r : Step) → r.finishes ≡ [] → (unless_refused o s r).finishes ≡ []
unfolding unless_refused
unless_nothing none s r h = h
unless_nothing (some n) s r h = refl

read_finishes : (room key : ℕ) (st : Snapshot) (s : State) → (desk room (read key st) s).finishes ≡ []
unfolding desk accepted take_read
read_finishes room key st s = unless_nothing (first_of (desk_checks room (read key st) s)) s (take_read key st s) refl

pub read_said_text : (answer : Reading) (room key : ℕ) (st : Snapshot) (s : State) → reading_said answer ≡ (desk room (read key st) s).answer
    → read_text key (reading_said answer) ≡ step_text (read key st) (desk room (read key st) s)
unfolding step_text answer_text finishes_text
read_said_text answer room key st s says =
    rw (read_finishes room key st s) (ap (read_text key) says ∙ sym (append-nil (read_text key (desk room (read key st) s).answer)))
