-- After an operation on lent tables, what is written from its answer and its finish list is the text of the rules' step, where the state on the tables is
-- sound and the finish list has 32 entries. Which text the desk's refusals 15 and 13 get is in Texts.
use Rattle.std.specs.Prelude.{ℕ, ◌/◌, ◌≤◌, Bool, true, List, ◌++◌, ◌≡◌, ℤ, length}
use Rattle.std.proofs.Common.{Result, refl, ap, ◌∙◌, arith}
use Rattle.std.specs.declared.option.Option as code
use Rattle.rules.specs.Ledger.{State}
use Rattle.rules.specs.Soundness.{sound}
use Rattle.rules.specs.Events.{Event, delivery, vote, change, read, Snapshot}
use Rattle.rules.specs.Refusals.{first_of, desk_checks, desk, refusal, step, too_little_room}
use Rattle.rules.specs.AnswerText.{delivery_text, vote_text, change_text, read_text, step_text}
use Rattle.claims.specs.Refused.{desk_is_step}
use Rattle.tables.specs.Layout.{book_words, sums_words}
use Rattle.tables.specs.View.{view}
use Rattle.tables.specs.Voted.{ballot}
use Rattle.tables.specs.Judged.{lent}
use Rattle.refusing.specs.declared.refusals.Refusal.{Refusal}
use Rattle.refusing.specs.Snapshots.{asked}
use Rattle.engine.specs.declared.answers.Delivered.{Delivered}
use Rattle.engine.specs.Answers.{After, delivered_said, delivered_finishes, voted_said, changed_said, finishes_told, reading_said}
use Rattle.engine.specs.Operations.{delivering, voting, changing, reading}
use Rattle.engine.specs.Meanings.{delivering_means, voting_means, changing_means, reading_means}
use Rattle.answers.specs.Finishes.{words_text}
use Rattle.answers.specs.Texts.{delivery_said_text, vote_said_text, change_said_text, read_said_text}

lent_identity : (identity set st : ℕ) (reads keys : List ℕ) (amounts : List ℤ) → identity ≡ (lent identity set st reads keys amounts).identity
unfolding lent
lent_identity identity set st reads keys amounts = refl

-- A read needs no finish list.
read_is_step : (room key : ℕ) (st : Snapshot) (s : State) → sound s ≡ true → desk room (read key st) s ≡ step (read key st) s
unfolding desk desk_checks first_of step refusal too_little_room
read_is_step room key st s whole = rw whole

module _ (book : List ℕ) (sums : List ℤ) (long : book_words ≤ length book) (long_sums : sums_words ≤ length sums) (whole : sound (view book sums) ≡ true) where
  module _ (fin : List ℕ) (room : 64 ≤ length fin) where
    stepped : (e : Event) → step_text e (desk (length fin / 2) e (view book sums)) ≡ step_text e (step e (view book sums))
    stepped e = ap (step_text e) (desk_is_step (length fin / 2) e (view book sums) (omega arith) whole)

    pub delivering_text : (identity set st : ℕ) (reads keys : List ℕ) (amounts : List ℤ) (r : After (Result Delivered Refusal)) → length amounts ≡ length keys
        → r ≡ delivering identity set st reads keys amounts book sums fin
        → delivery_text identity (delivered_said r.answer) ++ words_text (delivered_finishes r.answer) r.finishes
        ≡ step_text (delivery (lent identity set st reads keys amounts)) (step (delivery (lent identity set st reads keys amounts)) (view book sums))
    delivering_text identity set st reads keys amounts r same is =
        let t = lent identity set st reads keys amounts in
        delivery_said_text fin (length fin / 2) (view book sums) r t identity (lent_identity identity set st reads keys amounts)
        (rw is (delivering_means identity set st reads keys amounts book sums fin long long_sums same))
        ∙ stepped (delivery t)

    pub voting_text : (identity p : ℕ) (agrees : Bool) (r : After (Result ℕ Refusal)) → r ≡ voting identity p agrees book sums fin
        → vote_text identity p (voted_said r.answer) ++ words_text (finishes_told r.answer) r.finishes
        ≡ step_text (vote identity p (ballot agrees)) (step (vote identity p (ballot agrees)) (view book sums))
    voting_text identity p agrees r is =
        vote_said_text fin (length fin / 2) (view book sums) r identity p (ballot agrees)
        (rw is (voting_means identity p agrees book sums fin long long_sums))
        ∙ stepped (vote identity p (ballot agrees))

    pub changing_text : (k : ℕ) (r : After (Result ℕ Refusal)) → r ≡ changing k book sums fin
        → change_text k (changed_said r.answer) ++ words_text (finishes_told r.answer) r.finishes ≡ step_text (change k) (step (change k) (view book sums))
    changing_text k r is =
        change_said_text fin (length fin / 2) (view book sums) r k (rw is (changing_means k book sums fin long long_sums)) ∙ stepped (change k)

  pub reading_text : (key : ℕ) (st : code.Option ℕ)
      → read_text key (reading_said (reading key st book sums)) ≡ step_text (read key (asked st)) (step (read key (asked st)) (view book sums))
  reading_text key st =
      read_said_text (reading key st book sums) 0 key (asked st) (view book sums) (reading_means key st book sums long long_sums)
      ∙ ap (step_text (read key (asked st))) (read_is_step 0 key (asked st) (view book sums) whole)
