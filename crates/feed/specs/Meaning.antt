-- What a record gives on lent memory is what the rules' program gives of the state that the memory holds.
use Rattle.std.specs.Prelude.{ℕ, Bool, true, false, List, ◌++◌, ◌≡◌, refl, Err}
use Rattle.std.proofs.Math.Option.{Option, none, some}
use Rattle.std.proofs.Common.{ap, ap₂, subst}
use Rattle.rules.specs.Ledger.{State, sizes_fit}
use Rattle.rules.specs.Events.{Event, Answer}
use Rattle.rules.specs.Refusals.{first_of, opening_refusal, step}
use Rattle.rules.specs.Soundness.{sound}
use Rattle.rules.specs.Records.{Record, opens, event, unreadable, record_of}
use Rattle.rules.specs.AnswerText.{answer_text, step_text}
use Rattle.rules.specs.Program.{Told, open_record, event_record, take_record}
use Rattle.laws.specs.Tests.{split}
use Rattle.claims.specs.Soundness.{step_sound, opening_sound}
use Rattle.engine.specs.Operations.{opened}
use Rattle.engine.specs.Meanings.{long_enough, opened_means}
use Rattle.engine.specs.Calls.{Memory, held, call, opened_in}
use Rattle.engine.specs.CallMeans.{Long, call_long, call_steps}
use Rattle.engine.specs.Demands.{start_long, opened_holds}
use Rattle.refusing.specs.Told.{named}
use Rattle.refusing.specs.Operands.{opening_number}
use Rattle.answers.specs.Texts.{finishes_text_of_words}
use Rattle.answers.specs.Named.{step_named}
use Rattle.records.specs.ShortAnswers.{short_answers}
use Rattle.feed.specs.Feeding.{Recorded, recorded, called_text, opening_given, line_record}

-- The state that the rules' program has: none before opening.
abbrev pub ledger : Bool → Memory → Option State
ledger true m = some (held m)
ledger false m = none

-- Memory that is long enough, with a sound state in it where an engine is opened.
pub record Fit (is_open : Bool) (m : Memory) : Type 0 where
  pub long : Long m
  pub sound : is_open ≡ true → sound (held m) ≡ true

-- What a record gives means what the rules' program tells.
pub record Tells (r : Recorded) (t : Told) : Type 0 where
  pub text : r.text ≡ t.text
  pub ledger : ledger r.opened r.memory ≡ t.ledger
  pub fit : Fit r.opened r.memory

call_tells : (e : Event) (m : Memory) → Fit true m → called_text e (call e m) ≡ step_text e (step e (held m))
unfolding step_text
call_tells e m fit =
    let meant = call_steps e m fit.long (fit.sound refl) in
    let fs = (step e (held m)).finishes in
    ap₂ (λ (a : Answer) (l : List ℕ). answer_text e a ++ l) meant.says
    (rw (meant.counted, meant.written) (finishes_text_of_words fs m.finishes (step_named e (held m))))

-- An opening whose sizes don't fit leaves the memory as it was.
module _ (partitions own k : ℕ) (m : Memory) (long : Long m) where
  refused_opening : sizes_fit partitions own k ≡ false
      → ((opened partitions own k m.book m.sums).answer ≡ Err (named 13)) × (opened_in partitions own k m ≡ m)
  unfolding opened opening_number opened_in
  refused_opening q = rw (long_enough m.book m.sums long.book long.sums, q) (refl, refl)

  opening_tells : Tells (opening_given partitions own k (opened partitions own k m.book m.sums).answer (opened_in partitions own k m))
      (open_record partitions own k none)
  unfolding open_record opening_refusal first_of
  opening_tells =
      split (sizes_fit partitions own k)
      (λ q. let means = opened_means partitions own k m.book m.sums long.book long.sums q in
      let holds = opened_holds partitions own k q m long in
      rw (q, means.0)
      (record {
        text = refl;
        ledger = ap some holds;
        fit = record { long = start_long partitions own k q m long; sound = λ o. rw holds (opening_sound partitions own k q) };
      }))
      (λ q. let refused = refused_opening q in
      rw (q, refused.0, refused.1) (record { text = refl; ledger = refl; fit = record { long = long; sound = λ o. let e = o in cc } }))

record_tells : (r : Record) (is_open : Bool) (m : Memory) → Fit is_open m → Tells (recorded r is_open m) (take_record r (ledger is_open m))
unfolding recorded take_record open_record event_record
record_tells unreadable is_open m fit = record { text = refl; ledger = refl; fit = fit }
record_tells (opens partitions own k) true m fit = record { text = refl; ledger = refl; fit = fit }
record_tells (opens partitions own k) false m fit = opening_tells partitions own k m fit.long
record_tells (event e) true m fit =
    let meant = call_steps e m fit.long (fit.sound refl) in
    record {
      text = call_tells e m fit;
      ledger = ap some meant.state;
      fit = record { long = call_long e m fit.long; sound = λ o. rw meant.state (step_sound e (held m) (fit.sound refl)) };
    }
record_tells (event e) false m fit = record { text = refl; ledger = refl; fit = fit }

-- A line, though the reader keeps but nine items of a list.
pub line_tells : (line : List ℕ) (is_open : Bool) (m : Memory) → Fit is_open m
    → Tells (recorded (line_record line) is_open m) (take_record (record_of line) (ledger is_open m))
line_tells line is_open m fit =
    subst (Tells (recorded (line_record line) is_open m)) (short_answers (record_of line) (ledger is_open m)) (record_tells (line_record line) is_open m fit)
