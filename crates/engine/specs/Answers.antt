-- What each answer of an operation says, as an answer of the rules, and how many finishes it counts.
use Rattle.std.specs.Prelude.{ℕ, List, ◌≡◌, ℤ, length, Ok, Err}
use Rattle.std.proofs.Common.{Result}
use Rattle.std.specs.declared.option.Option as code
use Rattle.rules.specs.Events as rules
use Rattle.laws.specs.Cuts.{put}
use Rattle.tables.specs.View.{view}
use Rattle.tables.specs.Closed.{words_of}
use Rattle.refusing.specs.declared.refusals.Refusal.{Refusal}
use Rattle.refusing.specs.Told.{numbered}
use Rattle.masks.specs.declared.Ballot.{Ballot}
use Rattle.engine.specs.declared.answers.Reason.{Reason}
use Rattle.engine.specs.declared.answers.Delivered.{Delivered}
use Rattle.engine.specs.declared.answers.Reading.{Reading}
use Rattle.engine.specs.declared.answers.Reading.TheVariants.{Refused, Value}
use Rattle.engine.specs.Fates.{reason_number, vote_said}

-- What stands behind an operation: its answer, and the three tables.
pub record After (A : Type 0) : Type 0 where
  pub answer : A
  pub book : List ℕ
  pub sums : List ℤ
  pub finishes : List ℕ

-- An answer's number and values, by its cases.
abbrev pub taken_said : ℕ → Result ℕ Reason → code.Option Ballot → rules.Answer
taken_said dc (Ok place) send = rules.waits dc place (vote_said send)
taken_said dc (Err reason) send = rules.aborted dc (reason_number reason) (vote_said send)

abbrev pub delivered_said : Result Delivered Refusal → rules.Answer
delivered_said (Err r) = rules.refused (numbered r)
delivered_said (Ok d) = taken_said d.dc d.fate d.send

abbrev pub delivered_finishes : Result Delivered Refusal → ℕ
delivered_finishes (Err r) = 0
delivered_finishes (Ok d) = d.finishes

abbrev pub voted_said : Result ℕ Refusal → rules.Answer
voted_said (Err r) = rules.refused (numbered r)
voted_said (Ok finishes) = rules.voted

abbrev pub changed_said : Result ℕ Refusal → rules.Answer
changed_said (Err r) = rules.refused (numbered r)
changed_said (Ok finishes) = rules.changed

-- How many finishes a vote and a change count.
abbrev pub finishes_told : Result ℕ Refusal → ℕ
finishes_told (Err r) = 0
finishes_told (Ok finishes) = finishes

abbrev pub reading_said : Reading → rules.Answer
reading_said (Refused r) = rules.refused (numbered r)
reading_said (Value v st) = rules.value st v

-- A result means a step of the rules: its answer, the state that the tables then hold, the finish entries and how many they are.
pub record Means {A : Type 0} (said : A → rules.Answer) (count : A → ℕ) (fin : List ℕ) (r : After A) (e : rules.Step) : Type 0 where
  pub says : said r.answer ≡ e.answer
  pub state : view r.book r.sums ≡ e.next
  pub told : r.finishes ≡ put fin 0 (words_of e.finishes)
  pub counted : count r.answer ≡ length e.finishes
