-- What becomes of a newcomer and which vote is sent, as the code's own types: a place or a reason, and a vote or none.
use Rattle.std.specs.Prelude.{ℕ, Bool, true, false, cond, ◌≡◌, refl, eqb, Ok, Err, Some, None}
use Rattle.std.proofs.Common.{Result}
use Rattle.std.specs.declared.option.Option as code
use Rattle.std.proofs.Math.Option.{Option, some, none}
use Rattle.rules.specs.Partitions as rules
use Rattle.rules.specs.Delivery.{Fate, abort, join, placed}
use Rattle.masks.specs.declared.Ballot.{Ballot}
use Rattle.masks.specs.declared.Ballot.TheVariants.{Yes, No}
use Rattle.engine.specs.declared.answers.Reason.{Reason}
use Rattle.engine.specs.declared.answers.Reason.TheVariants.{Commit, Waiting, NoPlace}

-- Reasons 1, 2 and 3.
abbrev pub reason_number : Reason → ℕ
reason_number Commit = 1
reason_number Waiting = 2
reason_number NoPlace = 3

-- The reason that a number names. Any other number names none, and stands for the last.
abbrev pub reason_of : ℕ → Reason
reason_of n = cond (eqb n 1) Commit (cond (eqb n 2) Waiting NoPlace)

-- No two reasons have one number, so the number settles which it is.
pub reason_named : (r : Reason) → reason_of (reason_number r) ≡ r
reason_named Commit = refl
reason_named Waiting = refl
reason_named NoPlace = refl

-- The rules' fate as a place or a reason; and back.
abbrev pub fate_of : Fate → Result ℕ Reason
fate_of (abort n) = Err (reason_of n)
fate_of (join i) = Ok i

abbrev pub fated : Result ℕ Reason → Fate
fated (Ok i) = join i
fated (Err r) = abort (reason_number r)

pub placed_fated : (o : Option ℕ) → fated (fate_of (placed o)) ≡ placed o
unfolding placed
placed_fated none = refl
placed_fated (some i) = refl

-- The vote to send: none for a local one, else yes where it joins.
abbrev pub send_if : Bool → Bool → code.Option Ballot
send_if true joins = None
send_if false true = Some Yes
send_if false false = Some No

abbrev pub vote_said : code.Option Ballot → Option rules.Ballot
vote_said None = none
vote_said (Some Yes) = some rules.aye
vote_said (Some No) = some rules.nay
