-- What C's numbers say, in the rules' words; and that they say just what the engine's answer says.
use Rattle.std.specs.Prelude.{ℕ, cond, ◌≡◌, refl, eqb, Ok, Err, Some, None}
use Rattle.std.proofs.Common.{Result, ap, ne_eqb}
use Rattle.std.specs.declared.option.Option as code
use Rattle.std.proofs.Math.Option.{Option, none, some}
use Rattle.rules.specs.Partitions as rules
use Rattle.rules.specs.Events.{Answer, refused, waits, aborted, voted, changed, value}
use Rattle.refusing.specs.declared.refusals.Refusal.{Refusal}
use Rattle.refusing.specs.Told.{numbered, some_number}
use Rattle.masks.specs.declared.Ballot.{Ballot}
use Rattle.masks.specs.declared.Ballot.TheVariants.{Yes, No}
use Rattle.engine.specs.declared.answers.Reason.{Reason}
use Rattle.engine.specs.declared.answers.Reason.TheVariants.{Commit, Waiting, NoPlace}
use Rattle.engine.specs.declared.answers.Delivered.{Delivered}
use Rattle.engine.specs.declared.answers.Reading.{Reading}
use Rattle.engine.specs.declared.answers.Reading.TheVariants.{Refused, Value}
use Rattle.engine.specs.Fates.{vote_said}
use Rattle.engine.specs.Answers.{taken_said, delivered_said, delivered_finishes, voted_said, changed_said, finishes_told, reading_said}
use Rattle.host.specs.declared.faces.DeliveredFace.{DeliveredFace}
use Rattle.host.specs.declared.faces.SettledFace.{SettledFace}
use Rattle.host.specs.declared.faces.ReadingFace.{ReadingFace}
use Rattle.host.specs.Faces.{send_number, reason_told, place_told, delivered_face, settled_face, reading_face}

-- The number of a refusal, or else what was done.
abbrev pub unless_number : ℕ → Answer → Answer
unless_number number done = cond (eqb number 0) done (refused number)

-- The vote to send: 1 is yes, 2 is no.
abbrev pub vote_of : ℕ → Option rules.Ballot
vote_of send = cond (eqb send 1) (some rules.aye) (cond (eqb send 2) (some rules.nay) none)

-- It waits where its reason is 0.
abbrev pub taken_says : ℕ → ℕ → ℕ → Option rules.Ballot → Answer
taken_says dc reason place send = cond (eqb reason 0) (waits dc place send) (aborted dc reason send)

abbrev pub delivered_says : DeliveredFace → Answer
delivered_says d = unless_number d.refusal (taken_says d.dc d.reason d.place (vote_of d.send))

abbrev pub voted_says : SettledFace → Answer
voted_says s = unless_number s.refusal voted

abbrev pub changed_says : SettledFace → Answer
changed_says s = unless_number s.refusal changed

abbrev pub reading_says : ReadingFace → Answer
reading_says r = unless_number r.refusal (value r.version r.value)

-- A refusal is said by its number, which isn't 0.
refusal_said : (r : Refusal) (done : Answer) → unless_number (numbered r) done ≡ refused (numbered r)
refusal_said r done = rw (ne_eqb (numbered r) 0 (some_number r))

vote_same : (send : code.Option Ballot) → vote_of (send_number send) ≡ vote_said send
vote_same None = refl
vote_same (Some Yes) = refl
vote_same (Some No) = refl

taken_same : (dc : ℕ) (fate : Result ℕ Reason) (send : code.Option Ballot)
    → taken_says dc (reason_told fate) (place_told fate) (vote_of (send_number send)) ≡ taken_said dc fate send
taken_same dc (Ok place) send = ap (waits dc place) (vote_same send)
taken_same dc (Err Commit) send = ap (aborted dc 1) (vote_same send)
taken_same dc (Err Waiting) send = ap (aborted dc 2) (vote_same send)
taken_same dc (Err NoPlace) send = ap (aborted dc 3) (vote_same send)

pub delivered_same : (a : Result Delivered Refusal) → delivered_says (delivered_face a) ≡ delivered_said a
delivered_same (Ok d) = taken_same d.dc d.fate d.send
delivered_same (Err r) = refusal_said r _

pub delivered_counts : (a : Result Delivered Refusal) → (delivered_face a).finishes ≡ delivered_finishes a
delivered_counts (Ok d) = refl
delivered_counts (Err r) = refl

pub voted_same : (a : Result ℕ Refusal) → voted_says (settled_face a) ≡ voted_said a
voted_same (Ok finishes) = refl
voted_same (Err r) = refusal_said r voted

pub changed_same : (a : Result ℕ Refusal) → changed_says (settled_face a) ≡ changed_said a
changed_same (Ok finishes) = refl
changed_same (Err r) = refusal_said r changed

pub settled_counts : (a : Result ℕ Refusal) → (settled_face a).finishes ≡ finishes_told a
settled_counts (Ok finishes) = refl
settled_counts (Err r) = refl

pub reading_same : (a : Reading) → reading_says (reading_face a) ≡ reading_said a
reading_same (Value v version) = refl
reading_same (Refused r) = refusal_said r _
