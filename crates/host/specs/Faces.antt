-- What C gets of each answer, in numbers alone, and what the engine gets of each flag that C gives: to be read beside include/telvrang.h. Of an opening C gets refusing's `told`: the
-- number that refuses it, or 0.
use Rattle.std.specs.Prelude.{ℕ, Bool, true, false, not, eqb, pos, Ok, Err, Some, None}
use Rattle.std.proofs.Common.{Result}
use Rattle.std.specs.declared.option.Option as code
use Rattle.refusing.specs.declared.refusals.Refusal.{Refusal}
use Rattle.refusing.specs.Told.{numbered}
use Rattle.masks.specs.declared.Ballot.{Ballot}
use Rattle.masks.specs.declared.Ballot.TheVariants.{Yes, No}
use Rattle.engine.specs.declared.answers.Reason.{Reason}
use Rattle.engine.specs.declared.answers.Delivered.{Delivered}
use Rattle.engine.specs.declared.answers.Reading.{Reading}
use Rattle.engine.specs.declared.answers.Reading.TheVariants.{Refused, Value}
use Rattle.engine.specs.Fates.{reason_number}
use Rattle.feed.specs.declared.Standing.{Standing}
use Rattle.feed.specs.declared.Fed.{Fed}
use Rattle.host.specs.declared.faces.DeliveredFace.{DeliveredFace}
use Rattle.host.specs.declared.faces.SettledFace.{SettledFace}
use Rattle.host.specs.declared.faces.ReadingFace.{ReadingFace}
use Rattle.host.specs.declared.faces.FedFace.{FedFace}

-- A flag that C gives is no where it is 0, and else yes; one that C gets is 0 or 1.
abbrev pub flagged : ℕ → Bool
flagged n = not (eqb n 0)

abbrev pub flag : Bool → ℕ
flag false = 0
flag true = 1

-- The vote to send: 0 for none, 1 for yes, 2 for no.
abbrev pub send_number : code.Option Ballot → ℕ
send_number None = 0
send_number (Some Yes) = 1
send_number (Some No) = 2

-- A delivery waits at a place, and its reason is 0; or it is aborted for reason 1, 2 or 3, and its place is 0.
abbrev pub reason_told : Result ℕ Reason → ℕ
reason_told (Ok place) = 0
reason_told (Err reason) = reason_number reason

abbrev pub place_told : Result ℕ Reason → ℕ
place_told (Ok place) = place
place_told (Err reason) = 0

abbrev pub taken_face : Delivered → DeliveredFace
taken_face d =
    record { refusal = 0; dc = d.dc; reason = reason_told d.fate; place = place_told d.fate; send = send_number d.send; finishes = d.finishes }

-- "Every refusal returns its number alone": every other number is 0 then.
abbrev pub delivery_refused : ℕ → DeliveredFace
delivery_refused number = record { refusal = number; dc = 0; reason = 0; place = 0; send = 0; finishes = 0 }

abbrev pub settling_refused : ℕ → SettledFace
settling_refused number = record { refusal = number; finishes = 0 }

abbrev pub read_refused : ℕ → ReadingFace
read_refused number = record { value = pos 0; version = 0; refusal = number }

abbrev pub delivered_face : Result Delivered Refusal → DeliveredFace
delivered_face (Ok d) = taken_face d
delivered_face (Err r) = delivery_refused (numbered r)

-- Of a vote, and of a threshold change.
abbrev pub settled_face : Result ℕ Refusal → SettledFace
settled_face (Ok finishes) = record { refusal = 0; finishes = finishes }
settled_face (Err r) = settling_refused (numbered r)

abbrev pub reading_face : Reading → ReadingFace
reading_face (Value v version) = record { value = v; version = version; refusal = 0 }
reading_face (Refused r) = read_refused (numbered r)

-- How a log stands between two pieces, as C keeps it.
abbrev pub standing_of : ℕ → ℕ → Standing
standing_of opened skipping = record { opened = flagged opened; skipping = flagged skipping }

abbrev pub fed_face : Fed → FedFace
fed_face f =
    record { taken = f.taken; wrote = f.wrote; full = flag f.full; opened = flag f.standing.opened; skipping = flag f.standing.skipping }
