-- The line of a read: its value, or the number that it hands back where it is refused.
use Rattle.std.specs.Prelude.{ℕ, ◌+◌, ◌*◌, ◌^◌, ◌≤◌, ◌<◌, List, [], ◌∷◌, ◌≡◌, ℤ, length}
use Rattle.std.proofs.Common.{ap, ◌∙◌, arith}
use Rattle.std.specs.Int.Signed.{mag}
use Rattle.rules.specs.Events.{value}
use Rattle.rules.specs.Bytes.{tab_byte, signed_text}
use Rattle.rules.specs.AnswerText.{end, refusal_text, read_text}
use Rattle.numerals.specs.Amounts.{signed_text_fits}
use Rattle.numerals.specs.Writing.{Wrote, wrote_both, wrote_as, wrote_length}
use Rattle.refusing.specs.declared.refusals.Refusal.{Refusal}
use Rattle.refusing.specs.Told.{numbered}
use Rattle.engine.specs.declared.answers.Reading.{Reading}
use Rattle.engine.specs.declared.answers.Reading.TheVariants.{Refused, Value}
use Rattle.engine.specs.Answers.{reading_said}
use Rattle.answers.specs.Lines.{numbers_text, numbers_onto}
use Rattle.answers.specs.declared.TheConstants.{HEAD}

-- A refusal's number, or 0.
abbrev pub number_said : Reading → ℕ
number_said (Refused r) = numbered r
number_said (Value v st) = 0

-- What isn't a value is refused.
pub turned_wrote : {o o' : List ℕ} {at p n : ℕ} (key : ℕ) (answer : Reading) (r : Refusal) → answer ≡ Refused r → n ≡ number_said answer
    → Wrote o at (88 ∷ numbers_text (n ∷ []) end) o' p → Wrote o at (read_text key (reading_said answer)) o' p
unfolding read_text refusal_text
turned_wrote key answer r turned same w = rw (turned, ← (same ∙ ap number_said turned)) w

-- The value behind its numbers and a tab, and the newline.
module _ {o front tab signed : List ℕ} {at p q r : ℕ} (key st : ℕ) (z : ℤ) (small : mag z < 2 ^ 63) (room : at + HEAD ≤ length o) (ends : p ≤ at + 1 + 11 * 2)
    (numbers : Wrote o at (82 ∷ numbers_text (key ∷ st ∷ []) []) front p) (behind : Wrote front p (tab_byte ∷ []) tab q)
    (amount : Wrote tab q (signed_text z) signed r) where
  front_length : length front ≡ length o
  front_length = let place = numbers.place in wrote_length (omega arith) numbers

  tab_length : length tab ≡ length front
  tab_length = let same = front_length in wrote_length (omega arith) behind

  signed_length : length signed ≡ length tab
  signed_length =
      let same = front_length in
      let long = tab_length in
      let place = behind.place in
      let digits = signed_text_fits z small in
      wrote_length (omega arith) amount

  pub value_room : r < length signed
  value_room =
      let same = front_length in
      let long = tab_length in
      let whole = signed_length in
      let place = behind.place in
      let last = amount.place in
      let digits = signed_text_fits z small in
      omega arith

  pub value_ends : {o' : List ℕ} {last : ℕ} → Wrote signed r end o' last → last ≤ at + HEAD
  value_ends newline =
      let place = behind.place in
      let written = amount.place in
      let behind_all = newline.place in
      let digits = signed_text_fits z small in
      omega arith

  pub value_wrote : {o' : List ℕ} {last : ℕ} → Wrote signed r end o' last → Wrote o at (read_text key (value st z)) o' last
  unfolding read_text
  value_wrote newline =
      let same = front_length in
      let long = tab_length in
      let place = behind.place in
      let first = numbers.place in
      let digits = signed_text_fits z small in
      wrote_as (ap (λ (l : List ℕ). 82 ∷ l) (numbers_onto (key ∷ st ∷ []) _))
      (wrote_both (omega arith) numbers (wrote_both (omega arith) behind (wrote_both (omega arith) amount newline)))
