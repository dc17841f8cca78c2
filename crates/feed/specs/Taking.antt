-- One line, taken: what it leaves is what the definition on bytes gives of it.
use Rattle.std.specs.Prelude.{ℕ, ◌+◌, ◌≤◌, Bool, true, false, not, ◌||◌, List, [], ◌≡◌, refl, ℤ, length, Ok, Err}
use Rattle.std.proofs.Common.{Result, sym, ap, ◌∙◌, arith}
use Rattle.rules.specs.Ledger.{sizes_fit}
use Rattle.rules.specs.Events.{Event}
use Rattle.rules.specs.Records.{Record, opens, event, unreadable}
use Rattle.rules.specs.AnswerText.{refusal_text, opened_text}
use Rattle.laws.specs.Tests.{split, or_right}
use Rattle.claims.specs.Soundness.{opening_sound}
use Rattle.numerals.specs.Writing.{Wrote}
use Rattle.refusing.specs.declared.refusals.Refusal.{Refusal}
use Rattle.refusing.specs.Told.{numbered}
use Rattle.engine.specs.Operations.{left, opened}
use Rattle.std.proofs.lemmas.Bool.{not-false}
use Rattle.refusing.specs.Told.{named}
use Rattle.refusing.specs.Operands.{short, opening_number}
use Rattle.engine.specs.Public.{opening_long}
use Rattle.engine.specs.Lengths.{opened_lengths}
use Rattle.engine.specs.Meanings.{opened_means}
use Rattle.tables.specs.declared.ledgers.Sizes.{Sizes}
use Rattle.records.specs.declared.Record as code
use Rattle.records.specs.declared.Record.TheVariants.{Opening, Delivery, Vote, Change, Read}
use Rattle.records.specs.Said.{one_said}
use Rattle.engine.specs.Calls.{Memory, opened_in}
use Rattle.engine.specs.Answers.{After}
use Rattle.answers.specs.declared.TheConstants.{HEAD}
use Rattle.feed.specs.declared.taking.Line.{Line}
use Rattle.feed.specs.Feeding.{Recorded, out_of_turn, recorded}
use Rattle.feed.specs.Answering.{Usable, usable_kept, Answered, memory}

-- The memory and the text that a record gives.
pub record Gave (r : Recorded) (m' : Memory) (o : List ℕ) (at : ℕ) (o' : List ℕ) (p : ℕ) : Type 0 where
  pub memory : m' ≡ r.memory
  pub wrote : Wrote o at r.text o' p
  pub ends : p ≤ at + 832

-- And how the engine stands after it.
pub record Took (r : Recorded) (m' : Memory) (o : List ℕ) (at : ℕ) (o' : List ℕ) (line : Line) : Type 0 where
  pub gave : Gave r m' o at o' line.at
  pub opened : line.opened ≡ r.opened
  pub known : line.known ≡ true → Usable m'.book m'.sums

pub refused_next : (m : Memory) (partitions own k : ℕ) {o o' : List ℕ} {at p : ℕ} → Wrote o at (refusal_text 13) o' p → p ≤ at + HEAD
    → Gave (recorded (opens partitions own k) true m) m o at o' p
unfolding recorded
refused_next m partitions own k w ends = record { memory = refl; wrote = w; ends = omega arith }

pub answered_next : {e : Event} {m m' : Memory} {o o' : List ℕ} {at p : ℕ} → Answered e m m' o at o' p → Gave (recorded (event e) true m) m' o at o' p
unfolding recorded
answered_next a = record { memory = a.memory; wrote = a.wrote; ends = a.ends }

-- While an engine is opened it stays so, and what was known of its tables is known of them afterwards.
stays_open : (r : Record) (m : Memory) → (recorded r true m).opened ≡ true
unfolding recorded
stays_open unreadable m = refl
stays_open (opens partitions own k) m = refl
stays_open (event e) m = refl

usable_next : (r : Record) (m : Memory) → length m.finishes ≡ 64 → Usable m.book m.sums
    → Usable (recorded r true m).memory.book (recorded r true m).memory.sums
unfolding recorded
usable_next unreadable m list u = u
usable_next (opens partitions own k) m list u = u
usable_next (event e) m list u = usable_kept e m (omega arith) u

pub took_next : (r : Record) (m m' : Memory) (known : Bool) {o o' : List ℕ} {at p : ℕ} → (known ≡ true → Usable m.book m.sums) → length m.finishes ≡ 64
    → Gave (recorded r true m) m' o at o' p → Took (recorded r true m) m' o at o' (record { at = p; opened = true; known = known })
took_next r m m' known knows list gave =
    record { gave = gave; opened = sym (stays_open r m); known = λ k. rw gave.memory (usable_next r m list (knows k)) }

-- A line that can't be read.
pub took_unread : (r : Record) (is_open known : Bool) (m : Memory) {o o' : List ℕ} {at p : ℕ} → r ≡ unreadable → (known ≡ true → Usable m.book m.sums)
    → Wrote o at (refusal_text 14) o' p → p ≤ at + HEAD → Took (recorded r is_open m) m o at o' (record { at = p; opened = is_open; known = known })
unfolding recorded
took_unread r is_open known m is knows w ends =
    rw is (record { gave = record { memory = refl; wrote = w; ends = omega arith }; opened = refl; known = knows })

-- An event before opening.
pub took_early : (r : Record) (m : Memory) {o o' : List ℕ} {at p : ℕ} → recorded r false m ≡ out_of_turn false m
    → Wrote o at (refusal_text 13) o' p → p ≤ at + HEAD → Took (recorded r false m) m o at o' (record { at = p; opened = false; known = false })
took_early r m is w ends =
    rw is (record { gave = record { memory = refl; wrote = w; ends = omega arith }; opened = refl; known = λ k. let e = k in cc })

-- What isn't an opening comes too early.
pub no_opening : (r : code.Record) (m : Memory) → ((x : Sizes) → r ≡ Opening x → ⊥) → recorded (one_said r) false m ≡ out_of_turn false m
unfolding recorded
no_opening (Opening sizes) m h = absurd (h sizes refl)
no_opening (Delivery d) m h = refl
no_opening (Vote identity partition b) m h = refl
no_opening (Change k) m h = refl
no_opening (Read key st) m h = refl

-- An opening that isn't refused leaves tables that are long enough, with a sound state in them.
module _ (partitions own k : ℕ) (old : List ℕ) (old_sums : List ℤ) where
  refuses : (short old old_sums || not (sizes_fit partitions own k)) ≡ true → (opened partitions own k old old_sums).answer ≡ Err (named 13)
  unfolding opened opening_number
  refuses q = rw q refl

  no_number : (short old old_sums || not (sizes_fit partitions own k)) ≡ false → opening_number partitions own k old old_sums ≡ 0
  unfolding opening_number
  no_number q = rw q refl

  opened_usable : (opened partitions own k old old_sums).answer ≡ Ok tt
      → Usable (opened partitions own k old old_sums).book (opened partitions own k old old_sums).sums
  opened_usable h =
      split (short old old_sums || not (sizes_fit partitions own k))
      (λ q. absurd (let e = sym (refuses q) ∙ h in cc))
      (λ q. let n = opening_number partitions own k old old_sums in
      let tables = opening_long partitions own k old old_sums n refl (no_number q) in
      let fits = not-false (sizes_fit partitions own k) (or_right (short old old_sums) (not (sizes_fit partitions own k)) q) in
      let same = opened_lengths old old_sums [] partitions own k in
      record {
        long = rw same.book tables.long;
        long_sums = rw same.sums tables.long_sums;
        is_sound = rw ((opened_means partitions own k old old_sums tables.long tables.long_sums fits).1) (opening_sound partitions own k fits);
      })

-- An opening.
module _ (partitions own k : ℕ) {book : List ℕ} {sums : List ℤ} (m : Memory) where
  opened_memory : {a : Result (Unit {0}) Refusal} → left a book sums [] ≡ opened partitions own k m.book m.sums
      → memory book sums m.finishes ≡ opened_in partitions own k m
  unfolding opened_in
  opened_memory e = ap (λ (r : After (Result (Unit {0}) Refusal)). memory r.book r.sums m.finishes) e

  opened_answer : {a : Result (Unit {0}) Refusal} → left a book sums [] ≡ opened partitions own k m.book m.sums → a ≡ (opened partitions own k m.book m.sums).answer
  opened_answer e = ap (λ (x : After (Result (Unit {0}) Refusal)). x.answer) e

  usable_opened : left (Ok tt) book sums [] ≡ opened partitions own k m.book m.sums → Usable book sums
  usable_opened e =
      let u = opened_usable partitions own k m.book m.sums (sym (opened_answer e)) in
      rw (ap (λ (x : After (Result (Unit {0}) Refusal)). x.book) e, ap (λ (x : After (Result (Unit {0}) Refusal)). x.sums) e) u

  module _ {o o' : List ℕ} {at p : ℕ} where
    pub took_refused_opening : (r : Refusal) → left (Err r) book sums [] ≡ opened partitions own k m.book m.sums
        → Wrote o at (refusal_text (numbered r)) o' p → p ≤ at + HEAD
        → Took (recorded (opens partitions own k) false m) (memory book sums m.finishes) o at o' (record { at = p; opened = false; known = false })
    unfolding recorded
    took_refused_opening r e w ends =
        rw (← opened_answer e)
        (record { gave = record { memory = opened_memory e; wrote = w; ends = omega arith }; opened = refl; known = λ k. let e = k in cc })

    pub took_opening : left (Ok tt) book sums [] ≡ opened partitions own k m.book m.sums
        → Wrote o at (opened_text partitions own k) o' p → p ≤ at + HEAD
        → Took (recorded (opens partitions own k) false m) (memory book sums m.finishes) o at o' (record { at = p; opened = true; known = true })
    unfolding recorded
    took_opening e w ends =
        rw (← opened_answer e)
        (record { gave = record { memory = opened_memory e; wrote = w; ends = omega arith }; opened = refl; known = λ k. usable_opened e })
