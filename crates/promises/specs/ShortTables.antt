-- Tables that are too short: no engine is opened in them, nothing but refusals by 13 and 14 is written, and they stay as they were.
use Rattle.std.specs.Prelude.{ℕ, ◌-◌, Bool, true, false, ◌||◌, List, [], ◌∷◌, ◌++◌, ◌≡◌, refl, ltb, ℤ, length, drop}
use Rattle.std.proofs.Math.Option.{none}
use Rattle.std.proofs.Common.{sym, ap, ◌∙◌, append-nil, append_assoc}
use Rattle.rules.specs.Bytes.{split, newline}
use Rattle.rules.specs.Records.{line_limit, Record, opens, event, unreadable}
use Rattle.rules.specs.AnswerText.{refusal_text}
use Rattle.refusing.specs.Operands.{short, opening_number}
use Rattle.engine.specs.Operations.{opened}
use Rattle.engine.specs.Calls.{Memory, opened_in}
use Rattle.feed.specs.declared.Standing.{Standing}
use Rattle.feed.specs.Feeding.{line_record, recorded, whole_given, Taken, has_room, is_left, tail_taken, lines_taken, lent_memory}
use Rattle.feed.specs.Cutting.{by_test}
use Rattle.promises.specs.Callers.{Piece, Run, run, beginning, Caller, at_the_end, out, ledger_of}
use Rattle.feed.specs.Between.{written}
use Rattle.promises.specs.LogBytes.{text_before}
use Rattle.promises.specs.LogEvents.{number_before, text_before_one}

-- A text of refusals by 13 and 14 alone, as that of some records with no opening that is accepted.
pub record OnlyRefused (text : List ℕ) : Type 0 where
  pub refused : List Record
  pub are : text ≡ text_before refused

none_refused : OnlyRefused []
unfolding text_before
none_refused = record { refused = []; are = refl }

one_refused : (r : Record) → OnlyRefused (refusal_text (number_before r))
unfolding text_before
one_refused r = record { refused = r ∷ []; are = sym (text_before_one r [] ∙ append-nil (refusal_text (number_before r))) }

texts_before : (rs more : List Record) → text_before (rs ++ more) ≡ text_before rs ++ text_before more
unfolding text_before
texts_before [] more = refl
texts_before (r ∷ rs) more =
    text_before_one r (rs ++ more)
    ∙ ap (λ (t : List ℕ). refusal_text (number_before r) ++ t) (texts_before rs more)
    ∙ sym (append_assoc (refusal_text (number_before r)) (text_before rs) (text_before more))
    ∙ ap (λ (t : List ℕ). t ++ text_before more) (sym (text_before_one r rs))

both_refused : (text more : List ℕ) → OnlyRefused text → OnlyRefused more → OnlyRefused (text ++ more)
both_refused text more a b = record { refused = a.refused ++ b.refused; are = rw (a.are, b.are) (sym (texts_before a.refused b.refused)) }

-- A record, on tables that are too short.
recorded_short : (r : Record) (m : Memory) → short m.book m.sums ≡ true → recorded r false m ≡ record { text = refusal_text (number_before r); opened = false; memory = m }
unfolding recorded opened opening_number opened_in
recorded_short unreadable m q = refl
recorded_short (opens partitions own k) m q = rw q refl
recorded_short (event e) m q = refl

-- What a call takes leaves no engine opened and the tables as they were.
record Unmoved (m : Memory) (r : Taken) : Type 0 where
  opened : r.standing.opened ≡ false
  memory : r.memory ≡ m
  text : OnlyRefused r.text

module _ (m : Memory) (q : short m.book m.sums ≡ true) where
  line_unmoved : (bytes : ℕ) (line : List ℕ) (p : Standing) → p.opened ≡ false → Unmoved m (let r = recorded (line_record line) p.opened m in
      record { text = r.text; bytes = bytes; full = false; standing = record { opened = r.opened; skipping = false }; memory = r.memory })
  line_unmoved bytes line p h = rw (h, recorded_short (line_record line) m q) (record { opened = refl; memory = refl; text = one_refused (line_record line) })

  tail_unmoved : (at_end : Bool) (room : ℕ) (tail : List ℕ) (p : Standing) → p.opened ≡ false → Unmoved m (tail_taken at_end room tail p m)
  unfolding tail_taken
  tail_unmoved at_end room tail p h =
      by_test (Unmoved m) p.skipping (λ s. record { opened = h; memory = refl; text = none_refused })
      (λ s. by_test (Unmoved m) (is_left at_end tail) (λ l. record { opened = h; memory = refl; text = none_refused })
      (λ l. by_test (Unmoved m) (has_room room)
      (λ r. by_test (Unmoved m) (ltb line_limit (length tail)) (λ t. record { opened = h; memory = refl; text = one_refused unreadable }) (λ t. line_unmoved (length tail) tail p h))
      (λ r. record { opened = h; memory = refl; text = none_refused })))

  given_unmoved : (skipping : Bool) (line : List ℕ) (is_open : Bool) → is_open ≡ false
      → let r = whole_given skipping line is_open m in (r.opened ≡ false) × (r.memory ≡ m) × OnlyRefused r.text
  unfolding whole_given
  given_unmoved true line is_open h = (h, refl, none_refused)
  given_unmoved false line is_open h = rw (h, recorded_short (line_record line) m q) (refl, refl, one_refused (line_record line))

  lines_unmoved : (at_end : Bool) (ls : List (List ℕ)) (room : ℕ) (p : Standing) → p.opened ≡ false → Unmoved m (lines_taken at_end room ls p m)
  unfolding lines_taken
  lines_unmoved at_end [] room p h = record { opened = h; memory = refl; text = none_refused }
  lines_unmoved at_end (tail ∷ []) room p h = tail_unmoved at_end room tail p h
  lines_unmoved at_end (line ∷ next ∷ ls) room p h =
      by_test (Unmoved m) (p.skipping || has_room room)
      (λ g. let r = whole_given p.skipping line p.opened m in
      let one = given_unmoved p.skipping line p.opened h in
      let more = lines_unmoved at_end (next ∷ ls) (room - length r.text) (record { opened = r.opened; skipping = false }) one.0 in
      let same : Unmoved m (lines_taken at_end (room - length r.text) (next ∷ ls) (record { opened = r.opened; skipping = false }) r.memory) = rw one.1 more in
      record { opened = same.opened; memory = same.memory; text = both_refused r.text _ one.2 same.text })
      (λ g. record { opened = h; memory = refl; text = none_refused })

-- Calls one after the other.
record RunUnmoved (book : List ℕ) (sums : List ℤ) (r : Run) : Type 0 where
  opened : r.standing.opened ≡ false
  same_book : r.book ≡ book
  same_sums : r.sums ≡ sums
  text : OnlyRefused r.text

run_unmoved : (book : List ℕ) (sums : List ℤ) → short book sums ≡ true → (pieces : List Piece) (left : List ℕ) (p : Standing) → p.opened ≡ false
    → RunUnmoved book sums (run pieces left p book sums)
unfolding run
run_unmoved book sums q [] left p h = record { opened = h; same_book = refl; same_sums = refl; text = none_refused }
run_unmoved book sums q (x ∷ xs) left p h =
    let r = lines_taken x.at_end (length x.buffer) (split newline (left ++ x.bytes)) p (lent_memory book sums) in
    let one = lines_unmoved (lent_memory book sums) q x.at_end (split newline (left ++ x.bytes)) (length x.buffer) p h in
    let more = run_unmoved book sums q xs (drop r.bytes (left ++ x.bytes)) r.standing one.opened in
    let same : RunUnmoved book sums (run xs (drop r.bytes (left ++ x.bytes)) r.standing r.memory.book r.memory.sums) = rw one.memory more in
    record { opened = same.opened; same_book = same.same_book; same_sums = same.same_sums; text = rw (written x.buffer r.text) (both_refused r.text _ one.text same.text) }

-- What a caller has at the end that lent such tables.
pub record Untouched (c : Caller) : Type 0 where
  pub no_ledger : ledger_of c ≡ none
  pub book : (at_the_end c).book ≡ c.book
  pub sums : (at_the_end c).sums ≡ c.sums
  pub text : OnlyRefused (out c)

pub short_untouched : (c : Caller) → short c.book c.sums ≡ true → Untouched c
short_untouched c q =
    let all = run_unmoved c.book c.sums q c.pieces [] beginning refl in
    record { no_ledger = rw all.opened; book = all.same_book; sums = all.same_sums; text = all.text }
