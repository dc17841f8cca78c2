-- "A longer lent table is taken and its excess never touched.", of a chunk of text: whatever is lent, what stands behind the state's words and amounts and behind
-- what was written stays; and with more behind tables that are long enough a chunk gives the same.
use Rattle.std.specs.Prelude.{ℕ, ◌+◌, ◌-◌, ◌≤◌, Bool, true, false, ◌||◌, List, [], ◌∷◌, ◌++◌, ◌≡◌, refl, ltb, ℤ, length, drop, Ok, Err}
use Rattle.std.proofs.Common.{Result, subst, sym, ap, ◌∙◌, arith, append-nil}
use Rattle.rules.specs.Events.{Event}
use Rattle.rules.specs.Bytes.{split, newline}
use Rattle.rules.specs.Records.{line_limit, Record, opens, event, unreadable}
use Rattle.laws.specs.Tests as tests
use Rattle.laws.specs.Cuts.{drop_put_front, length_put}
use Rattle.tables.specs.Layout.{book_words, sums_words}
use Rattle.refusing.specs.declared.refusals.Refusal.{Refusal}
use Rattle.engine.specs.Answers as answers
use Rattle.engine.specs.Operations.{opened}
use Rattle.engine.specs.Longer.{opening_longer}
use Rattle.engine.specs.Calls.{Memory, Called, call, opened_in}
use Rattle.engine.specs.CallMeans.{Long}
use Rattle.engine.specs.CallExcess.{longer_memory, longer_called, call_longer, opened_in_longer, StateExcessKept, kept_itself, kept_on, kept_long, call_excess, opened_in_excess}
use Rattle.feed.specs.declared.Standing.{Standing}
use Rattle.feed.specs.declared.Fed.{Fed}
use Rattle.feed.specs.Feeding.{line_record, Recorded, called_text, opening_given, recorded, whole_given, Taken, taken_whole, behind, has_room, is_left, line_taken, tail_taken, lines_taken, feeding, After, lent_memory, after, fed}
use Rattle.feed.specs.Ending.{leaves}

-- What each part of a chunk leaves.
opening_kept : (partitions own k : ℕ) (a : Result (Unit {0}) Refusal) (old m : Memory) → StateExcessKept old m → StateExcessKept old (opening_given partitions own k a m).memory
opening_kept partitions own k (Ok done) old m h = h
opening_kept partitions own k (Err r) old m h = h

recorded_kept : (r : Record) (is_open : Bool) (m : Memory) → StateExcessKept m (recorded r is_open m).memory
unfolding recorded
recorded_kept unreadable is_open m = kept_itself m
recorded_kept (opens partitions own k) true m = kept_itself m
recorded_kept (opens partitions own k) false m =
    opening_kept partitions own k (opened partitions own k m.book m.sums).answer m (opened_in partitions own k m) (opened_in_excess partitions own k m)
recorded_kept (event e) true m = (call_excess e m).state
recorded_kept (event e) false m = kept_itself m

given_kept : (skipping : Bool) (line : List ℕ) (is_open : Bool) (m : Memory) → StateExcessKept m (whole_given skipping line is_open m).memory
unfolding whole_given
given_kept true line is_open m = kept_itself m
given_kept false line is_open m = recorded_kept (line_record line) is_open m

tail_kept : (at_end : Bool) (room : ℕ) (tail : List ℕ) (p : Standing) (m : Memory) → StateExcessKept m (tail_taken at_end room tail p m).memory
unfolding tail_taken
tail_kept at_end room tail p m =
    tests.split p.skipping (λ q. rw q (kept_itself m))
    (λ q. tests.split (is_left at_end tail) (λ l. rw (q, l) (kept_itself m))
    (λ l. tests.split (has_room room)
    (λ f. tests.split (ltb line_limit (length tail)) (λ long. rw (q, l, f, long) (kept_itself m)) (λ long. rw (q, l, f, long) (recorded_kept (line_record tail) p.opened m)))
    (λ f. rw (q, l, f) (kept_itself m))))

lines_kept : (at_end : Bool) (room : ℕ) (lines : List (List ℕ)) (p : Standing) (m : Memory) → StateExcessKept m (lines_taken at_end room lines p m).memory
unfolding lines_taken
lines_kept at_end room [] p m = kept_itself m
lines_kept at_end room (tail ∷ []) p m = tail_kept at_end room tail p m
lines_kept at_end room (line ∷ next ∷ lines) p m =
    tests.split (p.skipping || has_room room)
    (λ q. let r = whole_given p.skipping line p.opened m in
    rw q (kept_on (lines_kept at_end (room - length r.text) (next ∷ lines) (record { opened = r.opened; skipping = false }) r.memory) (given_kept p.skipping line p.opened m)))
    (λ q. rw q (kept_itself m))

-- Of a chunk: the two tables, and the buffer of answers.
pub record FedExcessKept (old : List ℕ) (old_sums : List ℤ) (old_out : List ℕ) (r : After) : Type 0 where
  pub book : drop book_words r.book ≡ drop book_words old
  pub sums : drop sums_words r.sums ≡ drop sums_words old_sums
  pub out : drop r.wrote r.out ≡ drop r.wrote old_out
  pub book_length : length r.book ≡ length old
  pub sums_length : length r.sums ≡ length old_sums
  -- `feed` promises that what it writes fits
  pub out_length : r.wrote ≤ length old_out → length r.out ≡ length old_out

pub fed_excess : (at_end : Bool) (p : Standing) (input book : List ℕ) (sums : List ℤ) (out : List ℕ) → FedExcessKept book sums out (fed at_end p input book sums out)
fed_excess at_end p input book sums out =
    let m = lent_memory book sums in
    let text = (feeding at_end (length out) input p m).text in
    let h = lines_kept at_end (length out) (split newline input) p m in
    record {
      book = h.book;
      sums = h.sums;
      out = drop_put_front out text (length text) refl;
      book_length = h.book_length;
      sums_length = h.sums_length;
      out_length = λ fits. length_put out 0 text (omega arith);
    }

-- So it is of all that a call of `feed` leaves.
pub feed_excess : {r : Fed} {book : List ℕ} {sums : List ℤ} {out : List ℕ} (at_end : Bool) (p : Standing) (input old : List ℕ) (old_sums : List ℤ) (old_out : List ℕ)
    → leaves r book sums out ≡ fed at_end p input old old_sums old_out → FedExcessKept old old_sums old_out (leaves r book sums out)
feed_excess at_end p input old old_sums old_out e = subst (FedExcessKept old old_sums old_out) (sym e) (fed_excess at_end p input old old_sums old_out)

-- The same with more behind the two tables.
abbrev pub widened : List ℕ → List ℤ → After → After
widened x y r =
    record { taken = r.taken; wrote = r.wrote; full = r.full; standing = r.standing; book = r.book ++ x; sums = r.sums ++ y; out = r.out }

module _ (x : List ℕ) (y : List ℤ) where
  abbrev longer : Memory → Memory
  longer m = longer_memory x y [] m

  abbrev longer_recorded : Recorded → Recorded
  longer_recorded r = record { text = r.text; opened = r.opened; memory = longer r.memory }

  abbrev longer_taken : Taken → Taken
  longer_taken r = record { text = r.text; bytes = r.bytes; full = r.full; standing = r.standing; memory = longer r.memory }

  text_longer : (e : Event) (c : Called) → called_text e (longer_called x y [] c) ≡ called_text e c
  text_longer e c = rw append-nil

  given_longer : (partitions own k : ℕ) (a : Result (Unit {0}) Refusal) (m : Memory)
      → opening_given partitions own k a (longer m) ≡ longer_recorded (opening_given partitions own k a m)
  given_longer partitions own k (Ok done) m = refl
  given_longer partitions own k (Err r) m = refl

  recorded_longer : (r : Record) (is_open : Bool) (m : Memory) → Long m → recorded r is_open (longer m) ≡ longer_recorded (recorded r is_open m)
  unfolding recorded
  recorded_longer unreadable is_open m long = refl
  recorded_longer (opens partitions own k) true m long = refl
  recorded_longer (opens partitions own k) false m long =
      let said = ap (λ (r : answers.After (Result (Unit {0}) Refusal)). r.answer) (opening_longer m.book x m.sums y long.book long.sums partitions own k) in
      rw (said, opened_in_longer x y [] partitions own k m long) (given_longer partitions own k (opened partitions own k m.book m.sums).answer (opened_in partitions own k m))
  recorded_longer (event e) true m long =
      let c = call_longer x y [] e m long in
      λ i. record { text = (ap (called_text e) c ∙ text_longer e (call e m)) i; opened = true; memory = (c i).memory }
  recorded_longer (event e) false m long = refl

  line_longer : (skipping : Bool) (line : List ℕ) (is_open : Bool) (m : Memory) → Long m
      → whole_given skipping line is_open (longer m) ≡ longer_recorded (whole_given skipping line is_open m)
  unfolding whole_given
  line_longer true line is_open m long = refl
  line_longer false line is_open m long = recorded_longer (line_record line) is_open m long

  tail_longer : (at_end : Bool) (room : ℕ) (tail : List ℕ) (p : Standing) (m : Memory) → Long m
      → tail_taken at_end room tail p (longer m) ≡ longer_taken (tail_taken at_end room tail p m)
  unfolding tail_taken
  tail_longer at_end room tail p m long =
      let line : line_taken (length tail) tail p (longer m) ≡ longer_taken (line_taken (length tail) tail p m) =
      ap (λ (r : Recorded). taken_whole (length tail) r.text (record { opened = r.opened; skipping = false }) r.memory) (recorded_longer (line_record tail) p.opened m long) in
      tests.split p.skipping (λ q. rw q)
      (λ q. tests.split (is_left at_end tail) (λ l. rw (q, l))
      (λ l. tests.split (has_room room) (λ f. tests.split (ltb line_limit (length tail)) (λ over. rw (q, l, f, over)) (λ over. rw (q, l, f, over) line)) (λ f. rw (q, l, f))))

  lines_longer : (at_end : Bool) (room : ℕ) (lines : List (List ℕ)) (p : Standing) (m : Memory) → Long m
      → lines_taken at_end room lines p (longer m) ≡ longer_taken (lines_taken at_end room lines p m)
  unfolding lines_taken
  lines_longer at_end room [] p m long = refl
  lines_longer at_end room (tail ∷ []) p m long = tail_longer at_end room tail p m long
  lines_longer at_end room (line ∷ next ∷ lines) p m long =
      tests.split (p.skipping || has_room room)
      (λ q. let r = whole_given p.skipping line p.opened m in
      let rest = lines_longer at_end (room - length r.text) (next ∷ lines) (record { opened = r.opened; skipping = false }) r.memory
      (kept_long (given_kept p.skipping line p.opened m) long) in
      rw (q, line_longer p.skipping line p.opened m long) (ap (behind (length line + 1) r.text) rest))
      (λ q. rw q)

  -- A chunk answers the same and leaves the same, with what stands behind the tables still there.
  pub fed_longer : (at_end : Bool) (p : Standing) (input book : List ℕ) (sums : List ℤ) (out : List ℕ) → book_words ≤ length book → sums_words ≤ length sums
      → fed at_end p input (book ++ x) (sums ++ y) out ≡ widened x y (fed at_end p input book sums out)
  fed_longer at_end p input book sums out long long_sums =
      ap (after out)
      (lines_longer at_end (length out) (split newline input) p (lent_memory book sums) (record { book = long; sums = long_sums; room = omega arith }))
