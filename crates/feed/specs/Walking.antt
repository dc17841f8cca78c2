-- The walk over the lines of a chunk: what was taken so far, and what is left to take, is what the definition takes.
use Rattle.std.specs.Prelude.{ℕ, ◌+◌, ◌-◌, ◌≤◌, ◌<◌, Bool, true, false, ◌||◌, List, [], ◌∷◌, ◌++◌, ◌≡◌, refl, length, take, drop, Ok, Err}
use Rattle.std.proofs.Common.{leb-false, Result, leb-true, sym, ap, ap₂, ◌∙◌, arith, append_assoc, length-drop}
use Rattle.rules.specs.Bytes.{split, newline}
use Rattle.laws.specs.Tests as tests
use Rattle.laws.specs.Cuts.{put_nothing}
use Rattle.std.proofs.Math.Seq.{length-take-le}
use Rattle.rules.specs.Records.{Record, opens, event, unreadable}
use Rattle.refusing.specs.declared.refusals.Refusal.{Refusal}
use Rattle.engine.specs.Operations.{opened}
use Rattle.numerals.specs.Parts.{until, split_at_find, split_no_find}
use Rattle.numerals.specs.Writing.{Wrote, wrote_both, wrote_length}
use Rattle.engine.specs.Calls.{Memory, opened_in}
use Rattle.engine.specs.CallMeans.{call_list}
use Rattle.answers.specs.declared.TheConstants.{LONGEST}
use Rattle.feed.specs.declared.Standing.{Standing}
use Rattle.feed.specs.declared.walking.Place.{Place}
use Rattle.feed.specs.declared.walking.Stop.{Stop}
use Rattle.feed.specs.declared.taking.Line.{Line}
use Rattle.feed.specs.Splits.{Parts, some_part}
use Rattle.feed.specs.Feeding.{Recorded, line_record, recorded, whole_given, opening_given, Taken, stopped, behind, has_room, lines_taken}
use Rattle.feed.specs.Answering.{Usable}
use Rattle.feed.specs.Taking.{Took}

-- Where a line that was taken leaves the walk: its text stands behind the answers, and the next line starts at `next`.
pub record Came (r : Recorded) (m' : Memory) (o : List ℕ) (at : ℕ) (o' : List ℕ) (next : ℕ) (place : Place) : Type 0 where
  pub from : place.from ≡ next
  pub standing : place.standing ≡ record { opened = r.opened; skipping = false }
  pub memory : m' ≡ r.memory
  pub wrote : Wrote o at r.text o' place.at
  pub ends : place.at ≤ at + 832
  pub known : place.known ≡ true → Usable m'.book m'.sums

-- One line more is what the definition takes next.
lines_more : (at_end : Bool) (room : ℕ) (line : List ℕ) (others : List (List ℕ)) (p : Standing) (m : Memory) → Parts others → (p.skipping || has_room room) ≡ true
    → let r = whole_given p.skipping line p.opened m in
    lines_taken at_end room (line ∷ others) p m
    ≡ behind (length line + 1) r.text (lines_taken at_end (room - length r.text) others (record { opened = r.opened; skipping = false }) r.memory)
unfolding lines_taken
lines_more at_end room line others p m parts q = rw (parts.are, q)

-- No room for the line that comes next.
lines_stop : (at_end : Bool) (room : ℕ) (line : List ℕ) (others : List (List ℕ)) (p : Standing) (m : Memory) → Parts others → (p.skipping || has_room room) ≡ false
    → lines_taken at_end room (line ∷ others) p m ≡ stopped true p m
unfolding lines_taken
lines_stop at_end room line others p m parts q = rw (parts.are, q)

-- The walk so far.
pub record Walk (w : List ℕ) (p : Standing) (m : Memory) (o : List ℕ) (place : Place) (m' : Memory) (o' : List ℕ) : Type 0 where
  pub text : List ℕ
  pub so_far : (at_end : Bool) → lines_taken at_end (length o) (split newline w) p m
      ≡ behind place.from text (lines_taken at_end (length o - place.at) (split newline (drop place.from w)) place.standing m')
  pub wrote : Wrote o 0 text o' place.at
  pub low : place.from ≤ length w
  pub room : place.at ≤ length o
  pub answers_taken : 0 < place.at → 0 < place.from
  pub list : length m'.finishes ≡ 64
  pub known : place.known ≡ true → Usable m'.book m'.sums

behind_behind : (a b : ℕ) (t u : List ℕ) (r : Taken) → behind a t (behind b u r) ≡ behind (a + b) (t ++ u) r
behind_behind a b t u r =
    let sums : a + (b + r.bytes) ≡ (a + b) + r.bytes = omega arith in
    ap₂ (λ (l : List ℕ) (n : ℕ). let taken : Taken = record { text = l; bytes = n; full = r.full; standing = r.standing; memory = r.memory } in taken)
    (sym (append_assoc t u r.text)) sums

behind_nothing : (r : Taken) → behind 0 [] r ≡ r
behind_nothing r =
    let e : 0 + r.bytes ≡ r.bytes = omega arith in
    ap (λ (n : ℕ). let taken : Taken = record { text = r.text; bytes = n; full = r.full; standing = r.standing; memory = r.memory } in taken) e

-- At its start.
pub walk_start : (w : List ℕ) (place : Place) (m : Memory) (o : List ℕ) → place.from ≡ 0 → place.at ≡ 0 → length m.finishes ≡ 64
    → (place.known ≡ true → Usable m.book m.sums) → Walk w place.standing m o place m o
walk_start w place m o from at list knows =
    record {
      text = [];
      so_far = λ at_end. let e : length o - 0 ≡ length o = omega arith in rw (from, at, e) (sym (behind_nothing (lines_taken at_end (length o) (split newline w) place.standing m)));
      wrote = record { text = sym (put_nothing o 0); place = at };
      low = omega arith;
      room = omega arith;
      answers_taken = λ some. omega arith;
      list = list;
      known = knows;
    }

-- The finish list stays as long as it was.
given_memory : (partitions own k : ℕ) (a : Result (Unit {0}) Refusal) (m : Memory) → (opening_given partitions own k a m).memory ≡ m
given_memory partitions own k (Ok done) m = refl
given_memory partitions own k (Err r) m = refl

recorded_list : (r : Record) (is_open : Bool) (m : Memory) → length (recorded r is_open m).memory.finishes ≡ length m.finishes
unfolding recorded opened_in
recorded_list unreadable is_open m = refl
recorded_list (opens partitions own k) true m = refl
recorded_list (opens partitions own k) false m =
    ap (λ (x : Memory). length x.finishes) (given_memory partitions own k (opened partitions own k m.book m.sums).answer (opened_in partitions own k m))
recorded_list (event e) true m = call_list e m
recorded_list (event e) false m = refl

given_list : (skipping : Bool) (line : List ℕ) (is_open : Bool) (m : Memory) → length (whole_given skipping line is_open m).memory.finishes ≡ length m.finishes
unfolding whole_given
given_list true line is_open m = refl
given_list false line is_open m = recorded_list (line_record line) is_open m

-- What is skipped needs no room, and for all else there is some.
given_room : (skipping : Bool) (line : List ℕ) (is_open : Bool) (m : Memory) (at next room : ℕ) → at ≤ room → (skipping || has_room (room - at)) ≡ true
    → next ≡ at + length (whole_given skipping line is_open m).text → next ≤ at + 832 → next ≤ room
unfolding whole_given
given_room true line is_open m at next room low goes place ends = omega arith
given_room false line is_open m at next room low goes place ends = let enough = leb-true LONGEST (room - at) goes in omega arith

-- With one line more, that ends at e.
module _ {w : List ℕ} {p : Standing} {m : Memory} {o : List ℕ} {place : Place} {m' : Memory} {o' : List ℕ} (k : Walk w p m o place m' o')
    (e : ℕ) (found : e ≡ place.from + until newline (drop place.from w)) (inside : e < length w) where
  abbrev pub line : List ℕ
  line = take (e - place.from) (drop place.from w)

  abbrev others : List (List ℕ)
  others = split newline (drop (e + 1) w)

  long_line : length line ≡ e - place.from
  long_line = let long = length-drop place.from w in length-take-le (e - place.from) (drop place.from w) (omega arith)

  parts : split newline (drop place.from w) ≡ line ∷ others
  parts = split_at_find newline w place.from e found inside

  module _ (goes : (place.standing.skipping || has_room (length o - place.at)) ≡ true) where
    abbrev r : Recorded
    r = whole_given place.standing.skipping line place.standing.opened m'

    one_more : (at_end : Bool) → lines_taken at_end (length o) (split newline w) p m
        ≡ behind (e + 1) (k.text ++ r.text) (lines_taken at_end (length o - place.at - length r.text) others (record { opened = r.opened; skipping = false }) r.memory)
    one_more at_end =
        let rest = lines_taken at_end (length o - place.at - length r.text) others (record { opened = r.opened; skipping = false }) r.memory in
        let bytes : place.from + (length line + 1) ≡ e + 1 = let long = long_line in omega arith in
        k.so_far at_end
        ∙ ap (λ (t : Taken). behind place.from k.text t)
        (ap (λ (ls : List (List ℕ)). lines_taken at_end (length o - place.at) ls place.standing m') parts
        ∙ lines_more at_end (length o - place.at) line others place.standing m' (some_part newline (drop (e + 1) w)) goes)
        ∙ behind_behind place.from (length line + 1) k.text r.text rest
        ∙ ap (λ (n : ℕ). behind n (k.text ++ r.text) rest) bytes

    pub walk_on : {next : Place} {m'' : Memory} {o'' : List ℕ} → Came r m'' o' place.at o'' (e + 1) next → Walk w p m o next m'' o''
    walk_on {next} {m''} {o''} came =
        let there = came.wrote.place in
        let here = k.wrote.place in
        let room = k.room in
        let left : length o - next.at ≡ length o - place.at - length r.text = omega arith in
        record {
          text = k.text ++ r.text;
          so_far = λ at_end. rw (came.from, came.standing, came.memory, left) (one_more at_end);
          wrote = wrote_both (omega arith) k.wrote came.wrote;
          low = rw came.from (omega arith);
          room = given_room place.standing.skipping line place.standing.opened m' place.at next.at (length o) room goes there came.ends;
          answers_taken = λ some. let from = came.from in omega arith;
          list = rw came.memory (given_list place.standing.skipping line place.standing.opened m' ∙ k.list);
          known = came.known;
        }

-- The buffer of answers stays as long as it was.
pub walk_length : {w : List ℕ} {p : Standing} {m : Memory} {o : List ℕ} {place : Place} {m' : Memory} {o' : List ℕ} → Walk w p m o place m' o' → length o' ≡ length o
walk_length k = let place = k.wrote.place in let room = k.room in wrote_length (omega arith) k.wrote

-- Where the walk stops: for want of room, or with no newline in what is left.
pub record Stopped (w : List ℕ) (p : Standing) (m : Memory) (o : List ℕ) (stop : Stop) (m' : Memory) (o' : List ℕ) : Type 0 where
  pub walk : Walk w p m o stop.place m' o'
  pub short : stop.full ≡ true → (at_end : Bool)
      → lines_taken at_end (length o - stop.place.at) (split newline (drop stop.place.from w)) stop.place.standing m' ≡ stopped true stop.place.standing m'
  pub no_room : stop.full ≡ true → length o < stop.place.at + LONGEST
  pub tail : stop.full ≡ false → split newline (drop stop.place.from w) ≡ drop stop.place.from w ∷ []

-- Where the next line ends.
pub record EndAt (w : List ℕ) (from e : ℕ) : Type 0 where
  pub found : e ≡ from + until newline (drop from w)
  pub inside : e ≤ length w

-- For want of room for the line that comes next.
pub walk_short : (w : List ℕ) (p : Standing) (m : Memory) (o : List ℕ) (place : Place) (m' : Memory) (o' : List ℕ) (e : ℕ) (full : Bool)
    → Walk w p m o place m' o' → EndAt w place.from e → e < length w → (place.standing.skipping || has_room (length o - place.at)) ≡ false → full ≡ true
    → Stopped w p m o (record { place = place; full = full }) m' o'
walk_short w p m o place m' o' e full k end inside no_room is =
    record {
      walk = k;
      short = λ q at_end.
          ap (λ (ls : List (List ℕ)). lines_taken at_end (length o - place.at) ls place.standing m') (split_at_find newline w place.from e end.found inside)
          ∙ lines_stop at_end (length o - place.at) _ _ place.standing m' (some_part newline (drop (e + 1) w)) no_room;
      no_room = λ q.
          let room = k.room in
          let low = leb-false LONGEST (length o - place.at) (tests.or_right place.standing.skipping (has_room (length o - place.at)) no_room) in
          omega arith;
      tail = λ q. tests.never full is q;
    }

-- With no newline in what is left.
pub walk_tail : (w : List ℕ) (p : Standing) (m : Memory) (o : List ℕ) (place : Place) (m' : Memory) (o' : List ℕ) (e : ℕ) (full : Bool)
    → Walk w p m o place m' o' → EndAt w place.from e → length w ≤ e → full ≡ false
    → Stopped w p m o (record { place = place; full = full }) m' o'
walk_tail w p m o place m' o' e full k end beyond is =
    record { walk = k; short = λ q. tests.never full q is; no_room = λ q. tests.never full q is; tail = λ q. split_no_find newline w place.from e end.found beyond }

-- A line that was skipped, and one that was answered.
pub came_skipped : (line : List ℕ) (m : Memory) (o : List ℕ) (next : ℕ) (place : Place) → place.standing.skipping ≡ true → (place.known ≡ true → Usable m.book m.sums)
    → Came (whole_given place.standing.skipping line place.standing.opened m) m o place.at o next
    (record { from = next; at = place.at; standing = record { opened = place.standing.opened; skipping = false }; known = place.known })
unfolding whole_given
came_skipped line m o next place q knows =
    rw q
    (record { from = refl; standing = refl; memory = refl; wrote = record { text = sym (put_nothing o place.at); place = omega arith }; ends = omega arith; known = knows })

pub came_answered : (line : List ℕ) (m m' : Memory) {o o' : List ℕ} (next : ℕ) (place : Place) (taken : Line) → place.standing.skipping ≡ false
    → Took (recorded (line_record line) place.standing.opened m) m' o place.at o' taken
    → Came (whole_given place.standing.skipping line place.standing.opened m) m' o place.at o' next
    (record { from = next; at = taken.at; standing = record { opened = taken.opened; skipping = false }; known = taken.known })
unfolding whole_given
came_answered line m m' next place taken q t =
    rw q
    (record {
      from = refl;
      standing = ap (λ (b : Bool). let s : Standing = record { opened = b; skipping = false } in s) t.opened;
      memory = t.gave.memory;
      wrote = t.gave.wrote;
      ends = t.gave.ends;
      known = t.known;
    })
