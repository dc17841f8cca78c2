-- Calls on lent memory, one and a log of them: longer memory is taken, and whatever is lent, what stands behind the state's words and amounts is never touched.
use Rattle.std.specs.Prelude.{ℕ, ◌*◌, List, [], ◌∷◌, ◌++◌, map, ◌≡◌, refl, ℤ, length, drop}
use Rattle.std.proofs.Common.{ap, ◌∙◌}
use Rattle.rules.specs.Partitions.{is_aye}
use Rattle.rules.specs.Ledger.{keys_of}
use Rattle.rules.specs.Events.{Event, delivery, vote, change, read, Answer}
use Rattle.tables.specs.Layout.{book_words, sums_words}
use Rattle.engine.specs.Answers.{After, delivered_said, delivered_finishes, voted_said, changed_said, finishes_told, reading_said}
use Rattle.engine.specs.Longer.{delivering_longer, voting_longer, changing_longer, reading_longer, opening_longer}
use Rattle.engine.specs.Excess.{ExcessKept, delivering_excess, voting_excess, changing_excess, opened_excess}
use Rattle.engine.specs.Calls.{Memory, Called, called, amounts_of, asking, call, calls, after, opened_in}
use Rattle.engine.specs.CallMeans.{Long, call_long}

-- Memory with more behind each of the three.
abbrev pub longer_memory : List ℕ → List ℤ → List ℕ → Memory → Memory
longer_memory x y z m = record { book = m.book ++ x; sums = m.sums ++ y; finishes = m.finishes ++ z }

abbrev pub longer_called : List ℕ → List ℤ → List ℕ → Called → Called
longer_called x y z c = record { answer = c.answer; count = c.count; memory = longer_memory x y z c.memory }

module _ (x : List ℕ) (y : List ℤ) (z : List ℕ) where
  pub call_longer : (e : Event) (m : Memory) → Long m → call e (longer_memory x y z m) ≡ longer_called x y z (call e m)
  unfolding call
  call_longer (delivery t) m long =
      ap (called delivered_said delivered_finishes)
      (delivering_longer t.identity t.partitions t.st t.reads (keys_of t.writes) (amounts_of t.writes) m.book x m.sums y m.finishes z long.book long.sums long.room)
  call_longer (vote i p b) m long = ap (called voted_said finishes_told) (voting_longer i p (is_aye b) m.book x m.sums y m.finishes z long.book long.sums long.room)
  call_longer (change k) m long = ap (called changed_said finishes_told) (changing_longer k m.book x m.sums y m.finishes z long.book long.sums long.room)
  call_longer (read key st) m long =
      let e = reading_longer m.book x m.sums y long.book long.sums key (asking st) in
      λ i. record { answer = reading_said (e i); count = 0; memory = longer_memory x y z m }

  pub opened_in_longer : (partitions own k : ℕ) (m : Memory) → Long m → opened_in partitions own k (longer_memory x y z m) ≡ longer_memory x y z (opened_in partitions own k m)
  unfolding opened_in
  opened_in_longer partitions own k m long =
      let e = opening_longer m.book x m.sums y long.book long.sums partitions own k in
      λ i. record { book = (e i).book; sums = (e i).sums; finishes = m.finishes ++ z }

  -- a log
  pub calls_longer : (es : List Event) (m : Memory) → Long m → calls es (longer_memory x y z m) ≡ map (longer_called x y z) (calls es m)
  unfolding calls
  calls_longer [] m long = refl
  calls_longer (e ∷ es) m long = rw (call_longer e m long, calls_longer es (call e m).memory (call_long e m long))

  pub after_longer : (es : List Event) (m : Memory) → Long m → after es (longer_memory x y z m) ≡ longer_memory x y z (after es m)
  unfolding after
  after_longer [] m long = refl
  after_longer (e ∷ es) m long = rw (call_longer e m long, after_longer es (call e m).memory (call_long e m long))

-- What stands behind the state's words and amounts stays, and each of the three is as long as it was.
pub record StateExcessKept (old new : Memory) : Type 0 where
  pub book : drop book_words new.book ≡ drop book_words old.book
  pub sums : drop sums_words new.sums ≡ drop sums_words old.sums
  pub book_length : length new.book ≡ length old.book
  pub sums_length : length new.sums ≡ length old.sums
  pub finishes_length : length new.finishes ≡ length old.finishes

pub kept_itself : (m : Memory) → StateExcessKept m m
kept_itself m = record { book = refl; sums = refl; book_length = refl; sums_length = refl; finishes_length = refl }

pub kept_on : {old now next : Memory} → StateExcessKept now next → StateExcessKept old now → StateExcessKept old next
kept_on h k =
    record {
      book = h.book ∙ k.book;
      sums = h.sums ∙ k.sums;
      book_length = h.book_length ∙ k.book_length;
      sums_length = h.sums_length ∙ k.sums_length;
      finishes_length = h.finishes_length ∙ k.finishes_length;
    }

pub kept_long : {old new : Memory} → StateExcessKept old new → Long old → Long new
kept_long h long = record { book = rw h.book_length long.book; sums = rw h.sums_length long.sums; room = rw h.finishes_length long.room }

-- .. and in the finish list behind the finishes of a call.
pub record CallExcessKept (m : Memory) (c : Called) : Type 0 where
  pub state : StateExcessKept m c.memory
  pub finishes : drop (2 * c.count) c.memory.finishes ≡ drop (2 * c.count) m.finishes

call_kept : {A : Type 0} (said : A → Answer) {count : A → ℕ} {m : Memory} {r : After A} → ExcessKept count m.book m.sums m.finishes r → CallExcessKept m (called said count r)
call_kept said h =
    record {
      state = record {
        book = h.book;
        sums = h.sums;
        book_length = h.lengths.book;
        sums_length = h.lengths.sums;
        finishes_length = h.lengths.finishes;
      };
      finishes = h.finishes;
    }

pub call_excess : (e : Event) (m : Memory) → CallExcessKept m (call e m)
unfolding call
call_excess (delivery t) m =
    call_kept delivered_said (delivering_excess m.book m.sums m.finishes t.identity t.partitions t.st t.reads (keys_of t.writes) (amounts_of t.writes))
call_excess (vote i p b) m = call_kept voted_said (voting_excess m.book m.sums m.finishes i p (is_aye b))
call_excess (change k) m = call_kept changed_said (changing_excess m.book m.sums m.finishes k)
call_excess (read key st) m = record { state = kept_itself m; finishes = refl }

pub opened_in_excess : (partitions own k : ℕ) (m : Memory) → StateExcessKept m (opened_in partitions own k m)
unfolding opened_in
opened_in_excess partitions own k m =
    let h = opened_excess m.book m.sums partitions own k in
    record { book = h.book; sums = h.sums; book_length = h.lengths.book; sums_length = h.lengths.sums; finishes_length = refl }

pub after_excess : (es : List Event) (m : Memory) → StateExcessKept m (after es m)
unfolding after
after_excess [] m = kept_itself m
after_excess (e ∷ es) m = kept_on (after_excess es (call e m).memory) (call_excess e m).state
