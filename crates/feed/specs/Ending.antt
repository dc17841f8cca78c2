-- The end of a chunk, and a chunk as a whole: what the code leaves is what the definition gives.
use Rattle.std.specs.Prelude.{ℕ, ◌+◌, ◌-◌, ◌≤◌, ◌<◌, Bool, true, false, List, [], ◌++◌, ◌≡◌, refl, ltb, ℤ, length, take, drop}
use Rattle.std.proofs.Common.{sym, ap, ◌∙◌, arith, length-drop, take_all, subst, lt-ltb, le-ltb, le-leb}
use Rattle.std.proofs.lemmas.Bool.{lt-leb}
use Rattle.rules.specs.Bytes.{split, newline}
use Rattle.rules.specs.Records.{line_limit}
use Rattle.rules.specs.AnswerText.{refusal_text}
use Rattle.laws.specs.Cuts.{put_nothing}
use Rattle.numerals.specs.Writing.{Wrote, wrote_both}
use Rattle.engine.specs.Calls.{Memory}
use Rattle.answers.specs.declared.TheConstants.{LONGEST}
use Rattle.feed.specs.declared.Standing.{Standing}
use Rattle.feed.specs.declared.Fed.{Fed}
use Rattle.feed.specs.declared.walking.Place.{Place}
use Rattle.feed.specs.declared.walking.Stop.{Stop}
use Rattle.feed.specs.declared.taking.Line.{Line}
use Rattle.feed.specs.Feeding.{line_record, recorded, Taken, stopped, behind, taken_whole, has_room, is_left, line_taken, tail_taken, lines_taken, After, after, lent_memory, fed}
use Rattle.feed.specs.Taking.{Took}
use Rattle.feed.specs.Walking.{walk_length, Stopped}

-- What a call leaves, as one value.
abbrev pub leaves : Fed → List ℕ → List ℤ → List ℕ → After
leaves r book sums out =
    record { taken = r.taken; wrote = r.wrote; full = r.full; standing = r.standing; book = book; sums = sums; out = out }

-- What is taken of the tail, behind what was taken before it.
pub record EndedAs (t : Taken) (place : Place) (o : List ℕ) (r : Fed) (m' : Memory) (o' : List ℕ) : Type 0 where
  pub taken : r.taken ≡ place.from + t.bytes
  pub wrote : Wrote o place.at t.text o' r.wrote
  pub full : r.full ≡ t.full
  pub standing : r.standing ≡ t.standing
  pub memory : m' ≡ t.memory

abbrev pub Ended : Bool → List ℕ → Place → Memory → List ℕ → Fed → Memory → List ℕ → Type 0
Ended at_end tail place m o r m' o' = EndedAs (tail_taken at_end (length o - place.at) tail place.standing m) place o r m' o'

nothing_wrote : (o : List ℕ) (at : ℕ) → Wrote o at [] o at
nothing_wrote o at = record { text = sym (put_nothing o at); place = omega arith }

as_taken : {t u : Taken} {place : Place} {o : List ℕ} {r : Fed} {m' : Memory} {o' : List ℕ} → t ≡ u → EndedAs u place o r m' o' → EndedAs t place o r m' o'
as_taken {t} {u} {place} {o} {r} {m'} {o'} e k = subst (λ (x : Taken). EndedAs x place o r m' o') (sym e) k

-- The ways in which a tail is taken.
module _ (at_end : Bool) (room : ℕ) (tail : List ℕ) (p : Standing) (m : Memory) where
  tail_skipped : p.skipping ≡ true → tail_taken at_end room tail p m ≡ taken_whole (length tail) [] p m
  unfolding tail_taken
  tail_skipped q = rw q refl

  module _ (q : p.skipping ≡ false) where
    tail_left : is_left at_end tail ≡ true → tail_taken at_end room tail p m ≡ stopped false p m
    unfolding tail_taken
    tail_left l = rw (q, l) refl

    tail_full : is_left at_end tail ≡ false → has_room room ≡ false → tail_taken at_end room tail p m ≡ stopped true p m
    unfolding tail_taken
    tail_full l f = rw (q, l, f) refl

    tail_overlong : is_left at_end tail ≡ false → has_room room ≡ true → ltb line_limit (length tail) ≡ true
        → tail_taken at_end room tail p m ≡ taken_whole (length tail) (refusal_text 14) (record { opened = p.opened; skipping = true }) m
    unfolding tail_taken
    tail_overlong l f long = rw (q, l, f, long) refl

    tail_last : is_left at_end tail ≡ false → has_room room ≡ true → ltb line_limit (length tail) ≡ false
        → tail_taken at_end room tail p m ≡ line_taken (length tail) tail p m
    unfolding tail_taken
    tail_last l f long = rw (q, l, f, long) refl

-- What the code leaves in each of them.
module _ (at_end : Bool) (tail : List ℕ) (end : ℕ) (place : Place) (m : Memory) {o : List ℕ} (ends : end ≡ place.from + length tail) where
  pub ended_skipped : place.standing.skipping ≡ true
      → Ended at_end tail place m o (record { taken = end; wrote = place.at; full = false; standing = place.standing }) m o
  ended_skipped q =
      as_taken (tail_skipped at_end (length o - place.at) tail place.standing m q)
      (record { taken = ends; wrote = nothing_wrote o place.at; full = refl; standing = refl; memory = refl })

  module _ (q : place.standing.skipping ≡ false) where
    pub ended_left : is_left at_end tail ≡ true
        → Ended at_end tail place m o (record { taken = place.from; wrote = place.at; full = false; standing = place.standing }) m o
    ended_left l =
        as_taken (tail_left at_end (length o - place.at) tail place.standing m q l)
        (record { taken = omega arith; wrote = nothing_wrote o place.at; full = refl; standing = refl; memory = refl })

    module _ (l : is_left at_end tail ≡ false) where
      pub ended_full : length o - place.at < LONGEST
          → Ended at_end tail place m o (record { taken = place.from; wrote = place.at; full = true; standing = place.standing }) m o
      ended_full f =
          as_taken (tail_full at_end (length o - place.at) tail place.standing m q l (lt-leb LONGEST (length o - place.at) f))
          (record { taken = omega arith; wrote = nothing_wrote o place.at; full = refl; standing = refl; memory = refl })

      pub ended_overlong : {o' : List ℕ} {at : ℕ} → LONGEST ≤ length o - place.at → line_limit < length tail → Wrote o place.at (refusal_text 14) o' at
          → Ended at_end tail place m o (record { taken = end; wrote = at; full = false; standing = record { opened = place.standing.opened; skipping = true } }) m o'
      ended_overlong f long w =
          as_taken
          (tail_overlong at_end (length o - place.at) tail place.standing m q l (le-leb LONGEST (length o - place.at) f) (lt-ltb line_limit (length tail) long))
          (record { taken = ends; wrote = w; full = refl; standing = refl; memory = refl })

      pub ended_last : {m' : Memory} {o' : List ℕ} (taken : Line) → LONGEST ≤ length o - place.at → length tail ≤ line_limit
          → Took (recorded (line_record tail) place.standing.opened m) m' o place.at o' taken
          → Ended at_end tail place m o
          (record { taken = end; wrote = taken.at; full = false; standing = record { opened = taken.opened; skipping = false } }) m' o'
      ended_last taken f short t =
          as_taken
          (tail_last at_end (length o - place.at) tail place.standing m q l (le-leb LONGEST (length o - place.at) f) (le-ltb line_limit (length tail) short))
          (record {
            taken = ends;
            wrote = t.gave.wrote;
            full = refl;
            standing = ap (λ (b : Bool). let s : Standing = record { opened = b; skipping = false } in s) t.opened;
            memory = t.gave.memory;
          })

-- `&input[from..]` is what is left of it.
pub rest_all : (w : List ℕ) (from : ℕ) → take (length w - from) (drop from w) ≡ drop from w
rest_all w from = let long = length-drop from w in take_all (length w - from) (drop from w) (omega arith)

-- A chunk, whole.
module _ (at_end : Bool) (input book : List ℕ) (sums : List ℤ) (p : Standing) (o : List ℕ) (stop : Stop) (m' : Memory) {o' : List ℕ}
    (s : Stopped input p (lent_memory book sums) o stop m' o') where
  -- What was taken before, and then what is taken of the rest.
  all_taken : (t : Taken) → lines_taken at_end (length o - stop.place.at) (split newline (drop stop.place.from input)) stop.place.standing m' ≡ t
      → fed at_end p input book sums o ≡ after o (behind stop.place.from s.walk.text t)
  all_taken t e = ap (after o) (s.walk.so_far at_end ∙ ap (λ (x : Taken). behind stop.place.from s.walk.text x) e)

  fits : 0 + length s.walk.text ≤ length o
  fits = let place = s.walk.wrote.place in let room = s.walk.room in omega arith

  pub whole_of : {t : Taken} {r : Fed} {m'' : Memory} {o'' : List ℕ}
      → lines_taken at_end (length o - stop.place.at) (split newline (drop stop.place.from input)) stop.place.standing m' ≡ t
      → EndedAs t stop.place o' r m'' o'' → leaves r m''.book m''.sums o'' ≡ fed at_end p input book sums o
  whole_of {t} {r} {m''} {o''} e k =
      let both = wrote_both fits s.walk.wrote k.wrote in
      let place = both.place in
      let wrote : r.wrote ≡ length (s.walk.text ++ t.text) = omega arith in
      (λ i. record {
        taken = k.taken i;
        wrote = wrote i;
        full = k.full i;
        standing = k.standing i;
        book = (k.memory i).book;
        sums = (k.memory i).sums;
        out = both.text i;
      })
      ∙ sym (all_taken t e)

  -- It stopped for want of room.
  pub whole_short : stop.full ≡ true
      → leaves (record { taken = stop.place.from; wrote = stop.place.at; full = true; standing = stop.place.standing }) m'.book m'.sums o'
      ≡ fed at_end p input book sums o
  whole_short q =
      whole_of (s.short q at_end) (record { taken = omega arith; wrote = nothing_wrote o' stop.place.at; full = refl; standing = refl; memory = refl })

  -- Or it went on to what stands behind the last newline.
  tail_alone : stop.full ≡ false → lines_taken at_end (length o - stop.place.at) (split newline (drop stop.place.from input)) stop.place.standing m'
      ≡ tail_taken at_end (length o - stop.place.at) (drop stop.place.from input) stop.place.standing m'
  unfolding lines_taken
  tail_alone q = rw (s.tail q) refl

  pub whole_tail : {r : Fed} {m'' : Memory} {o'' : List ℕ} → stop.full ≡ false → Ended at_end (drop stop.place.from input) stop.place m' o' r m'' o''
      → leaves r m''.book m''.sums o'' ≡ fed at_end p input book sums o
  whole_tail q k = whole_of (tail_alone q) (rw (walk_length s.walk) at k)
