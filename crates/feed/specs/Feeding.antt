-- What a chunk of text gives, on lent memory: one definition on bytes, which settles what is written, how far the chunk is taken, and what the memory then holds.
use Rattle.std.specs.Prelude.{ℕ, ◌+◌, ◌-◌, Bool, true, false, not, cond, ◌&&◌, ◌||◌, List, [], ◌∷◌, ◌++◌, leb, ltb, eqb, length, Ok, Err, ℤ, replicate}
use Rattle.std.proofs.Common.{Result}
use Rattle.rules.specs.Events.{Event}
use Rattle.rules.specs.Bytes.{split, newline}
use Rattle.rules.specs.Records.{line_limit, Record, opens, event, unreadable, record_of}
use Rattle.rules.specs.AnswerText.{refusal_text, opened_text, answer_text}
use Rattle.refusing.specs.declared.refusals.Refusal.{Refusal}
use Rattle.refusing.specs.Told.{numbered}
use Rattle.engine.specs.Operations.{opened}
use Rattle.engine.specs.Calls.{Memory, Called, call, opened_in}
use Rattle.laws.specs.Cuts.{put}
use Rattle.records.specs.Short.{short_record}
use Rattle.feed.specs.declared.Standing.{Standing}
use Rattle.answers.specs.declared.TheConstants.{LONGEST}
use Rattle.answers.specs.Finishes.{words_text}

-- The record that a line is, with the first nine items of a delivery's lists: the rules answer it as the whole one.
abbrev pub line_record : List ℕ → Record
line_record line = short_record (record_of line)

-- What a record gives: its text, whether an engine is opened after it, and the memory after it.
pub record Recorded : Type 0 where
  pub text : List ℕ
  pub opened : Bool
  pub memory : Memory

-- "program: event before opening, or a second opening"
abbrev pub out_of_turn : Bool → Memory → Recorded
out_of_turn opened m = record { text = refusal_text 13; opened = opened; memory = m }

-- The answer of a call, and its finishes.
abbrev pub called_text : Event → Called → List ℕ
called_text e c = answer_text e c.answer ++ words_text c.count c.memory.finishes

abbrev pub opening_given : ℕ → ℕ → ℕ → Result (Unit {0}) Refusal → Memory → Recorded
opening_given partitions own k (Ok done) m = record { text = opened_text partitions own k; opened = true; memory = m }
opening_given partitions own k (Err r) m = record { text = refusal_text (numbered r); opened = false; memory = m }

-- "The program looks at 14 first."
unfoldable pub recorded : Record → Bool → Memory → Recorded
recorded unreadable is_open m = record { text = refusal_text 14; opened = is_open; memory = m }
recorded (opens partitions own k) true m = out_of_turn true m
recorded (opens partitions own k) false m = opening_given partitions own k (opened partitions own k m.book m.sums).answer (opened_in partitions own k m)
recorded (event e) true m = record { text = called_text e (call e m); opened = true; memory = (call e m).memory }
recorded (event e) false m = out_of_turn false m

-- A line with its newline: the end of one that is skipped, or one to answer.
unfoldable pub whole_given : Bool → List ℕ → Bool → Memory → Recorded
whole_given true line is_open m = record { text = []; opened = is_open; memory = m }
whole_given false line is_open m = recorded (line_record line) is_open m

-- What a chunk gives: the text written, how many bytes are taken, whether it stopped for want of room, how the log then stands, and the memory.
pub record Taken : Type 0 where
  pub text : List ℕ
  pub bytes : ℕ
  pub full : Bool
  pub standing : Standing
  pub memory : Memory

abbrev pub stopped : Bool → Standing → Memory → Taken
stopped full p m = record { text = []; bytes = 0; full = full; standing = p; memory = m }

-- So many bytes and such a text before the rest.
abbrev pub behind : ℕ → List ℕ → Taken → Taken
behind bytes text r = record { text = text ++ r.text; bytes = bytes + r.bytes; full = r.full; standing = r.standing; memory = r.memory }

-- So many bytes were taken, and nothing comes behind them.
abbrev pub taken_whole : ℕ → List ℕ → Standing → Memory → Taken
taken_whole bytes text p m = record { text = text; bytes = bytes; full = false; standing = p; memory = m }

-- There is room for the longest answer of one event.
abbrev pub has_room : ℕ → Bool
has_room room = leb LONGEST room

-- A line, whole.
abbrev pub line_taken : ℕ → List ℕ → Standing → Memory → Taken
line_taken bytes line p m =
    let r = recorded (line_record line) p.opened m in
    taken_whole bytes r.text (record { opened = r.opened; skipping = false }) r.memory

-- What stands behind the last newline is left for the next chunk where it isn't too long, and the log goes on, or there is nothing of it.
abbrev pub is_left : Bool → List ℕ → Bool
is_left at_end tail = not (ltb line_limit (length tail)) && (not at_end || eqb (length tail) 0)

-- What stands behind the last newline: skipped, if the line it belongs to is too long already; or left; or too long itself ("A line over 512 bytes without its newline (skipped
-- whole)"), and skipped from here on; or, at the end of the log, the last line, which "may lack its newline".
unfoldable pub tail_taken : Bool → ℕ → List ℕ → Standing → Memory → Taken
tail_taken at_end room tail p m =
    cond p.skipping (taken_whole (length tail) [] p m)
    (cond (is_left at_end tail) (stopped false p m)
    (cond (has_room room)
    (cond (ltb line_limit (length tail)) (taken_whole (length tail) (refusal_text 14) (record { opened = p.opened; skipping = true }) m) (line_taken (length tail) tail p m))
    (stopped true p m)))

-- The lines of a chunk one after the other, while there is room for the longest answer of one event.
unfoldable pub lines_taken : Bool → ℕ → List (List ℕ) → Standing → Memory → Taken
lines_taken at_end room [] p m = stopped false p m
lines_taken at_end room (tail ∷ []) p m = tail_taken at_end room tail p m
lines_taken at_end room (line ∷ next ∷ lines) p m =
    cond (p.skipping || has_room room)
    (let r = whole_given p.skipping line p.opened m in
    behind (length line + 1) r.text (lines_taken at_end (room - length r.text) (next ∷ lines) (record { opened = r.opened; skipping = false }) r.memory))
    (stopped true p m)

abbrev pub feeding : Bool → ℕ → List ℕ → Standing → Memory → Taken
feeding at_end room input p m = lines_taken at_end room (split newline input) p m

-- All that a call leaves: the two tables, the buffer of answers, and what it answers.
pub record After : Type 0 where
  pub taken : ℕ
  pub wrote : ℕ
  pub full : Bool
  pub standing : Standing
  pub book : List ℕ
  pub sums : List ℤ
  pub out : List ℕ

-- The tables as they are lent, and a finish list of 32 entries that a call holds by itself.
abbrev pub lent_memory : List ℕ → List ℤ → Memory
lent_memory book sums = record { book = book; sums = sums; finishes = replicate 64 0 }

abbrev pub after : List ℕ → Taken → After
after out r =
    record {
      taken = r.bytes;
      wrote = length r.text;
      full = r.full;
      standing = r.standing;
      book = r.memory.book;
      sums = r.memory.sums;
      out = put out 0 r.text;
    }

abbrev pub fed : Bool → Standing → List ℕ → List ℕ → List ℤ → List ℕ → After
fed at_end p input book sums out = after out (feeding at_end (length out) input p (lent_memory book sums))
