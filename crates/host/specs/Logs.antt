-- A log as calls of the feed, in any pieces: what all of them write together, and the state that C's tables then hold, are what the rules' program gives of the log.
use Rattle.std.specs.Prelude.{ℕ, true, List, [], ◌∷◌, ◌++◌, ◌≤◌, ◌≡◌, refl, ℤ, length, take, drop}
use Rattle.std.proofs.Common.{sym, ap, ◌∙◌, append_assoc, append-nil}
use Rattle.rules.specs.Program.{Told, run_text}
use Rattle.tables.specs.Layout.{book_words, sums_words}
use Rattle.feed.specs.Feeding.{lent_memory, fed}
use Rattle.feed.specs.Meaning.{ledger}
use Rattle.feed.specs.Cutting.{rest}
use Rattle.feed.specs.Between.{nothing_left}
use Rattle.host.specs.Faces.{flagged, standing_of}
use Rattle.host.specs.Left.{AfterPiece, fed_faced}
use Rattle.host.specs.Pieces.{still_gives, Usable, goes_on}

-- What C holds between two calls: the bytes that weren't taken, the two flags, and the tables.
pub record Held : Type 0 where
  pub bytes : List ℕ
  pub opened : ℕ
  pub skipping : ℕ
  pub book : List ℕ
  pub sums : List ℤ

-- What a call is given beside it: the bytes that are new, the flag that says that no more come, and a buffer.
pub record Piece : Type 0 where
  pub bytes : List ℕ
  pub at_end : ℕ
  pub out : List ℕ

abbrev pub called : Piece → Held → AfterPiece
called x h = fed_faced (fed (flagged x.at_end) (standing_of h.opened h.skipping) (h.bytes ++ x.bytes) h.book h.sums x.out)

abbrev pub next : Piece → Held → Held
next x h =
    let r = called x h in
    record { bytes = drop r.answer.taken (h.bytes ++ x.bytes); opened = r.answer.opened; skipping = r.answer.skipping; book = r.book; sums = r.sums }

-- All that the calls write; what C holds after the last; the log that they were given.
unfoldable pub answers : List Piece → Held → List ℕ
answers [] h = []
answers (x ∷ xs) h = take (called x h).answer.wrote (called x h).out ++ answers xs (next x h)

unfoldable pub last : List Piece → Held → Held
last [] h = h
last (x ∷ xs) h = last xs (next x h)

abbrev pub log_of : List Piece → List ℕ
log_of [] = []
log_of (x ∷ xs) = x.bytes ++ log_of xs

-- Whoever says that no more bytes come gives no more.
abbrev pub Ending : List Piece → Type 0
Ending [] = Unit {0}
Ending (x ∷ xs) = (flagged x.at_end ≡ true → log_of xs ≡ []) × Ending xs

-- What the rules' program gives for bytes that come now; of what is held, for those that are held.
abbrev gives : Held → List ℕ → Told
gives h bytes = still_gives h.opened h.skipping h.book h.sums bytes

record Follows (h : Held) (bytes written : List ℕ) (end : Held) : Type 0 where
  text : (gives h bytes).text ≡ written ++ (gives end end.bytes).text
  ledger : (gives h bytes).ledger ≡ (gives end end.bytes).ledger

follows : (xs : List Piece) (h : Held) → Usable h.opened h.book h.sums → Ending xs → Follows h (h.bytes ++ log_of xs) (answers xs h) (last xs h)
unfolding answers last
follows [] h usable ends = rw (append-nil h.bytes) (record { text = refl; ledger = refl })
follows (x ∷ xs) h usable ends =
    let one = goes_on h.opened h.skipping h.book h.sums usable x.at_end (h.bytes ++ x.bytes) x.out (log_of xs) ends.0 in
    let more = follows xs (next x h) one.usable ends.1 in
    let whole : h.bytes ++ (x.bytes ++ log_of xs) ≡ (h.bytes ++ x.bytes) ++ log_of xs = sym (append_assoc h.bytes x.bytes (log_of xs)) in
    let front = take (called x h).answer.wrote (called x h).out in
    record {
      text = rw whole (one.text ∙ ap (λ (l : List ℕ). front ++ l) more.text ∙ sym (append_assoc front (answers xs (next x h)) _));
      ledger = rw whole (one.ledger ∙ more.ledger);
    }

none_left : (h : Held) → gives h [] ≡ record { text = []; ledger = ledger (flagged h.opened) (lent_memory h.book h.sums) }
unfolding still_gives
none_left h = nothing_left (flagged h.skipping) (ledger (flagged h.opened) (lent_memory h.book h.sums))

-- With no engine opened, on tables of any content that are long enough.
module _ (book : List ℕ) (sums : List ℤ) (long : book_words ≤ length book) (long_sums : sums_words ≤ length sums) (pieces : List Piece) (ends : Ending pieces) where
  abbrev pub beginning : Held
  beginning = record { bytes = []; opened = 0; skipping = 0; book = book; sums = sums }

  abbrev pub end : Held
  end = last pieces beginning

  all : Follows beginning ([] ++ log_of pieces) (answers pieces beginning) end
  all = follows pieces beginning (record { long = long; long_sums = long_sums; sound = λ o. let e = o in cc }) ends

  starts : gives beginning (log_of pieces) ≡ run_text (log_of pieces)
  unfolding still_gives rest run_text
  starts = refl

  pub log_answered : end.bytes ≡ [] → answers pieces beginning ≡ (run_text (log_of pieces)).text
  log_answered e =
      let gone : (gives end end.bytes).text ≡ [] = ap (λ (l : List ℕ). (gives end l).text) e ∙ ap (λ (t : Told). t.text) (none_left end) in
      sym (ap (λ (t : Told). t.text) (sym starts) ∙ all.text ∙ ap (λ (l : List ℕ). answers pieces beginning ++ l) gone ∙ append-nil (answers pieces beginning))

  pub log_held : end.bytes ≡ [] → ledger (flagged end.opened) (lent_memory end.book end.sums) ≡ (run_text (log_of pieces)).ledger
  log_held e =
      let gone = ap (λ (l : List ℕ). (gives end l).ledger) e ∙ ap (λ (t : Told). t.ledger) (none_left end) in
      sym (ap (λ (t : Told). t.ledger) (sym starts) ∙ all.ledger ∙ gone)
