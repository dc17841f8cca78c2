-- A caller that gives a log to `feed` piece by piece: what its calls leave, one after the other. `fed` is what the contract of `feed` says of one call.
use Rattle.std.specs.Prelude.{ℕ, ◌≤◌, Bool, true, false, List, [], ◌∷◌, ◌++◌, ◌≡◌, ℤ, length, take, drop}
use Rattle.std.proofs.Math.Option.{Option}
use Rattle.rules.specs.Ledger.{State}
use Rattle.tables.specs.Layout.{book_words, sums_words}
use Rattle.feed.specs.declared.Standing.{Standing}
use Rattle.feed.specs.Feeding.{lent_memory, fed}
use Rattle.feed.specs.Meaning.{ledger}

-- What a call is given: the bytes that are new, whether the log ends with them, and a buffer for answers.
pub record Piece : Type 0 where
  pub bytes : List ℕ
  pub at_end : Bool
  pub buffer : List ℕ

abbrev pub bytes_of : List Piece → List ℕ
bytes_of [] = []
bytes_of (x ∷ xs) = x.bytes ++ bytes_of xs

-- Whoever says that the log ends gives no more of it.
abbrev pub Ending : List Piece → Type 0
Ending [] = Unit {0}
Ending (x ∷ xs) = (x.at_end ≡ true → bytes_of xs ≡ []) × Ending xs

-- What calls leave: all that they wrote, what is left of the bytes that they were given, how the log then stands, and the two tables.
pub record Run : Type 0 where
  pub text : List ℕ
  pub left : List ℕ
  pub standing : Standing
  pub book : List ℕ
  pub sums : List ℤ

abbrev pub in_front : List ℕ → Run → Run
in_front text r = record { text = text ++ r.text; left = r.left; standing = r.standing; book = r.book; sums = r.sums }

-- Calls one after the other, each on what the one before left and on what is new; what a call writes is as much of its buffer as it says.
unfoldable pub run : List Piece → List ℕ → Standing → List ℕ → List ℤ → Run
run [] left p book sums = record { text = []; left = left; standing = p; book = book; sums = sums }
run (x ∷ xs) left p book sums =
    let a = fed x.at_end p (left ++ x.bytes) book sums x.buffer in
    in_front (take a.wrote a.out) (run xs (drop a.taken (left ++ x.bytes)) a.standing a.book a.sums)

-- How a log begins: no engine is opened.
abbrev pub beginning : Standing
beginning = record { opened = false; skipping = false }

-- A caller: two tables of any content, and the log in any pieces, each with a buffer of any size.
pub record Caller : Type 0 where
  pub book : List ℕ
  pub sums : List ℤ
  pub pieces : List Piece

-- The log that it gives, in one piece.
abbrev pub log : Caller → List ℕ
log c = bytes_of c.pieces

abbrev pub at_the_end : Caller → Run
at_the_end c = run c.pieces [] beginning c.book c.sums

-- The bytes out: all that its calls wrote, in their order.
abbrev pub out : Caller → List ℕ
out c = (at_the_end c).text

-- The ledger that its tables hold at the end: none where no engine is opened.
abbrev pub ledger_of : Caller → Option State
ledger_of c = ledger (at_the_end c).standing.opened (lent_memory (at_the_end c).book (at_the_end c).sums)

-- The tables are long enough, and the calls went on until nothing was left.
pub record Whole (c : Caller) : Type 0 where
  pub book : book_words ≤ length c.book
  pub sums : sums_words ≤ length c.sums
  pub ends : Ending c.pieces
  pub all_taken : (at_the_end c).left ≡ []
