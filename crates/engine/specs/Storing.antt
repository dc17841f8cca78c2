-- Taking a vote and a change that nothing refuses: the clock and the desk as they are read off the tables, and what settling them leaves.
use Rattle.std.specs.Prelude.{ℕ, ◌+◌, ◌*◌, ◌≤◌, ◌<◌, Bool, List, ◌≡◌, refl, ℤ, length, get_or}
use Rattle.rules.specs.Ledger.{Clock}
use Rattle.rules.specs.Events.{with_k}
use Rattle.tables.specs.Layout.{book_words}
use Rattle.tables.specs.View.{clock_view}
use Rattle.tables.specs.Voted.{voted_book}
use Rattle.tables.specs.Closed.{Desk}
use Rattle.tables.specs.Settled.{Ready, closed_desk, settled_book}
use Rattle.std.specs.Prelude.{Ok}
use Rattle.engine.specs.Voting.{desk_before, voted_desk, settled_result}
use Rattle.engine.specs.Operations.{left}

-- What storing a vote in row i asks.
pub record Votable (i p : ℕ) (agrees : Bool) (book : List ℕ) (sums : List ℤ) (fin : List ℕ) : Type 0 where
  pub long : book_words ≤ length book
  pub row : i < 32
  pub partition : p < 8
  pub ayes_byte : get_or book (6 + 24 * i + 4) 0 < 256
  pub nays_byte : get_or book (6 + 24 * i + 5) 0 < 256
  pub ready : Ready (clock_view book) (voted_desk i p agrees book sums fin)

-- A desk at rest: the counters of a book, and tables after it.
abbrev pub own_desk : List ℕ → List ℕ → List ℤ → List ℕ → Desk
own_desk book after sums fin = record { sc = get_or book 2 0; waiting = get_or book 5 0; finished = 0; book = after; sums = sums; finishes = fin }

-- The counters read off the book that a ledger holds.
module _ {words book : List ℕ} (same : words ≡ book) where
  pub clock_read : {c : Clock} → c ≡ clock_view words → c ≡ clock_view book
  clock_read e = rw same at e

  pub desk_read : {sc waiting finished : ℕ} {after : List ℕ} {sums : List ℤ} {fin : List ℕ} → sc ≡ get_or words 2 0 → waiting ≡ get_or words 5 0 → finished ≡ 0
      → ◌≡◌ {A = Desk} (record { sc = sc; waiting = waiting; finished = finished; book = after; sums = sums; finishes = fin }) (own_desk book after sums fin)
  desk_read a b z = rw (a, b, z, same)

-- What settling leaves, with the clock and the desk read off the tables.
module _ {c at : Clock} {d rests : Desk} (clock : c ≡ at) (desk : d ≡ rests) where
  pub still_ready : Ready at rests → Ready c d
  still_ready h = rw (clock, desk) h

  pub settled_so : {b : List ℕ} {s : List ℤ} {f : List ℕ} {m : ℕ} → m ≡ (closed_desk c d).finished → b ≡ settled_book c d
      → s ≡ (closed_desk c d).sums → f ≡ (closed_desk c d).finishes → left (Ok m) b s f ≡ settled_result at rests
  unfolding settled_result
  settled_so told eb es ef = rw (told, eb, es, ef, clock, desk)

module _ (i p : ℕ) (agrees : Bool) (book : List ℕ) (sums : List ℤ) (fin : List ℕ) {after : List ℕ} (stored : after ≡ voted_book book i p agrees) where
  pub vote_desk : own_desk book after sums fin ≡ voted_desk i p agrees book sums fin
  unfolding voted_desk
  vote_desk = rw stored

pub change_desk : (book : List ℕ) (sums : List ℤ) (fin : List ℕ) → own_desk book book sums fin ≡ desk_before book sums fin
unfolding desk_before
change_desk book sums fin = refl

pub changed_clock : {c : Clock} (k : ℕ) {at : Clock} → c ≡ at → record { partitions = c.partitions; own = c.own; dc = c.dc; k = k } ≡ with_k k at
unfolding with_k
changed_clock k e = rw e
