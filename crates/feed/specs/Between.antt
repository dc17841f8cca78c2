-- Between two calls: what a caller has of the memory that a call left, of its buffer, and of a log of which nothing is left.
use Rattle.std.specs.Prelude.{ℕ, ◌+◌, Bool, true, false, List, [], ◌≡◌, refl, length, take, drop}
use Rattle.std.proofs.Math.Option.{Option}
use Rattle.std.proofs.Common.{ap, take_at}
use Rattle.rules.specs.Ledger.{State}
use Rattle.rules.specs.Bytes.{split}
use Rattle.rules.specs.Program.{take_lines, whole_lines}
use Rattle.laws.specs.Cuts.{put}
use Rattle.engine.specs.Calls.{Memory}
use Rattle.feed.specs.declared.Standing.{Standing}
use Rattle.feed.specs.Feeding.{lent_memory}
use Rattle.feed.specs.Meaning.{ledger}
use Rattle.feed.specs.Cutting.{rest, rest_of}

-- A call holds a finish list by itself, so of the memory that it leaves only the tables stay.
abbrev pub tables_of : Memory → Memory
tables_of m = lent_memory m.book m.sums

pub same_ledger : (is_open : Bool) (m : Memory) → ledger is_open m ≡ ledger is_open (tables_of m)
same_ledger true m = refl
same_ledger false m = refl

pub same_rest : (p : Standing) (m : Memory) (bytes : List ℕ) → rest_of p m bytes ≡ rest_of p (tables_of m) bytes
same_rest p m bytes = ap (rest p.skipping bytes) (same_ledger p.opened m)

-- What a call wrote stands in the front of its buffer.
pub written : (buffer text : List ℕ) → take (length text) (put buffer 0 text) ≡ text
unfolding put
written buffer text = take_at text (drop (0 + length text) buffer) (length text) refl

-- Nothing is left: nothing more is told.
pub nothing_left : (skipping : Bool) (l : Option State) → rest skipping [] l ≡ record { text = []; ledger = l }
unfolding rest split whole_lines take_lines
nothing_left true l = refl
nothing_left false l = refl
