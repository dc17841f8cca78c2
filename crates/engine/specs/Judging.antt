-- Judging a newcomer on rows, one way out after the other.
use Rattle.std.specs.Prelude.{ℕ, ◌+◌, ◌-◌, ◌≤◌, ◌<◌, Bool, true, false, not, List, ◌≡◌, refl, eqb}
use Rattle.std.specs.List.{list_any}
use Rattle.std.proofs.Math.Option.{Option, none, some}
use Rattle.rules.specs.Partitions.{only}
use Rattle.rules.specs.Place.{place}
use Rattle.rules.specs.Delivery as rules
use Rattle.laws.specs.Tabs.{tab}
use Rattle.tables.specs.View.{waiting_words, kept_words}
use Rattle.tables.specs.Tested.{row_clash, row_blocks, row_passes}
use Rattle.tables.specs.Good.{WaitingGood, KeptGood}
use Rattle.tables.specs.Judged.{row_fate}
use Rattle.std.specs.Prelude.{Ok, Err}
use Rattle.std.proofs.Common.{Result}
use Rattle.std.specs.Option.{ok_or}
use Rattle.laws.specs.Options.{given}
use Rattle.engine.specs.declared.answers.Reason.{Reason}
use Rattle.engine.specs.declared.answers.Reason.TheVariants.{Commit, Waiting, NoPlace}
use Rattle.engine.specs.Fates.{fate_of}

-- What judging asks of a book: our own partition is one of the eight, good rows, and a snapshot among the versions kept.
pub record Judgeable (own sc n st : ℕ) (book : List ℕ) : Type 0 where
  pub own_fits : own < 8
  pub few : n ≤ 32
  pub kept : KeptGood sc book
  pub waiting : WaitingGood n book
  pub taken : st ≤ sc
  pub near : sc ≤ st + 64

module _ (own dc sc n set st : ℕ) (reads keys book : List ℕ) (local : Bool) (is_local : local ≡ eqb set (only own)) where
  abbrev commits : Bool → Bool
  commits l = list_any (row_clash (not l) reads keys) (tab (sc - st) (λ j. kept_words book (sc - j)))

  abbrev entries : Bool → Bool
  entries l = list_any (row_clash (not l) reads keys) (tab n (waiting_words book))

  -- clashes with a commit
  pub judged_by_commit : commits local ≡ true → Err Commit ≡ fate_of (row_fate own dc sc n set st reads keys book)
  unfolding row_fate
  judged_by_commit h = rw (← is_local, h)

  -- a local one at its place
  pub judged_local : (r : Result ℕ Reason) → commits local ≡ false → local ≡ true
      → r ≡ fate_of (rules.placed (place (row_blocks reads) (row_passes own dc keys) (tab n (waiting_words book))))
      → r ≡ fate_of (row_fate own dc sc n set st reads keys book)
  unfolding row_fate
  judged_local r h l e = rw (← is_local, h, l) e

  -- a global one that clashes with an entry; that joins at the end
  pub judged_by_entry : commits local ≡ false → local ≡ false → entries false ≡ true → Err Waiting ≡ fate_of (row_fate own dc sc n set st reads keys book)
  unfolding row_fate
  judged_by_entry h l e = rw (← is_local, h, l, e)

  pub judged_at_end : commits local ≡ false → local ≡ false → entries false ≡ false → Ok n ≡ fate_of (row_fate own dc sc n set st reads keys book)
  unfolding row_fate
  judged_at_end h l e = rw (← is_local, h, l, e)

-- The place found, or reason 3.
pub placed_or : (o : Option ℕ) → ok_or (given o) NoPlace ≡ fate_of (rules.placed o)
unfolding rules.placed
placed_or none = refl
placed_or (some j) = refl
