-- The sets of a good entry are bytes: its partitions, and who said yes and no.
use Rattle.std.specs.Prelude.{ℕ, ◌≤◌, ◌<◌, ◌^◌, true, false, not, List, ◌≡◌, ℤ, get_or}
use Rattle.std.proofs.Math.Nat.{pow-le-pow_right}
use Rattle.std.proofs.Common.{arith, leb-false}
use Rattle.std.proofs.lemmas.Bool.{not-true}
use Rattle.rules.specs.Partitions.{names, beyond, bad_set, from_others}
use Rattle.laws.specs.Tests.{or_right, and_left}
use Rattle.claims.specs.SoundParts.{GoodEntry}
use Rattle.tables.specs.Rows.{row_transaction, row_entry}

pub record ByteSets (set ayes nays : ℕ) : Type 0 where
  pub set_byte : set < 256
  pub ayes_byte : ayes < 256
  pub nays_byte : nays < 256

set_fits : (partitions own set : ℕ) → partitions ≤ 8 → bad_set partitions own set ≡ false → set < 256
unfolding bad_set
set_fits partitions own set few h =
    let below : set < 2 ^ partitions = leb-false (2 ^ partitions) set (or_right (not (names set own)) (beyond partitions set) h) in
    let most : 2 ^ partitions ≤ 2 ^ 8 = pow-le-pow_right (omega arith) few in
    omega arith

voters_fit : (own set voters : ℕ) → from_others own set voters ≡ true → voters < 256
unfolding from_others
voters_fit own set voters h = leb-false 256 voters (not-true (beyond 8 voters) (and_left (not (beyond 8 voters)) _ h))

pub entry_bytes : (partitions own dc : ℕ) (w : List ℕ) (a : List ℤ) → partitions ≤ 8 → GoodEntry partitions own dc (row_entry w a)
    → ByteSets (get_or w 1 0) (get_or w 4 0) (get_or w 5 0)
unfolding row_entry row_transaction
entry_bytes partitions own dc w a few g =
    record {
      set_byte = set_fits partitions own (get_or w 1 0) few g.set_good;
      ayes_byte = voters_fit own (get_or w 1 0) (get_or w 4 0) g.ayes_involved;
      nays_byte = voters_fit own (get_or w 1 0) (get_or w 5 0) g.nays_involved;
    }
