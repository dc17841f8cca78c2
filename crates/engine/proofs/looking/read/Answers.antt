-- A read is refused by its number, or gives the value at the version asked for.
use mir.Syntax.{w64}
use mir.Facts.{to_z-of_z}
use Rattle.std.specs.Prelude.{refl}
use Rattle.std.proofs.Common.{rules, ◌∙◌}
use Rattle.engine.specs.Reads.{read_refuses, version_readable, read_takes}
use Rattle.engine.proofs.looking.read.Goals as goal

pub returns-in-Err : goal.returns-in-Err
returns-in-Err c = read_refuses _ _ _ _ _ c.in-Err.ensures.number _ refl

pub invariant_of-book-in-Ok : goal.invariant_of-book-in-Ok
invariant_of-book-in-Ok c = record { long = (version_readable _ _ _ _ _ c.in-Ok.ensures.number _ refl c.in-Ok.ensures.version).long }

pub invariant_of-book : goal.invariant_of-book
invariant_of-book c = record { long = (version_readable _ _ _ _ _ c.in-Ok.ensures.number _ refl c.in-Ok.ensures.version).long }

pub invariant_of-kept : goal.invariant_of-kept
invariant_of-kept c = record { good = rw c.sc.ensures (version_readable _ _ _ _ _ c.in-Ok.ensures.number _ refl c.in-Ok.ensures.version).kept }

pub invariant_of-sums : goal.invariant_of-sums
invariant_of-sums c = record { long = (version_readable _ _ _ _ _ c.in-Ok.ensures.number _ refl c.in-Ok.ensures.version).long_sums }

pub read_at-requires-clause-key_bound : goal.read_at-requires-clause-key_bound
read_at-requires-clause-key_bound c = (version_readable _ _ _ _ _ c.in-Ok.ensures.number _ refl c.in-Ok.ensures.version).low

pub read_at-requires-clause-st_le_sc : goal.read_at-requires-clause-st_le_sc
read_at-requires-clause-st_le_sc c = rw c.sc.ensures (version_readable _ _ _ _ _ c.in-Ok.ensures.number _ refl c.in-Ok.ensures.version).taken

pub read_at-requires-clause-sc_bound : goal.read_at-requires-clause-sc_bound
read_at-requires-clause-sc_bound c = rw c.sc.ensures (version_readable _ _ _ _ _ c.in-Ok.ensures.number _ refl c.in-Ok.ensures.version).near

pub returns-in-Ok : goal.returns-in-Ok
returns-in-Ok c =
    read_takes _ _ _ _ _ c.in-Ok.ensures.number _ _ refl c.in-Ok.ensures.version (to_z-of_z {w = w64} (search rules) ∙ (rw c.sc.ensures at c.read_at.ensures))
