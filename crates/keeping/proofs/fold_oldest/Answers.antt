-- The row is the one that the layout gives the version, so the list holds its keys, and each turn of the loop is one of the steps of `Folding`.
use Rattle.std.proofs.Common.{rules, ap, get_or, List, ℕ, ◌-◌, ◌∙◌}
use mir.Syntax.{w64}
use mir.Facts.{to_z-of_z}
use Rattle.tables.specs.Rows.{row_keys}
use Rattle.keeping.specs.Folding.{fold_start, fold_step, fold_end}
use Rattle.keeping.proofs.fold_oldest.Goals as goal

pub loop-j-init : goal.loop-j-init
loop-j-init c = let keys = c.keys.ensures ∙ ap row_keys c.row.ensures in rw keys (fold_start (rw c.row.ensures at c.row.result.good) c.requires.long)

pub loop-j-preserved : goal.loop-j-preserved
loop-j-preserved c =
    let keys = c.keys.ensures ∙ ap row_keys c.row.ensures in
    fold_step (rw c.row.ensures at c.row.result.good) c.requires.long _ _ _ c.loop-j.invariant c.loop-j-test.true
    (ap (λ (xs : List ℕ). get_or xs (c.loop-j.j - 1) 0) keys) c.slot.ensures (to_z-of_z {w = w64} (search rules))

pub returns : goal.returns
returns c = fold_end c.loop-j.invariant c.loop-j-test.false
