-- The ways out in their order: a commit clashes; a local one at its place; an entry clashes; a global one at the end.
use Rattle.std.proofs.Common.{sym, ◌∙◌}
use Rattle.engine.specs.Judging.{judged_by_commit, judged_local, judged_by_entry, judged_at_end}
use Rattle.engine.proofs.judging.judge.Goals as goal

pub returns-then-clashes_with_commits : goal.returns-then-clashes_with_commits
returns-then-clashes_with_commits c =
    rw (← c.own.ensures, ← c.sc.ensures, ← c.waiting.ensures)
    (judged_by_commit _ _ _ _ _ _ _ _ _ _ c.is_local-local.ensures (sym c.clashes_with_commits.ensures ∙ c.if-clashes_with_commits.true))

pub returns-then-local : goal.returns-then-local
returns-then-local c =
    rw (← c.own.ensures, ← c.sc.ensures, ← c.waiting.ensures)
    (judged_local _ _ _ _ _ _ _ _ _ _ c.is_local-local.ensures _ (sym c.clashes_with_commits.ensures ∙ c.if-clashes_with_commits.false) c.if-local.true c.place_local.ensures)

pub returns-then-clashes_with_waiting : goal.returns-then-clashes_with_waiting
returns-then-clashes_with_waiting c =
    rw (← c.own.ensures, ← c.sc.ensures, ← c.waiting.ensures)
    (judged_by_entry _ _ _ _ _ _ _ _ _ _ c.is_local-local.ensures (sym c.clashes_with_commits.ensures ∙ c.if-clashes_with_commits.false) c.if-local.false
    (sym c.clashes_with_waiting.ensures ∙ c.if-clashes_with_waiting.true))

pub returns : goal.returns
returns c =
    rw (← c.own.ensures, ← c.sc.ensures, ← c.waiting.ensures)
    (judged_at_end _ _ _ _ _ _ _ _ _ _ c.is_local-local.ensures (sym c.clashes_with_commits.ensures ∙ c.if-clashes_with_commits.false) c.if-local.false
    (sym c.clashes_with_waiting.ensures ∙ c.if-clashes_with_waiting.false))
