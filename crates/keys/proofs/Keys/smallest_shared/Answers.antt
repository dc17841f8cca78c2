use Rattle.std.proofs.Common.{ap, sym, ◌∙◌, ◌<◌}
use native.Mathlib.Omega.{arith}
use Rattle.laws.specs.Options.{given}
use Rattle.laws.specs.Members.{ascending_rest}
use Rattle.keys.specs.Merge.{shared_end, shared_end_other, shared_met, shared_one, shared_other}
use Rattle.keys.proofs.Keys.smallest_shared.Goals as goal

pub returns-then-one-their : goal.returns-then-one-their
returns-then-one-their c =
    shared_met c.in-Some-Some.one.now c.in-Some-Some.their.now c.in-Some-Some.ensures.cases.0 c.in-Some-Some.ensures'.cases.0 c.if-one-their.true
    ∙ ap given (sym c.loop-one.invariant.same)

pub loop-one-preserved-then-one-their-2 : goal.loop-one-preserved-then-one-their-2
loop-one-preserved-then-one-their-2 c =
    let ours = c.in-Some-Some.ensures.cases.0 in
    let theirs = c.in-Some-Some.ensures'.cases.0 in
    record {
      same = c.loop-one.invariant.same ∙ shared_one _ _ ours theirs c.loop-one.invariant.theirs_ascend c.if-one-their-2.true;
      ours_ascend = ascending_rest _ _ (rw ours at c.loop-one.invariant.ours_ascend);
      theirs_ascend = c.loop-one.invariant.theirs_ascend;
    }

pub loop-one-preserved : goal.loop-one-preserved
loop-one-preserved c =
    let ours = c.in-Some-Some.ensures.cases.0 in
    let theirs = c.in-Some-Some.ensures'.cases.0 in
    let differ = c.if-one-their.false in
    let at_most = c.if-one-their-2.false in
    let greater : c.in-Some-Some.their.now < c.in-Some-Some.one.now = omega arith in
    record {
      same = c.loop-one.invariant.same ∙ shared_other _ _ ours theirs c.loop-one.invariant.ours_ascend greater;
      ours_ascend = c.loop-one.invariant.ours_ascend;
      theirs_ascend = ascending_rest _ _ (rw theirs at c.loop-one.invariant.theirs_ascend);
    }

pub returns-in_default : goal.returns-in_default
returns-in_default c = shared_end_other _ _ c.in_default.ensures'.cases ∙ ap given (sym c.loop-one.invariant.same)

pub returns-in_default-2 : goal.returns-in_default-2
returns-in_default-2 c = shared_end _ _ c.in_default.ensures.cases ∙ ap given (sym c.loop-one.invariant.same)
