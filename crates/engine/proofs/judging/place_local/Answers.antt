-- The place found, or reason 3.
use Rattle.std.specs.Option.{ok_or}
use Rattle.std.proofs.Common.{◌∙◌, ap}
use Rattle.engine.specs.declared.answers.Reason.TheVariants.{NoPlace}
use Rattle.engine.specs.Judging.{placed_or}
use Rattle.engine.proofs.judging.place_local.Goals as goal

pub returns : goal.returns
returns c = c.ok_or.ensures.value ∙ (ap (λ o. ok_or o NoPlace) c.earliest_place.ensures ∙ placed_or _)
