-- `Keys::meets` meets its contract: two lists meet exactly where they share a key.
use Rattle.std.proofs.Common.{◌∙◌, ap}
use Rattle.std.specs.Prelude.{is_some}
use Rattle.keys.specs.Merge.{given_meets}
use Rattle.keys.proofs.Keys.meets.Goals as goal

pub returns : goal.returns
returns c = c.is_some.ensures ∙ (ap is_some c.smallest_shared.ensures ∙ given_meets _ _)
