-- What std writes into a part of a slice is `put_mid`: the part is as long as s, and holds s now.
use Rattle.std.specs.Prelude.{length}
use Rattle.std.proofs.Common.{◌∙◌, arith, refl}
use Rattle.std.proofs.lemmas.Slice.{put_mid-paste}
use Rattle.std.proofs.lemmas.List.Edits.{paste_all}
use Rattle.laws.specs.Cuts.{put}
use Rattle.moves.proofs.lay.Goals as goal

pub returns : goal.returns
unfolding put
returns g c =
    put_mid-paste c.args.at _ c.args.t.now _ c.args.s.now (length c.args.s.now) c.copy_from_slice.ensures.after (omega arith) refl
    ∙ paste_all c.args.t.now c.args.at c.args.s.now (length c.args.s.now) refl
