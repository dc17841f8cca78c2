-- std says it by the bounds of the range, and takes what is copied out of the rest of the list: the count of the range is n, and the cut is n long.
use Rattle.std.specs.Prelude.{ℕ, ◌+◌, ◌-◌, ◌≤◌, List, ◌++◌, ◌≡◌, length, take, drop}
use Rattle.std.specs.List.{copy_within}
use Rattle.std.proofs.Common.{sym, ap, ◌∙◌, arith}
use mathlib.Core.List.{append_assoc}
use Rattle.laws.specs.Cuts.{cut, put, length_cut}
use Rattle.moves.proofs.move_within.Goals as goal

copied : {A : Type 0} (l : List A) (from to n : ℕ) → from + n ≤ length l → copy_within l from (from + n) to ≡ put l to (cut from n l)
unfolding cut put
copied l from to n fits =
    let count : from + n - from ≡ n = omega arith in
    ap (λ (k : ℕ). (take to l ++ take k (drop from l)) ++ drop (to + k) l) count
    ∙ (append_assoc (take to l) (cut from n l) (drop (to + n) l)
    ∙ ap (λ (k : ℕ). take to l ++ (cut from n l ++ drop (to + k) l)) (sym (length_cut from n l fits)))

pub returns : goal.returns
returns g c = c.copy_within.ensures.after ∙ copied c.args.t.now c.args.from c.args.to c.args.n c.requires.from_in_bounds
