-- The place of a newcomer in a list, over any two tests: which entries it may not stand behind, and which it may pass.
use Rattle.std.specs.Prelude.{ℕ, suc, Bool, cond, List, [], ◌∷◌}
use Rattle.std.specs.List.{list_all}
use Rattle.std.proofs.Math.Option.{Option, none, some, map}

module _ {A : Type 0} (block pass : A → Bool) where
  -- "the smallest place i, from 0 to the list's length, such that no entry before i" blocks "and every entry from i on" lets it pass
  unfoldable pub place : List A → Option ℕ
  place [] = some 0
  place (e ∷ es) = cond (list_all pass (e ∷ es)) (some 0) (cond (block e) none (map suc (place es)))
