-- The place by two walks, over any list and any two tests: one back from the end while the entries may be passed, then one over the entries before the
-- place that was reached.
use Prim.Native.Nat.{ℕ, zero, suc, ◌≤◌}
use Rattle.std.specs.Prelude.{Bool, true, false, cond, ◌≡◌, length, take, drop}
use Rattle.std.specs.List.{list_any, list_all}
use mathlib.Core.List.{List, [], ◌∷◌}
use Rattle.std.proofs.Math.Option.{none, some}
use Rattle.std.proofs.Math.Path.{refl}
use Rattle.std.proofs.Common.{ap, arith}
use Rattle.rules.specs.Place.{place}
use Rattle.laws.specs.Tests.{split, never, all_drop}

-- The first place such that every entry from there on may be passed: from the place before it on not every entry may be.
pub record Reached {A : Type 0} (pass : A → Bool) (es : List A) (i : ℕ) : Type 0 where
  pub within : i ≤ length es
  pub behind : list_all pass (drop i es) ≡ true
  pub stopped : (j : ℕ) → suc j ≡ i → list_all pass (drop j es) ≡ false

module _ {A : Type 0} (block pass : A → Bool) where
  -- what doesn't hold of all from a place on doesn't hold of all
  not_all : (j : ℕ) (es : List A) → list_all pass (drop j es) ≡ false → list_all pass es ≡ false
  not_all j es h = split (list_all pass es) (λ q. never (list_all pass (drop j es)) (all_drop pass j es q) h) (λ q. q)

  -- The place is the one reached, unless an entry before it blocks.
  pub place_reached : (es : List A) (i : ℕ) → Reached pass es i → place block pass es ≡ cond (list_any block (take i es)) none (some i)
  unfolding place
  place_reached [] zero r = refl
  place_reached (e ∷ es) zero r = rw r.behind
  place_reached [] (suc i) r = let h = r.within in absurd (omega arith)
  place_reached (e ∷ es) (suc i) r =
      let low = r.within in
      let rest : Reached pass es i =
      record { within = omega arith; behind = r.behind; stopped = λ j q. r.stopped (suc j) (ap suc q) } in
      rw (not_all i (e ∷ es) (r.stopped i refl), place_reached es i rest)
      (split (block e) (λ q. rw q) (λ q. rw q (split (list_any block (take i es)) (λ b. rw b) (λ b. rw b))))
