-- What `earliest_place` answers.
use Rattle.std.specs.Prelude.{ℕ, ◌≤◌, Bool, true, false, cond, List, ◌≡◌, Some, None}
use Rattle.std.specs.List.{list_any}
use Rattle.std.proofs.Math.Option.{none, some}
use Rattle.std.proofs.Common.{sym, ap, ◌∙◌, arith}
use Rattle.rules.specs.Place.{place}
use Rattle.laws.specs.Options.{given}
use Rattle.laws.specs.Tabs.{tab, length_tab, take_tab}
use Rattle.certifying.specs.Places.{Reached, place_reached}

-- The two walks: what stands before the place reached, and the answer.
module _ {A : Type 0} (pass : A → Bool) (n i : ℕ) (f : ℕ → A) (reached : Reached pass (tab n f) i) where
  pub reached_most : i ≤ n
  reached_most =
      let within = reached.within in
      omega (arith, length_tab n f)

  place_told : (block : A → Bool) → place block pass (tab n f) ≡ cond (list_any block (tab i f)) none (some i)
  place_told block = place_reached block pass (tab n f) i reached ∙ ap (λ (es : List A). cond (list_any block es) none (some i)) (take_tab i n f reached_most)

  pub free_at : (block : A → Bool) {r : Bool} → r ≡ list_any block (tab i f) → r ≡ false → Some i ≡ given (place block pass (tab n f))
  free_at block told free = rw (place_told block, sym told ∙ free)

  pub blocked_nowhere : (block : A → Bool) {r : Bool} → r ≡ list_any block (tab i f) → r ≡ true → None ≡ given (place block pass (tab n f))
  blocked_nowhere block told blocks = rw (place_told block, sym told ∙ blocks)
