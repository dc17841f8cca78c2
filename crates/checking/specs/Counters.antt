-- The counters' part of soundness: sizes that fit, DC within its limit, at most 32 waiting, and SC plus waiting at most DC. As a test, and as facts.
use Rattle.std.specs.Prelude.{ℕ, ◌+◌, ◌≤◌, Bool, true, ◌&&◌, [], ◌∷◌, ◌≡◌}
use borrow.Author.Tests.{le-leb, leb-true}
use Rattle.std.proofs.Math.Dec.{leb}
use Rattle.rules.specs.Sizes.{most_waiting, most_dc}
use Rattle.rules.specs.Ledger.{sizes_fit}
use Rattle.claims.specs.SoundParts.{each, together, Sizes, sizes_facts, sizes_test}

unfoldable pub counters_fit : ℕ → ℕ → ℕ → ℕ → ℕ → ℕ → Bool
counters_fit partitions own sc dc k n = sizes_fit partitions own k && leb dc most_dc && leb n most_waiting && leb (sc + n) dc

pub record Counters (partitions own sc dc k n : ℕ) : Type 0 where
  pub sizes : Sizes partitions own k
  pub dc_fits : dc ≤ most_dc
  pub list_fits : n ≤ most_waiting
  pub sum_fits : sc + n ≤ dc

module _ (partitions own sc dc k n : ℕ) where
  pub counters_facts : counters_fit partitions own sc dc k n ≡ true → Counters partitions own sc dc k n
  unfolding counters_fit
  counters_facts h =
      let parts = each (sizes_fit partitions own k) (leb dc most_dc ∷ leb n most_waiting ∷ leb (sc + n) dc ∷ []) h in
      record {
        sizes = sizes_facts partitions own k parts.0;
        dc_fits = leb-true dc most_dc parts.1.0;
        list_fits = leb-true n most_waiting parts.1.1.0;
        sum_fits = leb-true (sc + n) dc parts.1.1.1;
      }

  pub counters_test : Counters partitions own sc dc k n → counters_fit partitions own sc dc k n ≡ true
  unfolding counters_fit
  counters_test h =
      together (sizes_fit partitions own k) (leb dc most_dc ∷ leb n most_waiting ∷ leb (sc + n) dc ∷ []) (
        sizes_test partitions own k h.sizes,
        (le-leb dc most_dc h.dc_fits, (le-leb n most_waiting h.list_fits, le-leb (sc + n) dc h.sum_fits)),
      )
