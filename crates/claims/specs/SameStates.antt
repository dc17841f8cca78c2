-- 01: "States are equal when counters, k, waiting entries with their votes, kept commits and values are."
use Rattle.std.specs.Prelude.{◌↔◌, ◌≡◌}
use Rattle.std.proofs.Common.{ap}
use Rattle.rules.specs.Ledger.{State, Same}

same_state : (s t : State) → Same s t → s ≡ t
same_state s t h =
    λ i. record {
      clock = record { partitions = h.partitions i; own = h.own i; dc = h.dc i; k = h.k i };
      waiting = h.waiting i;
      books = record { sc = h.sc i; kept = h.kept i; values = h.values i };
    }

state_same : (s t : State) → s ≡ t → Same s t
state_same s t q =
    record {
      partitions = ap (λ (u : State). u.clock.partitions) q;
      own = ap (λ (u : State). u.clock.own) q;
      dc = ap (λ (u : State). u.clock.dc) q;
      sc = ap (λ (u : State). u.books.sc) q;
      k = ap (λ (u : State). u.clock.k) q;
      waiting = ap (λ (u : State). u.waiting) q;
      kept = ap (λ (u : State). u.books.kept) q;
      values = ap (λ (u : State). u.books.values) q;
    }

pub same_states : (s t : State) → Same s t ↔ s ≡ t
same_states s t = (same_state s t, state_same s t)
