-- What closing asks of a desk holds of sound tables.
use Rattle.std.specs.Prelude.{ℕ, ◌≤◌, true, List, [], ◌∷◌, ◌≡◌, refl, ℤ, length, get_or}
use Rattle.std.proofs.Common.{arith}
use Rattle.rules.specs.Keys.{ascending, above}
use Rattle.rules.specs.Ledger.{Clock}
use Rattle.checking.specs.SoundTables.{SoundTables}
use Rattle.tables.specs.Layout.{book_words, sums_words, sc_at, waiting_at}
use Rattle.tables.specs.View.{clock_view}
use Rattle.tables.specs.Settled.{Ready}

-- The counters read off the words that were checked, and the desk as the ledger holds it.
pub ready : {words book : List ℕ} {amounts sums : List ℤ} {fin : List ℕ} {c : Clock} {sc waiting finished : ℕ} → SoundTables words amounts
    → words ≡ book → amounts ≡ sums → book_words ≤ length book → sums_words ≤ length sums → 64 ≤ length fin
    → c ≡ clock_view words → sc ≡ get_or words sc_at 0 → waiting ≡ get_or words waiting_at 0 → finished ≡ 0
    → Ready c (record { sc = sc; waiting = waiting; finished = finished; book = book; sums = sums; finishes = fin })
unfolding clock_view
ready {words} {book} {amounts} {sums} {fin} h eb es long long_sums room is_clock is_sc is_waiting is_none =
    let few = h.few_waiting in
    rw (is_clock, is_sc, is_waiting, is_none, ← eb, ← es)
    (record {
      fit = record { long = rw eb long; long_sums = rw es long_sums; room = omega arith; few_told = omega arith; sound = h.state };
      untold = refl;
      partitions = refl;
      own = refl;
    })

-- One key alone ascends.
pub one_ascends : (k : ℕ) → ascending (k ∷ []) ≡ true
unfolding ascending above
one_ascends k = refl
