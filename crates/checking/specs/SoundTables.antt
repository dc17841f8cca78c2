-- What callers of the check go on with: a sound pair of tables, as one record of facts on the state and on the words.
use Rattle.std.specs.Prelude.{ℕ, ◌+◌, ◌≤◌, ◌<◌, true, List, ◌≡◌, ℤ, get_or}
use Rattle.rules.specs.Sizes.{most_partitions, most_waiting, most_k, most_dc}
use Rattle.rules.specs.Soundness.{sound}
use Rattle.claims.specs.SoundParts.{Sound}
use Rattle.tables.specs.Layout.{partitions_at, own_at, sc_at, dc_at, k_at, waiting_at}
use Rattle.tables.specs.View.{clock_view, waiting_view, books_view, view}
use Rattle.tables.specs.Good.{WaitingGood, KeptGood, waiting_good, kept_good}
use Rattle.checking.specs.Whole.{state_facts, counters_hold}

pub record SoundTables (book : List ℕ) (sums : List ℤ) : Type 0 where
  pub state : Sound (clock_view book) (waiting_view (get_or book waiting_at 0) book sums) (books_view (get_or book sc_at 0) book sums)
  pub waiting_rows : WaitingGood (get_or book waiting_at 0) book
  pub kept_rows : KeptGood (get_or book sc_at 0) book
  pub few_waiting : get_or book waiting_at 0 ≤ most_waiting
  pub some_partition : 1 ≤ get_or book partitions_at 0
  pub few_partitions : get_or book partitions_at 0 ≤ most_partitions
  pub own_opened : get_or book own_at 0 < get_or book partitions_at 0
  pub k_fits : get_or book k_at 0 ≤ most_k
  pub sum_fits : get_or book sc_at 0 + get_or book waiting_at 0 ≤ get_or book dc_at 0
  pub dc_fits : get_or book dc_at 0 ≤ most_dc

pub sound_tables : (book : List ℕ) (sums : List ℤ) → sound (view book sums) ≡ true → SoundTables book sums
unfolding clock_view books_view
sound_tables book sums whole =
    let state = state_facts book sums whole in
    let counters = counters_hold book sums whole in
    record {
      state = state;
      waiting_rows = waiting_good _ _ _ (get_or book waiting_at 0) book sums state.entries_good;
      kept_rows = kept_good (get_or book sc_at 0) book sums state.kept_good;
      few_waiting = counters.list_fits;
      some_partition = counters.sizes.some_partition;
      few_partitions = counters.sizes.few_partitions;
      own_opened = counters.sizes.own_opened;
      k_fits = counters.sizes.k_fits;
      sum_fits = counters.sum_fits;
      dc_fits = counters.dc_fits;
    }
