-- What is lent comes first: 15 for a finish list with too little room, 13 for tables that are too short or hold no sound state. Behind it stands the rules' own
-- number, and the tables' sizes hold.
use Rattle.std.specs.Prelude.{ℕ, ◌/◌, ◌≤◌, Bool, true, false, not, cond, ◌||◌, List, ◌≡◌, eqb, ltb, ℤ, get_or}
use Rattle.rules.specs.Sizes.{most_partitions, most_waiting}
use Rattle.rules.specs.Soundness.{sound}
use Rattle.rules.specs.Events.{Event}
use Rattle.rules.specs.Refusals.{refusal, too_little_room}
use Rattle.laws.specs.Tests.{split}
use Rattle.tables.specs.Layout.{partitions_at, waiting_at}
use Rattle.tables.specs.View.{view}
use Rattle.checking.specs.SoundTables.{sound_tables}
use Rattle.refusing.specs.Operands.{number_of, short, lent_number}

-- 13, for any event.
unfoldable pub unusable : List ℕ → List ℤ → Bool
unusable book sums = short book sums || not (sound (view book sums))

-- "Then come 15 and 13, in that order"
unfoldable pub lending_number : List ℕ → List ℤ → ℕ → ℕ
lending_number book sums words = cond (ltb (words / 2) most_waiting) 15 (cond (unusable book sums) 13 0)

module _ (book : List ℕ) (sums : List ℤ) where
  -- The sizes of a sound state.
  pub few_partitions : sound (view book sums) ≡ true → get_or book partitions_at 0 ≤ most_partitions
  few_partitions whole = (sound_tables book sums whole).few_partitions

  pub few_waiting : sound (view book sums) ≡ true → get_or book waiting_at 0 ≤ most_waiting
  few_waiting whole = (sound_tables book sums whole).few_waiting

  -- An event's number by what is lent, and by the rules, of which `ruled` is the answer on a sound state. Of a delivery more than the tables may be too short: it
  -- may be `uneven` too.
  module _ (words : ℕ) (too_short uneven : Bool) (same : too_short ≡ (short book sums || uneven)) (e : Event) {ruled : ℕ}
      (answer : sound (view book sums) ≡ true → ruled ≡ number_of (refusal e (view book sums))) where
    -- Of an event that lends a finish list.
    pub lent_first : too_little_room (words / 2) e ≡ ltb (words / 2) most_waiting → lent_number words too_short e (view book sums)
        ≡ cond (eqb (lending_number book sums words) 0) (cond uneven 13 ruled) (lending_number book sums words)
    unfolding lent_number lending_number unusable
    lent_first lends =
        split (ltb (words / 2) most_waiting) (λ q. rw (lends, q))
        (λ q. split (short book sums) (λ r. rw (lends, same, q, r))
        (λ r. split uneven (λ u. split (sound (view book sums)) (λ t. rw (lends, same, q, r, u, t)) (λ t. rw (lends, same, q, r, u, t)))
        (λ u. split (sound (view book sums)) (λ t. rw (lends, same, q, r, u, t, answer t)) (λ t. rw (lends, same, q, r, u, t)))))

    -- Of an event that lends none.
    pub tables_first : too_little_room (words / 2) e ≡ false → uneven ≡ false
        → lent_number words too_short e (view book sums) ≡ cond (unusable book sums) 13 ruled
    unfolding lent_number unusable
    tables_first room even =
        split (short book sums) (λ r. rw (room, same, r))
        (λ r. split (sound (view book sums)) (λ t. rw (room, same, r, even, t, answer t)) (λ t. rw (room, same, r, even, t)))
