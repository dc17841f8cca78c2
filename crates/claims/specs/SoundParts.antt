-- The conditions of a sound state, of sizes that fit, and of a good waiting entry, each as a fact of its own under a name.
use Rattle.std.specs.Prelude.{ℕ, ◌+◌, ◌≤◌, ◌<◌, min, Bool, true, false, not, ◌&&◌, List, [], ◌∷◌, ◌≡◌, eqb, leb, ltb, length}
use Rattle.std.specs.List.{list_all}
use Rattle.std.proofs.Common.{ap, leb-true, le-leb, ltb-true, lt-ltb, eqb-true, eq-eqb}
use Rattle.std.proofs.lemmas.Bool.{not-true}
use Rattle.rules.specs.Sizes.{keys, most_partitions, most_waiting, most_kept, most_k, most_dc}
use Rattle.rules.specs.Partitions.{bad_set, Heard, from_others}
use Rattle.rules.specs.Keys.{good_set}
use Rattle.rules.specs.Ledger.{Entry, Clock, Books, State, keys_of, sizes_fit}
use Rattle.rules.specs.Soundness.{fits, kept_count, counted, good_commit, different, identities, good_entry, sound}
use Rattle.laws.specs.Tests.{and_left}

-- Tests joined by `&&`, which groups to the left, and each of them as a fact.
abbrev pub joint : Bool → List Bool → Bool
joint a [] = a
joint a (b ∷ bs) = joint (a && b) bs

abbrev pub Each : Bool → List Bool → Type 0
Each a [] = a ≡ true
Each a (b ∷ bs) = (a ≡ true) × Each b bs

joint_first : (a : Bool) (bs : List Bool) → joint a bs ≡ true → a ≡ true
joint_first a [] h = h
joint_first a (b ∷ bs) h = and_left a b (joint_first (a && b) bs h)

pub each : (a : Bool) (bs : List Bool) → joint a bs ≡ true → Each a bs
each a [] h = h
each a (b ∷ bs) h =
    let q : a ≡ true = joint_first a (b ∷ bs) h in
    (q, each b bs (rw q at h))

pub together : (a : Bool) (bs : List Bool) → Each a bs → joint a bs ≡ true
together a [] h = h
together a (b ∷ bs) h = rw h.0 (together b bs h.1)

-- "Partitions | 1 to 8", "the engine has one of its own", "Threshold k | 0 to 31"
pub record Sizes (partitions own k : ℕ) : Type 0 where
  pub some_partition : 1 ≤ partitions
  pub few_partitions : partitions ≤ most_partitions
  pub own_opened : own < partitions
  pub k_fits : k ≤ most_k

abbrev sizes_tests : ℕ → ℕ → ℕ → List Bool
sizes_tests partitions own k = leb partitions most_partitions ∷ ltb own partitions ∷ leb k most_k ∷ []

pub sizes_facts : (partitions own k : ℕ) → sizes_fit partitions own k ≡ true → Sizes partitions own k
unfolding sizes_fit
sizes_facts partitions own k h =
    let parts = each (leb 1 partitions) (sizes_tests partitions own k) h in
    record {
      some_partition = leb-true 1 partitions parts.0;
      few_partitions = leb-true partitions most_partitions parts.1.0;
      own_opened = ltb-true own partitions parts.1.1.0;
      k_fits = leb-true k most_k parts.1.1.1;
    }

pub sizes_test : (partitions own k : ℕ) → Sizes partitions own k → sizes_fit partitions own k ≡ true
unfolding sizes_fit
sizes_test partitions own k h =
    let few = le-leb partitions most_partitions h.few_partitions in
    let ours = lt-ltb own partitions h.own_opened in
    together (leb 1 partitions) (sizes_tests partitions own k)
    (le-leb 1 partitions h.some_partition, (few, (ours, le-leb k most_k h.k_fits)))

-- "A state is sound when", of its three parts
pub record Sound (c : Clock) (waiting : List Entry) (b : Books) : Type 0 where
  pub sizes : Sizes c.partitions c.own c.k
  pub dc_fits : c.dc ≤ most_dc
  pub list_fits : length waiting ≤ most_waiting
  pub values_fit : length b.values ≡ keys
  pub kept_number : length b.kept ≡ min b.sc most_kept
  pub sum_fits : b.sc + length waiting ≤ c.dc
  pub kept_good : list_all good_commit b.kept ≡ true
  pub apart : different (identities waiting) ≡ true
  pub entries_good : list_all (good_entry c.partitions c.own c.dc) waiting ≡ true

-- The tests of "sizes fit the table" behind those of opening, and of soundness behind it.
abbrev fits_tests : State → List Bool
fits_tests s = leb s.clock.dc most_dc ∷ leb (length s.waiting) most_waiting ∷ eqb (length s.books.values) keys ∷ []

abbrev sound_tests : State → List Bool
sound_tests s =
    kept_count s
    ∷ counted s
    ∷ list_all good_commit s.books.kept
    ∷ different (identities s.waiting)
    ∷ list_all (good_entry s.clock.partitions s.clock.own s.clock.dc) s.waiting
    ∷ []

pub sound_facts : (s : State) → sound s ≡ true → Sound s.clock s.waiting s.books
unfolding sound fits kept_count counted
sound_facts s h =
    let parts = each (fits s) (sound_tests s) h in
    let fit = each (sizes_fit s.clock.partitions s.clock.own s.clock.k) (fits_tests s) parts.0 in
    record {
      sizes = sizes_facts s.clock.partitions s.clock.own s.clock.k fit.0;
      dc_fits = leb-true s.clock.dc most_dc fit.1.0;
      list_fits = leb-true (length s.waiting) most_waiting fit.1.1.0;
      values_fit = eqb-true (length s.books.values) keys fit.1.1.1;
      kept_number = eqb-true (length s.books.kept) (min s.books.sc most_kept) parts.1.0;
      sum_fits = leb-true (s.books.sc + length s.waiting) s.clock.dc parts.1.1.0;
      kept_good = parts.1.1.1.0;
      apart = parts.1.1.1.1.0;
      entries_good = parts.1.1.1.1.1;
    }

fits_test : (s : State) → Sound s.clock s.waiting s.books → fits s ≡ true
unfolding fits
fits_test s h =
    let sizes = sizes_test s.clock.partitions s.clock.own s.clock.k h.sizes in
    let dc = le-leb s.clock.dc most_dc h.dc_fits in
    let list = le-leb (length s.waiting) most_waiting h.list_fits in
    let values = eq-eqb (length s.books.values) keys h.values_fit in
    together (sizes_fit s.clock.partitions s.clock.own s.clock.k) (fits_tests s) (sizes, (dc, (list, values)))

pub sound_test : (s : State) → Sound s.clock s.waiting s.books → sound s ≡ true
unfolding sound kept_count counted
sound_test s h =
    let kept = eq-eqb (length s.books.kept) (min s.books.sc most_kept) h.kept_number in
    let sum = le-leb (s.books.sc + length s.waiting) s.clock.dc h.sum_fits in
    together (fits s) (sound_tests s) (fits_test s h, (kept, (sum, (h.kept_good, (h.apart, h.entries_good)))))

-- Of one waiting entry.
pub record GoodEntry (partitions own dc : ℕ) (e : Entry) : Type 0 where
  pub reads_good : good_set e.transaction.reads ≡ true
  pub writes_good : good_set (keys_of e.transaction.writes) ≡ true
  pub nonzero : eqb e.transaction.identity 0 ≡ false
  pub set_good : bad_set partitions own e.transaction.partitions ≡ false
  pub ayes_involved : from_others own e.transaction.partitions e.heard.ayes ≡ true
  pub nays_involved : from_others own e.transaction.partitions e.heard.nays ≡ true
  pub rt_near : e.rt ≤ dc + most_k

abbrev entry_tests : ℕ → ℕ → ℕ → Entry → List Bool
entry_tests partitions own dc e =
    good_set (keys_of e.transaction.writes)
    ∷ not (eqb e.transaction.identity 0)
    ∷ not (bad_set partitions own e.transaction.partitions)
    ∷ from_others own e.transaction.partitions e.heard.ayes
    ∷ from_others own e.transaction.partitions e.heard.nays
    ∷ leb e.rt (dc + most_k)
    ∷ []

pub entry_facts : (partitions own dc : ℕ) (e : Entry) → good_entry partitions own dc e ≡ true → GoodEntry partitions own dc e
unfolding good_entry
entry_facts partitions own dc e h =
    let parts = each (good_set e.transaction.reads) (entry_tests partitions own dc e) h in
    record {
      reads_good = parts.0;
      writes_good = parts.1.0;
      nonzero = not-true (eqb e.transaction.identity 0) parts.1.1.0;
      set_good = not-true (bad_set partitions own e.transaction.partitions) parts.1.1.1.0;
      ayes_involved = parts.1.1.1.1.0;
      nays_involved = parts.1.1.1.1.1.0;
      rt_near = leb-true e.rt (dc + most_k) parts.1.1.1.1.1.1;
    }

pub entry_test : (partitions own dc : ℕ) (e : Entry) → GoodEntry partitions own dc e → good_entry partitions own dc e ≡ true
unfolding good_entry
entry_test partitions own dc e h =
    let near = le-leb e.rt (dc + most_k) h.rt_near in
    together (good_set e.transaction.reads) (entry_tests partitions own dc e)
    (h.reads_good, (h.writes_good, (ap not h.nonzero, (ap not h.set_good, (h.ayes_involved, (h.nays_involved, near))))))

-- A good entry stays good under another rt and other votes, if those are.
pub entry_again : (partitions own dc later rt : ℕ) (votes : Heard) (e : Entry) → good_entry partitions own dc e ≡ true
    → from_others own e.transaction.partitions votes.ayes ≡ true → from_others own e.transaction.partitions votes.nays ≡ true
    → rt ≤ later + most_k → good_entry partitions own later (record { transaction = e.transaction; rt = rt; heard = votes }) ≡ true
entry_again partitions own dc later rt votes e h ayes nays near =
    let g : GoodEntry partitions own dc e = entry_facts partitions own dc e h in
    entry_test partitions own later (record { transaction = e.transaction; rt = rt; heard = votes })
    record {
      reads_good = g.reads_good;
      writes_good = g.writes_good;
      nonzero = g.nonzero;
      set_good = g.set_good;
      ayes_involved = ayes;
      nays_involved = nays;
      rt_near = near;
    }
