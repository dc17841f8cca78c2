-- The rules' soundness of the state that the tables hold, by tests on the tables alone: of the counters, of the kept rows, of the identities, of the
-- waiting rows. That the kept commits number the smaller of SC and 64, and the values 1,024, holds of any tables that are long enough.
use Rattle.std.specs.Prelude.{ℕ, ◌-◌, ◌≤◌, ◌<◌, min, Bool, true, ◌&&◌, List, [], ◌∷◌, ◌≡◌, refl, ℤ, length}
use Rattle.std.specs.List.{list_all}
use Rattle.std.proofs.Math.Path.{sym, ap}
use Rattle.std.proofs.Common.{◌∙◌}
use native.Mathlib.Omega.{arith}
use Rattle.std.proofs.Math.ListN.{get_or}
use Rattle.std.proofs.lemmas.Bool.{false_from_ne_true}
use Rattle.rules.specs.Sizes.{keys, most_partitions, most_waiting, most_kept, most_dc}
use Rattle.rules.specs.Ledger.{Entry}
use Rattle.rules.specs.Soundness.{good_commit, good_entry, different, identities, sound}
use Rattle.laws.specs.Tests.{split, never}
use Rattle.laws.specs.Cuts.{length_cut}
use Rattle.laws.specs.Tabs.{tab, length_tab, tab_same, map_tab}
use Rattle.claims.specs.SoundParts.{each, together, Sound, sound_facts, sound_test}
use Rattle.tables.specs.Layout.{sums_words, partitions_at, own_at, sc_at, dc_at, k_at, waiting_at}
use Rattle.tables.specs.Rows.{row_transaction, row_entry}
use Rattle.tables.specs.View.{waiting_words, kept_words, entry_at, commit_at, waiting_view, length_waiting, kept_view, values_view, books_view, clock_view, view}
use Rattle.tables.specs.Tested.{all_tab_same}
use Rattle.checking.specs.GoodRows.{sets_good, commit_row, row_good, entry_row}
use Rattle.checking.specs.Counters.{Counters, counters_fit, counters_facts, counters_test}

-- Two tests that hold of the same things are one.
same_test : (a b : Bool) → (a ≡ true → b ≡ true) → (b ≡ true → a ≡ true) → a ≡ b
same_test a b there back = split b (λ q. back q ∙ sym q) (λ q. false_from_ne_true a (λ p. never b (there p) q) ∙ sym q)

-- The identity in a waiting row; the row of the newest kept commit, of the one before it, and so on.
unfoldable pub identity_at : List ℕ → ℕ → ℕ
identity_at book i = get_or (waiting_words book i) 0 0

unfoldable pub newest_words : List ℕ → ℕ → ℕ → List ℕ
newest_words book sc j = kept_words book (sc - j)

-- The tests: of the counters, of every kept row, of the identities, of every waiting row.
abbrev pub counters_pass : List ℕ → Bool
counters_pass book =
    counters_fit (get_or book partitions_at 0) (get_or book own_at 0) (get_or book sc_at 0) (get_or book dc_at 0) (get_or book k_at 0) (get_or book waiting_at 0)

unfoldable pub kept_pass : ℕ → List ℕ → Bool
kept_pass sc book = list_all sets_good (tab (min sc most_kept) (newest_words book sc))

unfoldable pub identities_pass : ℕ → List ℕ → Bool
identities_pass n book = different (tab n (identity_at book))

unfoldable pub waiting_pass : ℕ → ℕ → ℕ → ℕ → List ℕ → Bool
waiting_pass partitions own dc n book = list_all (row_good partitions own dc) (tab n (waiting_words book))

-- What the counters' part alone bounds.
module _ (book : List ℕ) (fit : counters_pass book ≡ true) where
  counters : Counters (get_or book partitions_at 0) (get_or book own_at 0) (get_or book sc_at 0) (get_or book dc_at 0) (get_or book k_at 0) (get_or book waiting_at 0)
  counters = counters_facts _ _ _ _ _ _ fit

  pub few_partitions : get_or book partitions_at 0 ≤ most_partitions
  few_partitions = counters.sizes.few_partitions

  pub own_below_8 : get_or book own_at 0 < most_partitions
  own_below_8 = let sizes = counters.sizes in omega arith

  pub dc_fits : get_or book dc_at 0 ≤ most_dc
  dc_fits = counters.dc_fits

  pub few_waiting : get_or book waiting_at 0 ≤ most_waiting
  few_waiting = counters.list_fits

module _ (book : List ℕ) (sums : List ℤ) where
  -- The rules' tests of the lists that the tables hold are those tests.
  kept_same : (sc : ℕ) → list_all good_commit (kept_view sc book sums) ≡ kept_pass sc book
  unfolding kept_view commit_at kept_pass newest_words
  kept_same sc =
      all_tab_same (min sc most_kept) good_commit (λ j. commit_at book sums (sc - j)) sets_good (newest_words book sc)
      (λ j. commit_row (kept_words book (sc - j)) _)

  identity_same : (i : ℕ) → (entry_at book sums i).transaction.identity ≡ identity_at book i
  unfolding entry_at row_entry row_transaction identity_at
  identity_same i = refl

  identities_same : (n : ℕ) → different (identities (waiting_view n book sums)) ≡ identities_pass n book
  unfolding waiting_view identities_pass
  identities_same n =
      ap different
      (map_tab (λ (e : Entry). e.transaction.identity) n (entry_at book sums)
      ∙ tab_same n (λ i. (entry_at book sums i).transaction.identity) (identity_at book) (λ i low. identity_same i))

  waiting_same : (partitions own dc n : ℕ) → list_all (good_entry partitions own dc) (waiting_view n book sums) ≡ waiting_pass partitions own dc n book
  unfolding waiting_view entry_at waiting_pass
  waiting_same partitions own dc n =
      all_tab_same n (good_entry partitions own dc) (entry_at book sums) (row_good partitions own dc) (waiting_words book)
      (λ i. entry_row partitions own dc (waiting_words book i) _)

  -- "kept commits number the smaller of SC and 64", and the values 1,024.
  kept_count_holds : (sc : ℕ) → length (kept_view sc book sums) ≡ min sc most_kept
  unfolding kept_view
  kept_count_holds sc = length_tab (min sc most_kept) (λ j. commit_at book sums (sc - j))

  values_count_holds : sums_words ≤ length sums → length (values_view sums) ≡ keys
  unfolding values_view
  values_count_holds long = length_cut 0 keys sums (omega arith)

  -- What soundness says of the tables.
  module _ (whole : sound (view book sums) ≡ true) where
    pub state_facts : Sound (clock_view book) (waiting_view (get_or book waiting_at 0) book sums) (books_view (get_or book sc_at 0) book sums)
    unfolding view
    state_facts = sound_facts (view book sums) whole

    pub counters_hold :
        Counters (get_or book partitions_at 0) (get_or book own_at 0) (get_or book sc_at 0) (get_or book dc_at 0) (get_or book k_at 0) (get_or book waiting_at 0)
    unfolding clock_view books_view
    counters_hold =
        let number = length_waiting (get_or book waiting_at 0) book sums in
        let list = state_facts.list_fits in
        let sum = state_facts.sum_fits in
        record { sizes = state_facts.sizes; dc_fits = state_facts.dc_fits; list_fits = omega arith; sum_fits = omega arith }

  -- The whole test is those four, one after the other.
  pub sound_tests : sums_words ≤ length sums
      → sound (view book sums)
      ≡ (counters_pass book
      && kept_pass (get_or book sc_at 0) book
      && identities_pass (get_or book waiting_at 0) book
      && waiting_pass (get_or book partitions_at 0) (get_or book own_at 0) (get_or book dc_at 0) (get_or book waiting_at 0) book)
  unfolding view clock_view books_view
  sound_tests long =
      let n = get_or book waiting_at 0 in
      let kept = kept_pass (get_or book sc_at 0) book in
      let apart = identities_pass n book in
      let waiting = waiting_pass (get_or book partitions_at 0) (get_or book own_at 0) (get_or book dc_at 0) n book in
      same_test (sound (view book sums)) (counters_pass book && kept && apart && waiting)
      (λ q. together (counters_pass book) (kept ∷ apart ∷ waiting ∷ []) (
        counters_test _ _ _ _ _ _ (counters_hold q),
        (
          sym (kept_same (get_or book sc_at 0)) ∙ (state_facts q).kept_good,
          (sym (identities_same n) ∙ (state_facts q).apart, sym (waiting_same _ _ _ n) ∙ (state_facts q).entries_good),
        ),
      ))
      (λ q. let parts = each (counters_pass book) (kept ∷ apart ∷ waiting ∷ []) q in
      let fit = counters_facts _ _ _ _ _ _ parts.0 in
      let number = length_waiting n book sums in
      let list = fit.list_fits in
      let sum = fit.sum_fits in
      sound_test (view book sums)
      record {
        sizes = fit.sizes;
        dc_fits = fit.dc_fits;
        list_fits = omega arith;
        values_fit = values_count_holds long;
        kept_number = kept_count_holds (get_or book sc_at 0);
        sum_fits = omega arith;
        kept_good = kept_same (get_or book sc_at 0) ∙ parts.1.0;
        apart = identities_same n ∙ parts.1.1.0;
        entries_good = waiting_same _ _ _ n ∙ parts.1.1.1;
      })

-- What the check of two tables stands on: the four tests are the whole, and the first of them bounds what the others take.
pub ruleset sound_laws = (sound_tests, few_partitions, own_below_8, dc_fits, few_waiting)
