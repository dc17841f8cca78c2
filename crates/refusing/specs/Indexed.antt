-- The row of an identity among those that wait.
use Rattle.std.specs.Prelude.{ℕ, ◌+◌, ◌<◌, true, false, List, [], ◌∷◌, ◌≡◌, refl, eqb, ℤ, length, get_or}
use Rattle.std.specs.List.{list_any}
use Rattle.std.proofs.Common.{zero-le, suc-le-suc, sym, ap, ◌∙◌, arith, eqb-true}
use Rattle.std.proofs.Math.Option.{none}
use Rattle.std.proofs.lemmas.Bool.{not-false}
use Rattle.rules.specs.Partitions.{Ballot}
use Rattle.rules.specs.Events.{vote}
use Rattle.rules.specs.Refusals.{is_for, waits_for, refusal, checks, vote_checks}
use Rattle.laws.specs.Tests.{split, never}
use Rattle.laws.specs.Cuts.{get_or_cut}
use Rattle.laws.specs.Tabs.{length_tab, get_or_tab}
use Rattle.claims.specs.Refused.{none_applies}
use Rattle.tables.specs.Layout.{waiting_row}
use Rattle.tables.specs.Rows.{row_transaction, row_entry}
use Rattle.tables.specs.View.{waiting_words, entry_at, waiting_view, view}
use Rattle.tables.specs.Tested.{any_tab_same}
use Rattle.refusing.specs.Operands.{index_of, waiting_identities}

-- A list that has a number has it at its index.
pub record Indexed (x : ℕ) (ys : List ℕ) (i : ℕ) : Type 0 where
  pub below : i < length ys
  pub stands : get_or ys i 0 ≡ x

index_found : (x : ℕ) (ys : List ℕ) → list_any (λ y. eqb y x) ys ≡ true → Indexed x ys (index_of x ys)
unfolding index_of
index_found x [] h = never false h refl
index_found x (y ∷ ys) h =
    split (eqb y x)
    (λ q. rw q (record { below = suc-le-suc zero-le; stands = eqb-true y x q }))
    (λ q. let r = index_found x ys (rw q at h) in rw q (record { below = suc-le-suc r.below; stands = r.stands }))

pub entry_identity : (book : List ℕ) (sums : List ℤ) (i : ℕ) → (entry_at book sums i).transaction.identity ≡ get_or book (waiting_row i) 0
unfolding entry_at row_entry row_transaction waiting_words
entry_identity book sums i =
    let e : waiting_row i + 0 ≡ waiting_row i = omega arith in
    rw e at (get_or_cut (waiting_row i) 24 book 0 0 (omega arith))

-- The rules' test of who waits, on the identities of the table.
pub waits_here : (x : ℕ) (book : List ℕ) (sums : List ℤ) → waits_for x (view book sums) ≡ list_any (λ y. eqb y x) (waiting_identities book)
unfolding view waiting_view waiting_identities
waits_here x book sums =
    any_tab_same (get_or book 5 0) (is_for x) (entry_at book sums) (λ y. eqb y x) (λ i. get_or book (waiting_row i) 0)
    (λ i. ap (λ (y : ℕ). eqb y x) (entry_identity book sums i))

-- The row of an identity that waits.
pub record RowOf (x : ℕ) (book : List ℕ) (sums : List ℤ) (i : ℕ) : Type 0 where
  pub below : i < get_or book 5 0
  pub its : (entry_at book sums i).transaction.identity ≡ x

pub row_of : (x : ℕ) (book : List ℕ) (sums : List ℤ) → waits_for x (view book sums) ≡ true → RowOf x book sums (index_of x (waiting_identities book))
unfolding waiting_identities
row_of x book sums h =
    let r = index_found x (waiting_identities book) (sym (waits_here x book sums) ∙ h) in
    let n = get_or book 5 0 in
    let i = index_of x (waiting_identities book) in
    let low : i < n = let b = r.below in omega (arith, length_tab n (λ j. get_or book (waiting_row j) 0)) in
    record {
      below = low;
      its = entry_identity book sums i ∙ (sym (get_or_tab n (λ j. get_or book (waiting_row j) 0) i 0 low) ∙ r.stands);
    }

-- A vote that isn't refused finds its entry waiting.
pub vote_waits : (x p : ℕ) (b : Ballot) (book : List ℕ) (sums : List ℤ) → refusal (vote x p b) (view book sums) ≡ none
    → waits_for x (view book sums) ≡ true
unfolding refusal checks vote_checks
vote_waits x p b book sums q =
    not-false (waits_for x (view book sums)) (none_applies (vote_checks x p (view book sums)) q).0
