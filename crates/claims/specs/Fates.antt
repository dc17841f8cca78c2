-- Demand 2 for a delivery: reasons 1, 2 and 3 and the place, each given exactly when 01 says so, of the answer of a delivery that isn't refused.
use Rattle.std.specs.Prelude.{ℕ, ◌≤◌, ◌<◌, Bool, true, false, cond, ◌↔◌, ◌⊎◌, ◌≡◌, refl, length}
use Rattle.std.specs.List.{list_any}
use mathlib.Core.List.{List, Memᴰ}
use Rattle.std.proofs.Common.{inl, inr, ⊎_elim, sym, ap, ◌∙◌, subst, arith}
use Rattle.std.proofs.Math.Option.{Option, none, some}
use Rattle.rules.specs.Ledger.{Transaction, Entry, Clock, Books, keys_of, is_local}
use Rattle.rules.specs.Place.{place}
use Rattle.rules.specs.Delivery.{blocks, passes, clash_commit, clash_entry, commits_after, Fate, abort, join, placed, fate}
use Rattle.laws.specs.Tests.{split, never}
use Rattle.laws.specs.Members.{any_found, any_member}
use Rattle.claims.specs.Places.{Least, place_least, LawfulPlace, lawful_exactly}
use Rattle.claims.specs.Clashes.{Clash, clash_exactly, ClashingCommit, commits_exactly}

-- The earliest lawful place.
pub record Earliest (c : Clock) (t : Transaction) (waiting : List Entry) (i : ℕ) : Type 0 where
  pub lawful : LawfulPlace c t waiting i
  pub least : (j : ℕ) → LawfulPlace c t waiting j → i ≤ j

pub record ClashingEntry (own : ℕ) (t : Transaction) (waiting : List Entry) : Type 0 where
  pub entry : Entry
  pub waits : Memᴰ entry waiting
  pub clashes : Clash own t entry.transaction.reads (keys_of entry.transaction.writes)

entries_exactly : (own : ℕ) (t : Transaction) (waiting : List Entry) → list_any (clash_entry own t) waiting ≡ true ↔ ClashingEntry own t waiting
unfolding clash_entry
entries_exactly own t waiting = (
  λ h. let r = any_found (clash_entry own t) waiting h in
      record { entry = r.0; waits = r.1; clashes = (clash_exactly own t r.0.transaction.reads (keys_of r.0.transaction.writes)).0 r.2 },
  λ k. any_member (clash_entry own t) k.entry waiting k.waits
      ((clash_exactly own t k.entry.transaction.reads (keys_of k.entry.transaction.writes)).1 k.clashes),
)

-- Two fates that differ.
abort_same : (r q : ℕ) → abort r ≡ abort q → r ≡ q
abort_same r q h = cc

join_same : (i j : ℕ) → join i ≡ join j → i ≡ j
join_same i j h = cc

abort_join : (r i : ℕ) → abort r ≡ join i → ⊥
abort_join r i h = let z : ◌≡◌ {A = ℕ} 0 1 = cc in omega arith

reason_differs : (r q : ℕ) → (r ≡ q → ⊥) → abort r ≡ abort q → ⊥
reason_differs r q n h = n (abort_same r q h)

-- What the place test says, of 01's lawful places.
placed_join : (c : Clock) (t : Transaction) (waiting : List Entry) (o : Option ℕ) → Least (blocks t) (passes c t) waiting o
    → (i : ℕ) → placed o ≡ join i ↔ Earliest c t waiting i
unfolding placed
placed_join c t waiting none k i =
    (λ h. let z : ◌≡◌ {A = ℕ} 0 1 = cc in absurd (omega arith), λ l. absurd (k i ((lawful_exactly c t waiting i).0 l.lawful)))
placed_join c t waiting (some j) k i = (
  λ h. let e : j ≡ i = cc in
      subst (Earliest c t waiting) e
      (record { lawful = (lawful_exactly c t waiting j).1 k.0; least = λ n l. k.1 n ((lawful_exactly c t waiting n).0 l) }),
  λ l. let up : j ≤ i = k.1 i ((lawful_exactly c t waiting i).0 l.lawful) in
      let down : i ≤ j = l.least j ((lawful_exactly c t waiting j).1 k.0) in
      let e : j ≡ i = omega arith in
      ap join e,
)

placed_abort : (c : Clock) (t : Transaction) (waiting : List Entry) (o : Option ℕ) → Least (blocks t) (passes c t) waiting o
    → placed o ≡ abort 3 ↔ ((i : ℕ) → LawfulPlace c t waiting i → ⊥)
unfolding placed
placed_abort c t waiting none k = (λ h i l. k i ((lawful_exactly c t waiting i).0 l), λ n. refl)
placed_abort c t waiting (some j) k =
    (λ h. let z : ◌≡◌ {A = ℕ} 0 1 = cc in absurd (omega arith), λ n. absurd (n j ((lawful_exactly c t waiting j).1 k.0)))

placed_never : (o : Option ℕ) (reason : ℕ) → reason < 3 → placed o ≡ abort reason → ⊥
unfolding placed
placed_never none reason low h = let e : 3 ≡ reason = cc in omega arith
placed_never (some i) reason low h = let z : ◌≡◌ {A = ℕ} 0 1 = cc in omega arith

module _ (c : Clock) (t : Transaction) (waiting : List Entry) (b : Books) where
  -- The four ways through the numbered rules.
  fate_first : list_any (clash_commit c.own t) (commits_after t.st b) ≡ true → fate c t waiting b ≡ abort 1
  unfolding fate
  fate_first p = rw p

  fate_local : list_any (clash_commit c.own t) (commits_after t.st b) ≡ false → is_local c.own t ≡ true
      → fate c t waiting b ≡ placed (place (blocks t) (passes c t) waiting)
  unfolding fate
  fate_local p q = rw (p, q)

  fate_global : list_any (clash_commit c.own t) (commits_after t.st b) ≡ false → is_local c.own t ≡ false
      → fate c t waiting b ≡ cond (list_any (clash_entry c.own t) waiting) (abort 2) (join (length waiting))
  unfolding fate
  fate_global p q = rw (p, q)

  -- One test after the other: what each fate says of the tests.
  fate_one : fate c t waiting b ≡ abort 1 → list_any (clash_commit c.own t) (commits_after t.st b) ≡ true
  fate_one h =
      split (list_any (clash_commit c.own t) (commits_after t.st b)) (λ p. p)
      (λ p. split (is_local c.own t)
      (λ q. absurd (placed_never (place (blocks t) (passes c t) waiting) 1 (omega arith) (sym (fate_local p q) ∙ h)))
      (λ q. split (list_any (clash_entry c.own t) waiting)
      (λ r. absurd (reason_differs 2 1 (λ e. omega arith) (sym (fate_global p q ∙ rw r) ∙ h)))
      (λ r. absurd (abort_join 1 (length waiting) (sym h ∙ (fate_global p q ∙ rw r))))))

  not_one : (f : Fate) → fate c t waiting b ≡ f → (abort 1 ≡ f → ⊥) → list_any (clash_commit c.own t) (commits_after t.st b) ≡ false
  not_one f h n = split (list_any (clash_commit c.own t) (commits_after t.st b)) (λ p. absurd (n (sym (fate_first p) ∙ h))) (λ p. p)

-- A test that says exactly P is false exactly when P doesn't hold.
not_exactly : {P : Type 0} (x : Bool) → x ≡ true ↔ P → x ≡ false ↔ (P → ⊥)
not_exactly x e = (λ h p. never x (e.1 p) h, λ n. split x (λ q. absurd (n (e.0 q))) (λ q. q))

-- What becomes of a newcomer, in 01's words.
pub record NoPlace (c : Clock) (t : Transaction) (waiting : List Entry) (b : Books) : Type 0 where
  pub unclashed : ClashingCommit c.own t b → ⊥
  pub local : is_local c.own t ≡ true
  pub nowhere : (i : ℕ) → LawfulPlace c t waiting i → ⊥

pub record Entangled (c : Clock) (t : Transaction) (waiting : List Entry) (b : Books) : Type 0 where
  pub unclashed : ClashingCommit c.own t b → ⊥
  pub global : is_local c.own t ≡ false
  pub clashing : ClashingEntry c.own t waiting

-- "takes the smallest place" of a local one; "Else it joins at the end." of a global one
pub record Placed (c : Clock) (t : Transaction) (waiting : List Entry) (b : Books) (i : ℕ) : Type 0 where
  pub unclashed : ClashingCommit c.own t b → ⊥
  pub stands : ((is_local c.own t ≡ true) × Earliest c t waiting i)
      ⊎ ((is_local c.own t ≡ false) × (ClashingEntry c.own t waiting → ⊥) × (length waiting ≡ i))

module _ (c : Clock) (t : Transaction) (waiting : List Entry) (b : Books) where
  -- shorter names for the three tests
  first_test : list_any (clash_commit c.own t) (commits_after t.st b) ≡ false ↔ (ClashingCommit c.own t b → ⊥)
  first_test = not_exactly (list_any (clash_commit c.own t) (commits_after t.st b)) (commits_exactly c.own t b)

  second_test : list_any (clash_entry c.own t) waiting ≡ false ↔ (ClashingEntry c.own t waiting → ⊥)
  second_test = not_exactly (list_any (clash_entry c.own t) waiting) (entries_exactly c.own t waiting)

  the_place : Least (blocks t) (passes c t) waiting (place (blocks t) (passes c t) waiting)
  the_place = place_least (blocks t) (passes c t) waiting

  pub fate_one_exactly : fate c t waiting b ≡ abort 1 ↔ ClashingCommit c.own t b
  fate_one_exactly =
      (λ h. (commits_exactly c.own t b).0 (fate_one c t waiting b h), λ k. fate_first c t waiting b ((commits_exactly c.own t b).1 k))

  pub fate_two_exactly : fate c t waiting b ≡ abort 2 ↔ Entangled c t waiting b
  fate_two_exactly = (
    λ h. let p = not_one c t waiting b (abort 2) h (reason_differs 1 2 (λ e. omega arith)) in
        split (is_local c.own t)
        (λ q. absurd (placed_never (place (blocks t) (passes c t) waiting) 2 (omega arith) (sym (fate_local c t waiting b p q) ∙ h)))
        (λ q. split (list_any (clash_entry c.own t) waiting)
        (λ r. record { unclashed = first_test.0 p; global = q; clashing = (entries_exactly c.own t waiting).0 r })
        (λ r. absurd (abort_join 2 (length waiting) (sym h ∙ (fate_global c t waiting b p q ∙ rw r))))),
    λ k. fate_global c t waiting b (first_test.1 k.unclashed) k.global
        ∙ rw ((entries_exactly c.own t waiting).1 k.clashing),
  )

  pub fate_three_exactly : fate c t waiting b ≡ abort 3 ↔ NoPlace c t waiting b
  fate_three_exactly = (
    λ h. let p = not_one c t waiting b (abort 3) h (reason_differs 1 3 (λ e. omega arith)) in
        split (is_local c.own t)
        (λ q. record {
          unclashed = first_test.0 p;
          local = q;
          nowhere = (placed_abort c t waiting (place (blocks t) (passes c t) waiting) the_place).0 (sym (fate_local c t waiting b p q) ∙ h);
        })
        (λ q. split (list_any (clash_entry c.own t) waiting)
        (λ r. absurd (reason_differs 2 3 (λ e. omega arith) (sym (fate_global c t waiting b p q ∙ rw r) ∙ h)))
        (λ r. absurd (abort_join 3 (length waiting) (sym h ∙ (fate_global c t waiting b p q ∙ rw r))))),
    λ k. fate_local c t waiting b (first_test.1 k.unclashed) k.local
        ∙ (placed_abort c t waiting (place (blocks t) (passes c t) waiting) the_place).1 k.nowhere,
  )

  pub fate_join_exactly : (i : ℕ) → fate c t waiting b ≡ join i ↔ Placed c t waiting b i
  fate_join_exactly i = (
    λ h. let p = not_one c t waiting b (join i) h (abort_join 1 i) in
        split (is_local c.own t)
        (λ q. record {
          unclashed = first_test.0 p;
          stands = inl (q, (placed_join c t waiting (place (blocks t) (passes c t) waiting) the_place i).0 (sym (fate_local c t waiting b p q) ∙ h));
        })
        (λ q. split (list_any (clash_entry c.own t) waiting)
        (λ r. absurd (abort_join 2 i (sym (fate_global c t waiting b p q ∙ rw r) ∙ h)))
        (λ r. record {
          unclashed = first_test.0 p;
          stands = inr (q, second_test.0 r, join_same (length waiting) i (sym (fate_global c t waiting b p q ∙ rw r) ∙ h));
        })),
    λ k. ⊎_elim
        (λ l. fate_local c t waiting b (first_test.1 k.unclashed) l.0
        ∙ (placed_join c t waiting (place (blocks t) (passes c t) waiting) the_place i).1 l.1)
        (λ l. fate_global c t waiting b (first_test.1 k.unclashed) l.0 ∙ (rw (second_test.1 l.1) (ap join l.2)))
        k.stands,
  )
