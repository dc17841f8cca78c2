-- The library's walk from the back over the numbers below n, by a closure that asks of what a function gives at each: it stops at the last value that fails a test.
-- The place behind that one is the place reached, or the first place where none fails.
use Rattle.std.specs.Prelude.{ℕ, zero, suc, ◌+◌, ◌-◌, ◌≤◌, ◌<◌, Bool, true, false, not, ◌&&◌, List, [], ◌∷◌, ◌≡◌, refl, ltb, length, drop, Option, Some, None, MatchOption}
use Rattle.std.specs.declared.ops.Range.{Range}
use Rattle.std.specs.List.{FoldsTo, list_all}
use Rattle.std.specs.Fn.{Called}
use Rattle.std.specs.Option.{is_some, IsSomeAnd}
use Rattle.std.specs.Iterator.{Yields, FindsPositionBack}
use Rattle.std.proofs.Common.{true≢false, sym, subst, ap, ◌∙◌, arith, drop-cons}
use Rattle.std.proofs.lemmas.Bool.{not-true, not-false}
use Rattle.std.proofs.iter.runs.Sources.{nat_range_steps_back}
use denote.Param.Members.{Mut}
use borrow.Author.Tests.{ltb-true, ltb-false}
use Rattle.laws.specs.Tests.{split, and_both}
use Rattle.laws.specs.Walks.{below}
use Rattle.laws.specs.Tabs.{tab, length_tab, get_or_tab, drop_tab}
use Rattle.certifying.specs.Places.{Reached}

module _ {A : Type 0} (pass : A → Bool) where
  all_pass : (n : ℕ) (f : ℕ → A) → ((j : ℕ) → j < n → pass (f j) ≡ true) → list_all pass (tab n f) ≡ true
  unfolding tab
  all_pass zero f h = refl
  all_pass (suc n) f h =
      and_both (pass (f 0)) (list_all pass (tab n (λ j. f (suc j)))) (h 0 (omega arith)) (all_pass n (λ j. f (suc j)) (λ j low. h (suc j) (omega arith)))

  module _ (f : ℕ → A) (n : ℕ) where
    pass_behind : (i : ℕ) → ((j : ℕ) → j < n → i ≤ j → pass (f j) ≡ true) → list_all pass (drop i (tab n f)) ≡ true
    pass_behind i h = ap (list_all pass) (drop_tab i n f) ∙ all_pass (n - i) (λ j. f (i + j)) (λ j low. h (i + j) (omega arith) (omega arith))

    fails_from : (i : ℕ) → i < n → pass (f i) ≡ false → list_all pass (drop i (tab n f)) ≡ false
    fails_from i low h =
        ap (list_all pass) (drop-cons (tab n f) i (f 0) (rw (length_tab n f) low))
        ∙ ap (λ (b : Bool). b && list_all pass (drop (suc i) (tab n f))) (ap pass (get_or_tab n f i (f 0) low) ∙ h)

    -- Every value from the ith on passes, and the one in front of them, if there is one, doesn't.
    stops_at : (i : ℕ) → i ≤ n → ((j : ℕ) → j < n → i ≤ j → pass (f j) ≡ true) → ((j : ℕ) → suc j ≡ i → pass (f j) ≡ false) → Reached pass (tab n f) i
    stops_at i low passes fails =
        record {
          within = omega (arith, length_tab n f);
          behind = pass_behind i passes;
          stopped = λ j e. fails_from j (omega arith) (fails j e);
        }

-- The library's search from the back, by a closure that answers whether the value at a number fails.
module _ {A F : Type 0} {g : Mut F (ℕ × Unit {0}) Bool} (pass : A → Bool) (f : ℕ → A) (asked : F)
    (says : (x : ℕ) (b : Bool) (q : F) → Called g asked (x, tt) b q → (q ≡ asked) × (b ≡ not (pass (f x)))) where
  -- The numbers that came stood from t's end on, and each passes.
  abbrev Came : List ℕ → Range ℕ → Range ℕ → F → Type 0
  Came xs s t q = (q ≡ asked) × (t.start ≡ s.start) × (t.end + length xs ≡ s.end) × ((j : ℕ) → j < s.end → t.end ≤ j → pass (f j) ≡ true)

  came : (xs : List ℕ) (s t : Range ℕ) (q : F) → Yields nat_range_steps_back s xs t → FoldsTo (λ p x r. Called g p (x, tt) false r) asked xs q → Came xs s t q
  came [] s t q y c =
      let same = ap (λ (r : Range ℕ). r.end) y in
      (sym c, ap (λ (r : Range ℕ). r.start) (sym y), omega arith, λ j low high. absurd (omega arith))
  came (x ∷ xs) s t q y c =
      let answer = says x false c.0 c.1 in
      let rest = came xs y.0 t q y.2 (subst (λ k. FoldsTo (λ p z r. Called g p (z, tt) false r) k xs q) answer.0 c.2) in (
        rest.0,
        rest.1 ∙ y.1.0,
        omega (arith, rest.2, y.1.1.2),
        λ j low high.
            split (ltb j y.0.end)
            (λ e. rest.3 j (ltb-true j y.0.end e) high)
            (λ e. let least = ltb-false j y.0.end e in
            let here : j ≡ x = omega (arith, y.1.1.1, y.1.1.2) in
            rw here (not-false (pass (f x)) (sym answer.1))),
      )

  -- What is found: the last number whose value fails, or none.
  abbrev Last : ℕ → Option ℕ → Type 0
  Last n found = MatchOption found ((j : ℕ) → j < n → pass (f j) ≡ true)
      (λ i. (i < n) × (pass (f i) ≡ false) × ((j : ℕ) → j < n → i + 1 ≤ j → pass (f j) ≡ true))

  last : (n : ℕ) (xs : List ℕ) (t u : Range ℕ) (q : F) (next found : Option ℕ) → Came xs (below n) t q → nat_range_steps_back t next u
      → MatchOption next (found ≡ None) (λ x. IsSomeAnd found (λ i. i + 1 + length xs ≡ n - 0) × ((h : F) × Called g q (x, tt) true h)) → Last n found
  last n xs t u q None None c p m = λ j low. c.3 j low (omega (arith, c.1, p.1.0))
  last n xs t u q None (Some i) c p m = absurd (true≢false (ap is_some m))
  last n xs t u q (Some x) None c p m = absurd m.0
  last n xs t u q (Some x) (Some i) c p m =
      let here : x ≡ i = omega (arith, m.0, c.2, p.1.1, p.1.2) in
      let answer = says x true m.1.0 (subst (λ k. Called g k (x, tt) true m.1.0) c.0 m.1.1) in (
        omega (arith, m.0),
        subst (λ k. pass (f k) ≡ false) here (not-true (pass (f x)) (sym answer.1)),
        λ j low high. c.3 j low (omega (arith, p.1.1, p.1.2)),
      )

  placed : (n : ℕ) (found : Option ℕ) (place : ℕ) → Last n found → MatchOption found (place ≡ 0) (λ i. place ≡ i + 1) → Reached pass (tab n f) place
  placed n None place l m = stops_at pass f n place (omega arith) (λ j low high. l j low) (λ j e. absurd (omega arith))
  placed n (Some i) place l m =
      stops_at pass f n place (omega (arith, l.0)) (λ j low high. l.2 j low (omega arith))
      (λ j e. let here : i ≡ j = omega arith in subst (λ k. pass (f k) ≡ false) here l.1)

  -- The place behind what is found, or else the first, is the one reached.
  pub reached_back : (n : ℕ) (u : Range ℕ) (found : Option ℕ) (place : ℕ) → FindsPositionBack nat_range_steps_back g (below n) asked (n - 0) found u
      → MatchOption found (place ≡ 0) (λ i. place ≡ i + 1) → Reached pass (tab n f) place
  reached_back n u found place d m =
      placed n found place (last n d.0 d.3.0 u d.2 d.1 found (came d.0 (below n) d.3.0 d.2 d.3.1 d.4) d.3.2 d.5) m
