-- The clash in 01's words: which key is shared, and which commits of which versions are looked at.
use Rattle.std.specs.Prelude.{ℕ, zero, suc, ◌+◌, ◌-◌, ◌<◌, Bool, true, false, not, ◌&&◌, List, [], ◌∷◌, ◌++◌, ◌↔◌, ◌⊎◌, ◌≡◌, refl, length, take}
use Rattle.std.specs.List.{list_any}
use Rattle.std.proofs.Common.{zero-le, suc-le-suc, inl, inr, ⊎_elim, ap, le_of_suc-le-suc, not-suc-le-zero, arith}
use Rattle.std.proofs.lemmas.Bool.{not-true}
use Rattle.rules.specs.Keys.{meet}
use Rattle.rules.specs.Ledger.{Transaction, Commit, Books, keys_of, is_local}
use Rattle.rules.specs.Delivery.{clash, clash_commit, commits_after}
use Rattle.laws.specs.Tests.{never, and_left, and_right, and_both, or_cases, or_first, or_second}
use Rattle.laws.specs.Members.{Common, meet_exactly}

-- "Clash: it read a key that the commit wrote; for a global one also, it writes a key that the commit read."
abbrev pub Clash : ℕ → Transaction → List ℕ → List ℕ → Type 0
Clash own t read written = Common t.reads written ⊎ ((is_local own t ≡ false) × Common (keys_of t.writes) read)

pub clash_exactly : (own : ℕ) (t : Transaction) (read written : List ℕ) → clash own t read written ≡ true ↔ Clash own t read written
unfolding clash
clash_exactly own t read written =
    let reads = meet t.reads written in
    let writes = meet (keys_of t.writes) read in
    let l = is_local own t in (
      λ h. ⊎_elim (λ q. inl ((meet_exactly t.reads written).0 q))
          (λ q. inr (not-true l (and_left (not l) writes q), (meet_exactly (keys_of t.writes) read).0 (and_right (not l) writes q)))
          (or_cases reads (not l && writes) h),
      ⊎_elim (λ c. or_first reads (not l && writes) ((meet_exactly t.reads written).1 c))
          (λ c. or_second reads (not l && writes) (and_both (not l) writes (rw c.0) ((meet_exactly (keys_of t.writes) read).1 c.1))),
    )

-- An element that stands at a place below n of a list.
pub record Below {A : Type 0} (xs : List A) (n : ℕ) (x : A) : Type 0 where
  pub newer : List A
  pub older : List A
  pub stands : xs ≡ newer ++ x ∷ older
  pub low : length newer < n

module _ {A : Type 0} (f : A → Bool) where
  pub any_take_found : (n : ℕ) (xs : List A) → list_any f (take n xs) ≡ true → (x : A) × Below xs n x × (f x ≡ true)
  any_take_found zero xs h = never false h refl
  any_take_found (suc n) [] h = never false h refl
  any_take_found (suc n) (x ∷ xs) h =
      ⊎_elim (λ q. (x, record { newer = []; older = xs; stands = refl; low = suc-le-suc zero-le }, q))
      (λ q. let r = any_take_found n xs q in
      (r.0, record { newer = x ∷ r.1.newer; older = r.1.older; stands = ap (λ (l : List A). x ∷ l) r.1.stands; low = suc-le-suc r.1.low }, r.2))
      (or_cases (f x) (list_any f (take n xs)) h)

  pub any_take_at : (n : ℕ) (newer older : List A) (x : A) → length newer < n → f x ≡ true → list_any f (take n (newer ++ x ∷ older)) ≡ true
  any_take_at zero newer older x low h = absurd (not-suc-le-zero low)
  any_take_at (suc n) [] older x low h = or_first (f x) (list_any f (take n older)) h
  any_take_at (suc n) (y ∷ newer) older x low h =
      or_second (f y) (list_any f (take n (newer ++ x ∷ older))) (any_take_at n newer older x (le_of_suc-le-suc low) h)

-- The kept commit of a version: the newest has version SC, each older one a version less.
pub record VersionOf (b : Books) (v : ℕ) (c : Commit) : Type 0 where
  pub newer : List Commit
  pub older : List Commit
  pub stands : b.kept ≡ newer ++ c ∷ older
  pub counted : length newer + v ≡ b.sc

-- "each commit of version st+1 to SC"
pub record ClashingCommit (own : ℕ) (t : Transaction) (b : Books) : Type 0 where
  pub version : ℕ
  pub commit : Commit
  pub is : VersionOf b version commit
  pub after_snapshot : t.st < version
  pub clashes : Clash own t commit.reads (keys_of commit.writes)

pub commits_exactly : (own : ℕ) (t : Transaction) (b : Books)
    → list_any (clash_commit own t) (commits_after t.st b) ≡ true ↔ ClashingCommit own t b
unfolding commits_after clash_commit
commits_exactly own t b = (
  λ h. let r = any_take_found (clash_commit own t) (b.sc - t.st) b.kept h in
      let low : length r.1.newer < b.sc - t.st = r.1.low in
      record {
        version = b.sc - length r.1.newer;
        commit = r.0;
        is = record { newer = r.1.newer; older = r.1.older; stands = r.1.stands; counted = omega arith };
        after_snapshot = omega arith;
        clashes = (clash_exactly own t r.0.reads (keys_of r.0.writes)).0 r.2;
      },
  λ k. let counted = k.is.counted in
      let after = k.after_snapshot in
      rw k.is.stands
      (any_take_at (clash_commit own t) (b.sc - t.st) k.is.newer k.is.older k.commit (omega arith)
      ((clash_exactly own t k.commit.reads (keys_of k.commit.writes)).1 k.clashes)),
)
