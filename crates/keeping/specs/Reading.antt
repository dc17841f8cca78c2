-- The value of a key at a snapshot, looked for from the snapshot's version down to the floor: the rule's newest value among the commits from there on.
use Prim.Native.Nat.{ℕ, suc, ◌+◌, ◌-◌, ◌≤◌, ◌<◌, min}
use mathlib.Core.List.{List, ◌∷◌}
use Rattle.std.specs.Prelude.{◌≡◌, ℤ, pos, Some, None}
use Rattle.std.proofs.Common.{sym, ap₂, ◌∙◌}
use Rattle.std.proofs.Math.Path.{ap}
use native.Mathlib.Omega.{arith}
use Rattle.std.proofs.Math.ListN.{get_or}
use Rattle.std.proofs.Math.Option.{get_or as else_value}
use Rattle.rules.specs.Sizes.{keys, most_kept, floor}
use Rattle.rules.specs.Ledger.{Commit}
use Rattle.rules.specs.Read.{put_at, newest_value, read_at}
use Rattle.laws.specs.Cuts.{cut, get_or_cut}
use Rattle.laws.specs.Tabs.{tab, tab_as, tab_same, drop_tab}
use Rattle.laws.specs.Options.{given, given_some, given_none}
use Rattle.tables.specs.View.{commit_at, kept_view, values_view, books_view}

-- The newest value among the versions v, v - 1, .. above the lowest.
unfoldable pub newest_down : List ℕ → List ℤ → ℕ → ℕ → ℕ → ℤ
newest_down book sums key lowest v = newest_value key (tab (v - lowest) (λ j. commit_at book sums (v - j))) (values_view sums)

-- No version above v and at most st writes the key.
pub record Reading (book : List ℕ) (sums : List ℤ) (sc key st lowest v : ℕ) : Type 0 where
  pub most : v ≤ st
  pub is_floor : lowest ≡ floor sc
  pub same : read_at key st (books_view sc book sums) ≡ newest_down book sums key lowest v

module _ (book : List ℕ) (sums : List ℤ) (key : ℕ) where
  -- what the newest of them put, or the newest among the others
  newest_first : (lowest v : ℕ) → lowest < v
      → newest_down book sums key lowest v ≡ else_value (put_at key (commit_at book sums v).writes) (newest_down book sums key lowest (v - 1))
  unfolding newest_down newest_value tab
  newest_first lowest v more =
      let count : v - lowest ≡ suc (v - 1 - lowest) = omega arith in
      let first : v - 0 ≡ v = omega arith in
      let next : (j : ℕ) → v - suc j ≡ v - 1 - j = λ j. omega arith in
      ap (λ (n : ℕ). newest_value key (tab n (λ j. commit_at book sums (v - j))) (values_view sums)) count
      ∙ ap₂ (λ (c : Commit) (cs : List Commit). newest_value key (c ∷ cs) (values_view sums)) (ap (commit_at book sums) first)
      (tab_same (v - 1 - lowest) (λ j. commit_at book sums (v - suc j)) (λ j. commit_at book sums (v - 1 - j))
      (λ j low. ap (commit_at book sums) (next j)))

  newest_none : (lowest v : ℕ) → v ≤ lowest → key < keys → newest_down book sums key lowest v ≡ get_or sums key (pos 0)
  unfolding newest_down newest_value tab values_view
  newest_none lowest v none_left low =
      let count : v - lowest ≡ 0 = omega arith in
      let place : 0 + key ≡ key = omega arith in
      ap (λ (n : ℕ). newest_value key (tab n (λ j. commit_at book sums (v - j))) (cut 0 keys sums)) count
      ∙ (get_or_cut 0 keys sums key (pos 0) low ∙ ap (λ (k : ℕ). get_or sums k (pos 0)) place)

  pub read_start : (sc st lowest : ℕ) → lowest ≡ floor sc → st ≤ sc → sc ≤ st + 64 → Reading book sums sc key st lowest st
  unfolding newest_down read_at books_view kept_view
  read_start sc st lowest e low near =
      record {
        most = omega arith;
        is_floor = e;
        same =
            ap (λ (cs : List Commit). newest_value key cs (values_view sums))
            (drop_tab (sc - st) (min sc most_kept) (λ j. commit_at book sums (sc - j))
            ∙ tab_as (min sc most_kept - (sc - st)) (st - lowest) (λ j. commit_at book sums (sc - (sc - st + j))) (λ j. commit_at book sums (st - j))
            (omega arith) (λ j. ap (commit_at book sums) (omega arith)));
      }

module _ {book : List ℕ} {sums : List ℤ} {sc key st lowest v : ℕ} (kept : Reading book sums sc key st lowest v) where
  -- version v wrote the key
  pub read_hit : {x : ℤ} → lowest < v → Some x ≡ given (put_at key (commit_at book sums v).writes) → x ≡ read_at key st (books_view sc book sums)
  read_hit {x} more wrote =
      let found = given_some (put_at key (commit_at book sums v).writes) x wrote in
      sym (kept.same ∙ (newest_first book sums key lowest v more ∙ rw found))

  -- and did not
  pub read_miss : lowest < v → None ≡ given (put_at key (commit_at book sums v).writes) → Reading book sums sc key st lowest (v - 1)
  read_miss more wrote =
      let most = kept.most in
      let missing = given_none (put_at key (commit_at book sums v).writes) wrote in
      record {
        most = omega arith;
        is_floor = kept.is_floor;
        same = kept.same ∙ (newest_first book sums key lowest v more ∙ rw missing);
      }

  pub read_end : v ≤ lowest → key < keys → get_or sums key (pos 0) ≡ read_at key st (books_view sc book sums)
  read_end all low = sym (kept.same ∙ newest_none book sums key lowest v all low)
