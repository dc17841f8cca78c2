-- The place: over any two tests it is the least lawful one, and there is none exactly when no place is lawful. Then the same in 01's own words.
use Rattle.std.specs.Prelude.{ℕ, zero, suc, ◌≤◌, Bool, true, false, not, ◌&&◌, ◌↔◌, ◌≡◌, leb, length, take, drop}
use Rattle.std.specs.List.{list_any, list_all}
use Rattle.std.proofs.Common.{zero-le, suc-le-suc, leb-true, le-leb, le_of_suc-le-suc}
use mathlib.Core.List.{List, [], ◌∷◌, Memᴰ}
use Rattle.std.proofs.Math.Option.{Option, none, some, map}
use Rattle.std.proofs.Math.Path.{refl}
use Rattle.std.proofs.lemmas.Bool.{not-true}
use Rattle.rules.specs.Keys.{meet}
use Rattle.rules.specs.Ledger.{Transaction, Entry, Clock, keys_of, is_local}
use Rattle.rules.specs.Place.{place}
use Rattle.rules.specs.Delivery.{blocks, passes}
use Rattle.laws.specs.Tests.{split, never, and_left, and_right, and_both, or_left, or_right, or_neither}
use Rattle.laws.specs.Members.{any_none, any_nowhere, all_member, all_everywhere, Apart, apart_exactly}

-- A place is lawful when no entry before it blocks, and every entry from it on may be passed.
pub record Lawful {A : Type 0} (block pass : A → Bool) (es : List A) (i : ℕ) : Type 0 where
  pub within : i ≤ length es
  pub before : list_any block (take i es) ≡ false
  pub behind : list_all pass (drop i es) ≡ true

-- What the place must be: the least lawful one, or none where none is lawful.
abbrev pub Least : {A : Type 0} (block pass : A → Bool) (es : List A) → Option ℕ → Type 0
Least block pass es none = (j : ℕ) → Lawful block pass es j → ⊥
Least block pass es (some i) = Lawful block pass es i × ((j : ℕ) → Lawful block pass es j → i ≤ j)

module _ {A : Type 0} (block pass : A → Bool) where
  -- the first place, where all may be passed
  least_first : (es : List A) → list_all pass es ≡ true → Least block pass es (some 0)
  least_first es h = (record { within = zero-le; before = refl; behind = h }, λ j l. zero-le)

  -- no place, where the head may neither be passed with all behind it nor stood behind
  not_first : (es : List A) → list_all pass es ≡ false → Lawful block pass es 0 → ⊥
  not_first es h l = never (list_all pass es) l.behind h

  none_lawful : (e : A) (es : List A) → list_all pass (e ∷ es) ≡ false → block e ≡ true → Least block pass (e ∷ es) none
  none_lawful e es h q zero l = not_first (e ∷ es) h l
  none_lawful e es h q (suc j) l = never (block e) q (or_left (block e) (list_any block (take j es)) l.before)

  -- one place further, behind a head that doesn't block
  lawful_behind : (e : A) (es : List A) (i : ℕ) → block e ≡ false → Lawful block pass es i → Lawful block pass (e ∷ es) (suc i)
  lawful_behind e es i q l =
      record { within = suc-le-suc l.within; before = or_neither (block e) (list_any block (take i es)) q l.before; behind = l.behind }

  lawful_rest : (e : A) (es : List A) (i : ℕ) → Lawful block pass (e ∷ es) (suc i) → Lawful block pass es i
  lawful_rest e es i l =
      record {
        within = le_of_suc-le-suc l.within;
        before = or_right (block e) (list_any block (take i es)) l.before;
        behind = l.behind;
      }

  least_behind : (e : A) (es : List A) → list_all pass (e ∷ es) ≡ false → block e ≡ false → (o : Option ℕ)
      → Least block pass es o → Least block pass (e ∷ es) (map suc o)
  least_behind e es h q none k =
      elim [ zero ↦ λ l. not_first (e ∷ es) h l | suc j ↦ λ l. k j (lawful_rest e es j l) ]
  least_behind e es h q (some i) k = (
    lawful_behind e es i q k.0,
    elim [ zero ↦ λ l. absurd (not_first (e ∷ es) h l) | suc j ↦ λ l. suc-le-suc (k.1 j (lawful_rest e es j l)) ],
  )

  pub place_least : (es : List A) → Least block pass es (place block pass es)
  unfolding place
  place_least [] = least_first [] refl
  place_least (e ∷ es) =
      split (list_all pass (e ∷ es)) (λ p. rw p (least_first (e ∷ es) p))
      (λ p. split (block e) (λ q. rw (p, q) (none_lawful e es p q)) (λ q. rw (p, q) (least_behind e es p q (place block pass es) (place_least es))))

-- "no entry before i writes a key it reads, and every entry from i on is global, has DC <= rt, and has read no key that it writes", with i "from 0 to the
-- list's length". The clock is the risen one.
pub record LawfulPlace (c : Clock) (t : Transaction) (waiting : List Entry) (i : ℕ) : Type 0 where
  pub within : i ≤ length waiting
  pub before : (e : Entry) → Memᴰ e (take i waiting) → Apart t.reads (keys_of e.transaction.writes)
  pub global : (e : Entry) → Memᴰ e (drop i waiting) → is_local c.own e.transaction ≡ false
  pub in_time : (e : Entry) → Memᴰ e (drop i waiting) → c.dc ≤ e.rt
  pub unread : (e : Entry) → Memᴰ e (drop i waiting) → Apart e.transaction.reads (keys_of t.writes)

-- What passing asks of one entry.
passes_exactly : (c : Clock) (t : Transaction) (e : Entry) → passes c t e ≡ true
    ↔ ((is_local c.own e.transaction ≡ false) × (c.dc ≤ e.rt) × Apart e.transaction.reads (keys_of t.writes))
unfolding passes
passes_exactly c t e =
    let l = is_local c.own e.transaction in
    let d = leb c.dc e.rt in
    let m = meet e.transaction.reads (keys_of t.writes) in (
      λ h. let g = and_left (not l && d) (not m) h in (
        not-true l (and_left (not l) d g),
        leb-true c.dc e.rt (and_right (not l) d g),
        (apart_exactly e.transaction.reads (keys_of t.writes)).0 (not-true m (and_right (not l && d) (not m) h)),
      ),
      λ h. and_both (not l && d) (not m) (and_both (not l) d (rw h.0) (le-leb c.dc e.rt h.1))
          (rw ((apart_exactly e.transaction.reads (keys_of t.writes)).1 h.2)),
    )

pub lawful_exactly : (c : Clock) (t : Transaction) (waiting : List Entry) (i : ℕ)
    → LawfulPlace c t waiting i ↔ Lawful (blocks t) (passes c t) waiting i
unfolding blocks
lawful_exactly c t waiting i = (
  λ l. record {
    within = l.within;
    before = any_nowhere (blocks t) (take i waiting) (λ e m. (apart_exactly t.reads (keys_of e.transaction.writes)).1 (l.before e m));
    behind = all_everywhere (passes c t) (drop i waiting)
        (λ e m. (passes_exactly c t e).1 (l.global e m, l.in_time e m, l.unread e m));
  },
  λ l. let behind : (e : Entry) → Memᴰ e (drop i waiting) → passes c t e ≡ true = all_member (passes c t) (drop i waiting) l.behind in
      record {
        within = l.within;
        before = λ e m. (apart_exactly t.reads (keys_of e.transaction.writes)).0 (any_none (blocks t) (take i waiting) l.before e m);
        global = λ e m. ((passes_exactly c t e).0 (behind e m)).0;
        in_time = λ e m. ((passes_exactly c t e).0 (behind e m)).1;
        unread = λ e m. ((passes_exactly c t e).0 (behind e m)).2;
      },
)
