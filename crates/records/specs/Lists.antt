-- A list read item by item, from the left: every item is read, and the first nine are kept.
use Rattle.std.specs.Prelude.{ℕ, zero, suc, ◌+◌, ◌-◌, ◌≤◌, ◌<◌, true, false, cond, List, [], ◌∷◌, ◌++◌, ◌≡◌, refl, ltb, length, take, drop}
use Rattle.std.proofs.Common.{sym, ap, ◌∙◌, arith, lt-ltb, le-ltb, ltb-true, ltb-false, append_assoc, append-nil, length-drop, take_all}
use Rattle.std.proofs.lemmas.List.{length-take}
use Rattle.std.proofs.Math.Option.{Option, none, some, bind}
use Rattle.rules.specs.Bytes.{split, comma}
use Rattle.rules.specs.Records.{each_part, is_dash, list_of}
use Rattle.laws.specs.Tests as tests
use Rattle.numerals.specs.Parts.{until, split_at_find, split_no_find}
use Rattle.records.specs.Short.{items_kept}

-- The parts from a place on. There are none behind the last one's end.
unfoldable pub parts_from : ℕ → List ℕ → List (List ℕ)
parts_from from s = cond (ltb (length s) from) [] (split comma (drop from s))

pub parts_start : (s : List ℕ) → parts_from 0 s ≡ split comma s
unfolding parts_from
parts_start s = rw (le-ltb (length s) 0 (omega arith))

pub parts_end : (s : List ℕ) (from : ℕ) → length s < from → parts_from from s ≡ []
unfolding parts_from
parts_end s from h = rw (lt-ltb (length s) from h)

pub parts_here : (s : List ℕ) (from e : ℕ) → from ≤ length s → (e ≡ from + until comma (drop from s)) × (e ≤ length s)
    → parts_from from s ≡ take (e - from) (drop from s) ∷ parts_from (e + 1) s
unfolding parts_from
parts_here s from e h f =
    tests.split (ltb e (length s))
    (λ q. let l = ltb-true e (length s) q in
    rw (le-ltb (length s) from h, le-ltb (length s) (e + 1) (omega arith), split_at_find comma s from e f.0 l))
    (λ q. let l = ltb-false e (length s) q in let long = length-drop from s in
    rw (le-ltb (length s) from h, lt-ltb (length s) (e + 1) (omega arith), split_no_find comma s from e f.0 l, take_all (e - from) (drop from s) (omega arith)))

take_front : {A : Type 0} (n : ℕ) (l more : List A) → take n (take n l ++ more) ≡ take n (l ++ more)
take_front zero l more = refl
take_front (suc n) [] more = refl
take_front {A} (suc n) (x ∷ l) more = ap (λ (k : List A). x ∷ k) (take_front n l more)

module _ {A : Type 0} where
  -- The first nine items.
  abbrev pub short_list : Option (List A) → Option (List A)
  short_list none = none
  short_list (some xs) = some (take items_kept xs)

  -- What was kept, and then what is to come, or nothing if that can't be read.
  abbrev pub onto : List A → Option (List A) → Option (List A)
  onto kept none = none
  onto kept (some xs) = some (take items_kept (kept ++ xs))

  onto_nothing : (o : Option (List A)) → short_list o ≡ onto [] o
  onto_nothing none = refl
  onto_nothing (some xs) = refl

  onto_one : (kept : List A) (x : A) (o : Option (List A)) → onto kept (bind o (λ xs. some (x ∷ xs))) ≡ onto (take items_kept (kept ++ x ∷ [])) o
  unfolding bind
  onto_one kept x none = refl
  onto_one kept x (some xs) =
      ap some (ap (take items_kept) (sym (append_assoc kept (x ∷ []) xs)) ∙ sym (take_front items_kept (kept ++ x ∷ []) xs))

-- A list's readers: the loop stands at a place and has kept these items.
module _ {A : Type 0} where
  pub record Keeping (f : List ℕ → Option A) (s : List ℕ) (kept : List A) (from : ℕ) : Type 0 where
    pub few : length kept ≤ items_kept
    pub same : short_list (each_part f (split comma s)) ≡ onto kept (each_part f (parts_from from s))

  pub keeping_start : (f : List ℕ → Option A) (s : List ℕ) (kept : List A) → kept ≡ [] → Keeping f s kept 0
  keeping_start f s kept e =
      record {
        few = rw e (omega arith);
        same = rw (e, parts_start s) (onto_nothing (each_part f (split comma s)));
      }

  pub keeping_end : (f : List ℕ → Option A) (s : List ℕ) (kept : List A) (from : ℕ) → Keeping f s kept from → length s < from
      → short_list (each_part f (split comma s)) ≡ some kept
  unfolding each_part
  keeping_end f s kept from k h =
      let few = k.few in
      k.same ∙ rw (parts_end s from h, append-nil kept, take_all items_kept kept few)

  module _ (f : List ℕ → Option A) (s : List ℕ) (kept : List A) (from e : ℕ) (k : Keeping f s kept from) (h : from ≤ length s)
      (end : (e ≡ from + until comma (drop from s)) × (e ≤ length s)) where
    here : short_list (each_part f (split comma s)) ≡ onto kept (each_part f (take (e - from) (drop from s) ∷ parts_from (e + 1) s))
    here = k.same ∙ ap (λ (parts : List (List ℕ)). onto kept (each_part f parts)) (parts_here s from e h end)

    -- an item that is read; one that can't be
    pub keeping_step : (x : A) (kept_now : List A) → some x ≡ f (take (e - from) (drop from s)) → kept_now ≡ take items_kept (kept ++ x ∷ [])
        → Keeping f s kept_now (e + 1)
    unfolding each_part bind
    keeping_step x kept_now read now =
        record {
          few = rw now (omega (arith, length-take items_kept (kept ++ x ∷ [])));
          same = here ∙ rw (sym read, now) (onto_one kept x (each_part f (parts_from (e + 1) s)));
        }

    pub keeping_stops : none ≡ f (take (e - from) (drop from s)) → short_list (each_part f (split comma s)) ≡ none
    unfolding each_part bind
    keeping_stops read = here ∙ rw (sym read)

  -- "`-` for an empty list"
  pub list_dash : (f : List ℕ → Option A) (s : List ℕ) → is_dash s ≡ true → short_list (list_of f s) ≡ some []
  unfolding list_of
  list_dash f s h = rw h

  pub list_parts : (f : List ℕ → Option A) (s : List ℕ) → is_dash s ≡ false → short_list (list_of f s) ≡ short_list (each_part f (split comma s))
  unfolding list_of
  list_parts f s h = rw h

-- What the list readers go by.
pub ruleset keeping = (keeping_start, keeping_end, keeping_step, keeping_stops)

pub ruleset lists = (list_dash, list_parts)
