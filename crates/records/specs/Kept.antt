-- The items that are kept of a list, and what one more makes of them.
use Rattle.std.specs.Prelude.{ℕ, suc, ◌+◌, ◌≤◌, ◌<◌, List, [], ◌∷◌, ◌++◌, ◌≡◌, refl, ℤ, pos, Some, None, length, get_or, set, take}
use Rattle.std.specs.declared.option.Option as code
use Rattle.std.proofs.Common.{sym, ap, ap₂, ◌∙◌, arith, length-append, take_at, to_z-of_z}
use Rattle.std.proofs.Math.ListN.{get_or-append}
use Rattle.std.proofs.Math.Option.{Option, none, some}
use Rattle.std.proofs.Math.Seq.{length-take-le, take-suc-set, take_all, get_or-append_seam}
use Rattle.rules.specs.Ledger.{Write}
use Rattle.laws.specs.Tabs.{tab, tab_as, tab_suc, tab_same, length_tab}
use Rattle.tables.specs.NewRow.{writes_of}
use Rattle.records.specs.declared.items.Keys.{Keys}
use Rattle.records.specs.declared.items.Writes.{Writes}
use Rattle.records.specs.declared.items.Write as code_write
use Rattle.records.specs.Short.{items_kept}

abbrev pub kept_keys : Keys → List ℕ
kept_keys k = take k.count k.items

abbrev pub kept_writes : Writes → List Write
kept_writes w = writes_of (take w.count w.keys) (take w.count w.amounts)

abbrev pub one_write : code_write.Write → Write
one_write w = record { key = w.key; value = w.amount }

-- Nothing, or what was read.
abbrev pub keys_said : code.Option Keys → Option (List ℕ)
keys_said None = none
keys_said (Some k) = some (kept_keys k)

abbrev pub writes_said : code.Option Writes → Option (List Write)
writes_said None = none
writes_said (Some w) = some (kept_writes w)

abbrev pub write_said : code.Option code_write.Write → Option Write
write_said None = none
write_said (Some w) = some (one_write w)

-- One write more, behind the others.
write_at : List ℕ → List ℤ → ℕ → Write
write_at keys amounts j = record { key = get_or keys j 0; value = get_or amounts j (pos 0) }

behind : (keys : List ℕ) (amounts : List ℤ) (k : ℕ) (a : ℤ) → length amounts ≡ length keys
    → writes_of (keys ++ k ∷ []) (amounts ++ a ∷ []) ≡ writes_of keys amounts ++ (record { key = k; value = a } ∷ [])
unfolding writes_of write_at
behind keys amounts k a e =
    let long : length (keys ++ k ∷ []) ≡ suc (length keys) = omega (arith, length-append keys (k ∷ [])) in
    let more = write_at (keys ++ k ∷ []) (amounts ++ a ∷ []) in
    tab_as (length (keys ++ k ∷ [])) (suc (length keys)) more more long (λ j. refl)
    ∙ (tab_suc (length keys) more ∙ ap₂ (λ (l : List Write) (w : Write). l ++ w ∷ []) (tab_same (length keys) more (write_at keys amounts) front) last)
  where
    front : (j : ℕ) → j < length keys → write_at (keys ++ k ∷ []) (amounts ++ a ∷ []) j ≡ write_at keys amounts j
    front j h =
        ap₂ (λ (n : ℕ) (z : ℤ). let w : Write = record { key = n; value = z } in w) (get_or-append keys (k ∷ []) 0 j h) (get_or-append amounts (a ∷ []) (pos 0) j (omega arith))

    last : write_at (keys ++ k ∷ []) (amounts ++ a ∷ []) (length keys) ≡ record { key = k; value = a }
    last =
        ap₂ (λ (n : ℕ) (z : ℤ). let w : Write = record { key = n; value = z } in w) (get_or-append_seam keys k [] 0)
        (ap (λ (j : ℕ). get_or (amounts ++ a ∷ []) j (pos 0)) (sym e) ∙ get_or-append_seam amounts a [] (pos 0))

length_writes : (keys : List ℕ) (amounts : List ℤ) → length (writes_of keys amounts) ≡ length keys
unfolding writes_of
length_writes keys amounts = length_tab (length keys) (λ j. record { key = get_or keys j 0; value = get_or amounts j (pos 0) })

-- What a store leaves, where there is room for it; and where there is none.
pub write_stored : (keys : List ℕ) (amounts : List ℤ) (n m k : ℕ) (a z : ℤ) → length keys ≡ items_kept → length amounts ≡ items_kept → n < items_kept → m ≡ n + 1 → z ≡ a
    → writes_of (take m (set keys n k)) (take m (set amounts n z)) ≡ take items_kept (writes_of (take n keys) (take n amounts) ++ (record { key = k; value = a } ∷ []))
write_stored keys amounts n m k a z nine nine_amounts room e same =
    let front = length-take-le n keys (omega arith) in
    let front_amounts = length-take-le n amounts (omega arith) in
    let one : m ≡ suc n = omega arith in
    let kept = writes_of (take n keys) (take n amounts) in
    let w : Write = record { key = k; value = a } in
    let whole : length (kept ++ w ∷ []) ≤ 9 = omega (arith, length_writes (take n keys) (take n amounts), length-append kept (w ∷ [])) in
    rw (one, same, take-suc-set keys n k (omega arith), take-suc-set amounts n a (omega arith), take_all 9 (kept ++ w ∷ []) whole)
    (behind (take n keys) (take n amounts) k a (omega arith))

pub write_left : (keys : List ℕ) (amounts : List ℤ) (n : ℕ) (w : Write) → length keys ≡ items_kept → n ≡ items_kept
    → writes_of (take n keys) (take n amounts) ≡ take items_kept (writes_of (take n keys) (take n amounts) ++ w ∷ [])
write_left keys amounts n w nine full =
    let front = length-take-le n keys (omega arith) in
    let kept = writes_of (take n keys) (take n amounts) in
    let many : length kept ≡ 9 = omega (arith, length_writes (take n keys) (take n amounts)) in
    sym (take_at kept (w ∷ []) 9 many)

pub no_writes : (amounts : List ℤ) → writes_of [] amounts ≡ []
unfolding writes_of tab
no_writes amounts = refl

-- What `Writes` goes by.
pub ruleset writes = (write_stored, write_left, no_writes, to_z-of_z)
