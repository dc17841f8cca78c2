-- Why a full list at rest has a head that waits only for votes: "since 31 deliveries have followed it". At least as many accepted deliveries have followed a
-- waiting global entry's own as stand behind it, and 31 bring every threshold.
use Rattle.std.specs.Prelude.{ℕ, ◌+◌, ◌≤◌, true, false, ◌≡◌, refl, eqb, length}
use mathlib.Core.List.{List, [], ◌∷◌, ◌++◌, head-eq_of_cons-eq}
use Rattle.std.proofs.Common.{sym, ap, ◌∙◌, arith}
use Rattle.std.proofs.Math.Option.{none}
use Rattle.std.proofs.lemmas.Bool.{false≢true}
use Rattle.std.proofs.lemmas.List.Sums.{sum_by-cons, sum_by-append}
use Rattle.rules.specs.Sizes.{most_k, most_waiting}
use Rattle.rules.specs.Ledger.{Transaction, Entry, State, is_local, opening, sizes_fit}
use Rattle.rules.specs.Events.{Event, delivery, Answer, refused, waits, aborted, voted, changed, value, Step}
use Rattle.rules.specs.Refusals.{waits_for, checks, delivery_checks, refusal, step}
use Rattle.rules.specs.Logs.{steps, last}
use Rattle.laws.specs.Tests.{never, or_right}
use Rattle.claims.specs.Refused.{none_applies}
use Rattle.claims.specs.SoundParts.{sound_facts}
use Rattle.claims.specs.Soundness.{log_sound}
use Rattle.claims.specs.Counts.{joins_told, aborts_told, accepted_deliveries, own_counts}
use Rattle.claims.specs.FullList.{full_list_waits_for_votes}
use Rattle.claims.specs.Timing.{is_waiting, threshold}
use Rattle.claims.specs.Known.{last_next, own_stays}
use Rattle.claims.specs.OwnDeliveries.{FindsWaiting, OwnDelivery, state_then, Since, Standing, opening_stands}

-- So many accepted deliveries have followed the one that a waiting entry comes from.
pub record Followed (s : State) (es : List Event) (e : Entry) (n : ℕ) : Type 0 where
  pub own : OwnDelivery s es e
  pub followers : n ≤ accepted_deliveries own.later (state_then own)

-- No later delivery is its own: one of its identity is refused while it waits.
found_at : (i : ℕ) (xs : List Event) (x : Event) (ys : List Event) (s : State) → FindsWaiting i (xs ++ x ∷ ys) s → waits_for i (last xs s) ≡ true
unfolding last
found_at i [] x ys s h = h.0
found_at i (e ∷ xs) x ys s h = found_at i xs x ys (step e s).next h.1

pub own_alone : {s : State} {es : List Event} {e : Entry} (d : OwnDelivery s es e) (xs ys : List Event) (t : Transaction)
    → d.later ≡ xs ++ delivery t ∷ ys → t.identity ≡ e.transaction.identity → refusal (delivery t) (last xs (state_then d)) ≡ none → ⊥
unfolding refusal checks delivery_checks
own_alone {s} {es} {e} d xs ys t stands same q =
    let here = last xs (state_then d) in
    let new = or_right (eqb t.identity 0) (waits_for t.identity here) (none_applies (delivery_checks t here) q).1.1.1.0 in
    never (waits_for t.identity here) (rw same (found_at e.transaction.identity xs (delivery t) ys (state_then d) (rw stands at d.waited))) new

-- The accepted deliveries of two logs, one after the other.
steps_append : (es fs : List Event) (s : State) → steps (es ++ fs) s ≡ steps es s ++ steps fs (last es s)
unfolding steps last
steps_append [] fs s = refl
steps_append (e ∷ es) fs s = ap (λ (l : List Step). step e s ∷ l) (steps_append es fs (step e s).next)

accepted_append : (es fs : List Event) (s : State) → accepted_deliveries (es ++ fs) s ≡ accepted_deliveries es s + accepted_deliveries fs (last es s)
accepted_append es fs s =
    let joins = sum_by-append (λ (r : Step). joins_told r.answer) (steps es s) (steps fs (last es s)) in
    let aborts = sum_by-append (λ (r : Step). aborts_told r.answer) (steps es s) (steps fs (last es s)) in
    rw (steps_append es fs s) (omega arith)

told_once : (a : Answer) → is_waiting a ≡ true → joins_told a + aborts_told a ≡ 1
unfolding is_waiting
told_once (refused n) h = absurd (false≢true h)
told_once (waits dc i send) h = refl
told_once (aborted dc reason send) h = absurd (false≢true h)
told_once voted h = absurd (false≢true h)
told_once changed h = absurd (false≢true h)
told_once (value st v) h = absurd (false≢true h)

joining_counts : (x : Event) (s : State) → is_waiting (step x s).answer ≡ true → accepted_deliveries (x ∷ []) s ≡ 1
unfolding steps
joining_counts x s h =
    let joins = sum_by-cons (λ (r : Step). joins_told r.answer) (step x s) [] in
    let aborts = sum_by-cons (λ (r : Step). aborts_told r.answer) (step x s) [] in
    omega (arith, told_once (step x s).answer h)

-- DC then and DC now count the accepted deliveries up to its own, and all of them: those in between have followed it.
module _ (es : List Event) (partitions own k : ℕ) where
  abbrev start : State
  start = opening partitions own k

  accepted_parts : {e : Entry} (d : OwnDelivery start es e)
      → accepted_deliveries es start
      ≡ accepted_deliveries d.earlier start + (accepted_deliveries (delivery e.transaction ∷ []) (last d.earlier start) + accepted_deliveries d.later (state_then d))
  unfolding last
  accepted_parts {e} d =
      ap (λ (l : List Event). accepted_deliveries l start) d.stands
      ∙ (accepted_append d.earlier (delivery e.transaction ∷ d.later) start
      ∙ ap (λ (n : ℕ). accepted_deliveries d.earlier start + n) (accepted_append (delivery e.transaction ∷ []) d.later (last d.earlier start)))

  dc_then : {e : Entry} (d : OwnDelivery start es e) → (state_then d).clock.dc
      ≡ accepted_deliveries d.earlier start + accepted_deliveries (delivery e.transaction ∷ []) (last d.earlier start)
  dc_then {e} d =
      let x = delivery e.transaction in
      ap (λ (u : State). u.clock.dc) (sym (last_next d.earlier x start refl))
      ∙ ((own_counts (d.earlier ++ x ∷ []) partitions own k).dc_counts ∙ accepted_append d.earlier (x ∷ []) start)

  followed : (e : Entry) (n : ℕ) → Since start es e n → Followed start es e n
  followed e n h =
      let d = h.own in
      let counted = h.counted in
      let all = (own_counts es partitions own k).dc_counts in
      let parts = accepted_parts d in
      let then = dc_then d in
      record { own = d; followers = omega arith }

  standing_at : (front : List Entry) (e : Entry) (back : List Entry) → Standing start es (front ++ e ∷ back) → is_local own e.transaction ≡ false
      → Since start es e (length back)
  unfolding opening
  standing_at [] e back h g = h.0 g
  standing_at (x ∷ front) e back h g = standing_at front e back h.1 g

  -- Of any log from opening: as many accepted deliveries at least have followed a waiting global entry as stand behind it.
  pub followers_of : (front : List Entry) (e : Entry) (back : List Entry) → (last es start).waiting ≡ front ++ e ∷ back → is_local own e.transaction ≡ false
      → Followed start es e (length back)
  followers_of front e back stands g = followed e (length back) (standing_at front e back (rw stands at (opening_stands es partitions own k)) g)

  -- "a full list at rest has a head that waits only for votes, since 31 deliveries have followed it"
  pub full_list_followed : sizes_fit partitions own k ≡ true → (head : Entry) (rest : List Entry) → (last es start).waiting ≡ head ∷ rest
      → length (last es start).waiting ≡ most_waiting → Followed start es head 31
  unfolding opening
  full_list_followed fits head rest stands full =
      let w = full_list_waits_for_votes es partitions own k fits full in
      let same = sym w.stands ∙ stands in
      let is = head-eq_of_cons-eq same in
      let global : is_local own head.transaction ≡ false = rw (own_stays es start, is) at w.global in
      let behind : length rest ≡ 31 = let long = rw stands at full in omega arith in
      rw behind at (followers_of [] head rest stands global)

  -- So 31 deliveries bring every threshold: "rt = DC + k", with k at most 31.
  pub followed_reached : sizes_fit partitions own k ≡ true → (e : Entry) → Followed start es e most_k → e.rt ≤ (last es start).clock.dc
  unfolding threshold
  followed_reached fits e h =
      let d = h.own in
      let here = last d.earlier start in
      let k_fits = (sound_facts here (log_sound d.earlier partitions own k fits)).sizes.k_fits in
      let followers = h.followers in
      let rises = d.rises in
      let all = (own_counts es partitions own k).dc_counts in
      let first = (own_counts d.earlier partitions own k).dc_counts in
      let parts = accepted_parts d in
      let one = joining_counts (delivery e.transaction) here d.joined in
      omega arith
