-- 01's second fact: a full list at rest has a head that waits only for votes, since 31 deliveries have followed it.
-- The invariant: the rt of a waiting global entry, and how many stand behind it, are together at most DC + 31.
use Rattle.std.specs.Prelude.{ℕ, zero, suc, ◌+◌, ◌-◌, ◌≤◌, true, false, not, ◌&&◌, List, [], ◌∷◌, map, ◌≡◌, refl, leb, length, insert}
use Rattle.std.proofs.Common.{⊎_elim, ltb-false, le-leb, arith}
use Rattle.std.proofs.Math.Option.{none}
use Rattle.std.proofs.lemmas.Bool.{not-false}
use Rattle.std.proofs.lemmas.List.{length-map}
use Rattle.rules.specs.Sizes.{most_k, most_waiting}
use Rattle.rules.specs.Partitions.{Ballot, none_heard, any_outstanding}
use Rattle.rules.specs.Ledger.{Transaction, Entry, Clock, Books, State, is_local, opening, sizes_fit}
use Rattle.rules.specs.Delivery.{ticked, entered, Fate, abort, join, fate, joined}
use Rattle.rules.specs.Closing.{ready, close}
use Rattle.rules.specs.Events.{Event, delivery, vote, change, read, closing, deliver_at, deliver_with, with_vote, take_vote, with_k, take_change, take_read, accepted}
use Rattle.rules.specs.Refusals.{refusal, checks, change_checks}
use Rattle.rules.specs.Logs.{last}
use Rattle.laws.specs.Tests.{never, or_left, or_right}
use Rattle.claims.specs.Steps.{close_keeps, step_keeps, last_keeps}
use Rattle.claims.specs.Refused.{none_applies}
use Rattle.claims.specs.SoundParts.{sizes_facts}
use Rattle.laws.specs.Inserts.{length_insert}
use Rattle.claims.specs.Fates.{fate_join_exactly}
use Rattle.claims.specs.Heads.{AtRest, log_rests}

-- What each waiting entry leaves room for.
abbrev Spaced : ℕ → ℕ → List Entry → Type 0
Spaced own dc [] = Unit {0}
Spaced own dc (e ∷ es) = (is_local own e.transaction ≡ false → e.rt + length es ≤ dc + most_k) × Spaced own dc es

spaced_later : (own dc : ℕ) (es : List Entry) → Spaced own dc es → Spaced own (dc + 1) es
spaced_later own dc [] h = tt
spaced_later own dc (e ∷ es) h = (λ g. let room = h.0 g in omega arith, spaced_later own dc es h.1)

-- A newcomer adds one behind those before it, and DC has risen by one.
spaced_insert : (own dc i : ℕ) (e : Entry) (es : List Entry) → Spaced own dc es
    → (is_local own e.transaction ≡ false → e.rt + (length es - i) ≤ dc + 1 + most_k) → Spaced own (dc + 1) (insert es i e)
spaced_insert own dc zero e es h room = (λ g. let fits = room g in omega arith, spaced_later own dc es h)
spaced_insert own dc (suc i) e [] h room = (λ g. let fits = room g in omega arith, tt)
spaced_insert own dc (suc i) e (x ∷ es) h room = (
  λ g. let fits = h.0 g in omega (arith, length_insert i e es),
  spaced_insert own dc i e es h.1 (λ g. let fits = room g in omega arith),
)

spaced_vote : (own dc i p : ℕ) (b : Ballot) (es : List Entry) → Spaced own dc es → Spaced own dc (map (with_vote i p b) es)
unfolding with_vote
spaced_vote own dc i p b [] h = tt
spaced_vote own dc i p b (e ∷ es) h =
    (λ g. let room = h.0 g in omega (arith, length-map es (with_vote i p b)), spaced_vote own dc i p b es h.1)

record Room (s : State) : Type 0 where
  pub k_fits : s.clock.k ≤ most_k
  pub spaced : Spaced s.clock.own s.clock.dc s.waiting

-- A newcomer joins with rt at most DC + 31: a local one asks nothing, a global one stands at the end.
spaced_joined : (c : Clock) (t : Transaction) (es : List Entry) (b : Books) (f : Fate) → c.k ≤ most_k
    → Spaced c.own c.dc es → fate (ticked c) t es b ≡ f
    → Spaced c.own (c.dc + 1) (joined f (entered (ticked c) t none_heard) es)
unfolding joined entered ticked
spaced_joined c t es b (abort reason) k_fits h q = spaced_later c.own c.dc es h
spaced_joined c t es b (join i) k_fits h q =
    spaced_insert c.own c.dc i (entered (ticked c) t none_heard) es h
    (λ g. ⊎_elim (λ l. never (is_local c.own t) l.0 g) (λ l. let at_end = l.2 in omega arith)
    ((fate_join_exactly (ticked c) t es b i).0 q).stands)

close_spaced : (c : Clock) (es : List Entry) (b : Books) → Spaced c.own c.dc es → Spaced c.own c.dc (close c es b).waiting
close_spaced c es b h = close_keeps c (λ fs _. Spaced c.own c.dc fs) (λ e fs d q k. k.1) es b h

k_allowed : (k : ℕ) (s : State) → refusal (change k) s ≡ none → k ≤ most_k
unfolding refusal checks change_checks
k_allowed k s h = ltb-false most_k k (none_applies (change_checks k) h).0

delivered_room : (t : Transaction) (s : State) → Room s → Room (deliver_with none_heard t s).next
unfolding deliver_with deliver_at closing ticked
delivered_room t s h =
    let c = ticked s.clock in
    let f = fate c t s.waiting s.books in
    record {
      k_fits = h.k_fits;
      spaced = close_spaced c (joined f (entered c t none_heard) s.waiting) s.books
          (spaced_joined s.clock t s.waiting s.books f h.k_fits h.spaced refl);
    }

accepted_room : (e : Event) (s : State) → refusal e s ≡ none → Room s → Room (accepted e s).next
unfolding accepted deliver_with deliver_at take_vote take_change take_read closing with_k
accepted_room (delivery t) s q h = delivered_room t s h
accepted_room (vote i p b) s q h =
    record {
      k_fits = h.k_fits;
      spaced = close_spaced s.clock (map (with_vote i p b) s.waiting) s.books
          (spaced_vote s.clock.own s.clock.dc i p b s.waiting h.spaced);
    }
accepted_room (change k) s q h =
    record { k_fits = k_allowed k s q; spaced = close_spaced (with_k k s.clock) s.waiting s.books h.spaced }
accepted_room (read key st) s q h = h

log_room : (es : List Event) (partitions own k : ℕ) → k ≤ most_k → Room (last es (opening partitions own k))
unfolding opening
log_room es partitions own k fits =
    last_keeps Room (λ e s. step_keeps Room e s (accepted_room e s)) es (opening partitions own k) (record { k_fits = fits; spaced = tt })

-- A head that isn't ready though its threshold has come: it is global, and a vote is outstanding.
pub record WaitsForVotes (c : Clock) (waiting : List Entry) : Type 0 where
  pub head : Entry
  pub rest : List Entry
  pub stands : waiting ≡ head ∷ rest
  pub global : is_local c.own head.transaction ≡ false
  pub threshold_reached : head.rt ≤ c.dc
  pub vote_outstanding : any_outstanding c.own head.transaction.partitions head.heard ≡ true

waits_for_votes : (c : Clock) (es : List Entry) → length es ≡ most_waiting → AtRest c es → Spaced c.own c.dc es → WaitsForVotes c es
unfolding ready
waits_for_votes c [] full rest h = let z : ◌≡◌ {A = ℕ} 0 1 = omega arith in absurd (omega arith)
waits_for_votes c (e ∷ es) full rest h =
    let l = is_local c.own e.transaction in
    let o = any_outstanding c.own e.transaction.partitions e.heard in
    let global : l ≡ false = or_left l (leb e.rt c.dc && not o) rest in
    let room = h.0 global in
    let reached : e.rt ≤ c.dc = omega arith in
    record {
      head = e;
      rest = es;
      stands = refl;
      global = global;
      threshold_reached = reached;
      vote_outstanding = not-false o (rw (le-leb e.rt c.dc reached) at (or_right l (leb e.rt c.dc && not o) rest));
    }

pub full_list_waits_for_votes : (es : List Event) (partitions own k : ℕ) → sizes_fit partitions own k ≡ true
    → length (last es (opening partitions own k)).waiting ≡ most_waiting
    → WaitsForVotes (last es (opening partitions own k)).clock (last es (opening partitions own k)).waiting
full_list_waits_for_votes es partitions own k fits full =
    let s = last es (opening partitions own k) in
    waits_for_votes s.clock s.waiting full (log_rests es partitions own k)
    (log_room es partitions own k (sizes_facts partitions own k fits).k_fits).spaced
