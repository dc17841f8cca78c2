-- The delivery that each waiting global entry comes from. It joined at the end of the list, so whoever stands behind it was delivered later: DC has risen by
-- as many at least since then. Every event keeps this.
use Rattle.std.specs.Prelude.{ℕ, zero, suc, ◌+◌, ◌≤◌, true, false, ◌≡◌, refl, length, insert}
use mathlib.Core.List.{List, [], ◌∷◌, ◌++◌, map, Memᴰ, append_assoc}
use Rattle.std.proofs.Common.{append-nil, sym, ap, ◌∙◌, subst, ⊎_elim, arith, eq-eqb}
use Rattle.std.proofs.Math.Option.{none}
use Rattle.std.proofs.lemmas.List.{length-map}
use Rattle.rules.specs.Partitions.{Ballot, none_heard, Heard}
use Rattle.rules.specs.Ledger.{Transaction, Entry, Clock, State, is_local, opening}
use Rattle.rules.specs.Delivery.{ticked, entered, Fate, abort, join, fate, joined, vote_to_send}
use Rattle.rules.specs.Events.{Event, delivery, vote, change, read, Answer, voted, changed, Step, accepted, closing, delivered, deliver_with, deliver_at, with_vote, take_vote, with_k, take_change, take_read}
use Rattle.rules.specs.Refusals.{is_for, waits_for, refusal, step}
use Rattle.rules.specs.Logs.{last}
use Rattle.laws.specs.Tests.{never}
use Rattle.laws.specs.Members.{any_member}
use Rattle.laws.specs.Each.{Each}
use Rattle.laws.specs.Inserts.{length_insert}
use Rattle.claims.specs.Steps.{close_keeps, step_refused, step_accepted, refused_or}
use Rattle.claims.specs.Fates.{fate_join_exactly}
use Rattle.claims.specs.Timing.{is_waiting, threshold}
use Rattle.claims.specs.Known.{last_append, last_next, own_stays}

-- Each event of a log finds an identity waiting.
abbrev pub FindsWaiting : ℕ → List Event → State → Type 0
FindsWaiting i [] s = Unit {0}
FindsWaiting i (e ∷ es) s = (waits_for i s ≡ true) × FindsWaiting i es (step e s).next

-- The delivery that a waiting entry comes from: it joined the list then, with that threshold, and each later event found it waiting.
pub record OwnDelivery (s : State) (es : List Event) (e : Entry) : Type 0 where
  pub earlier : List Event
  pub later : List Event
  pub stands : es ≡ earlier ++ delivery e.transaction ∷ later
  pub joined : is_waiting (step (delivery e.transaction) (last earlier s)).answer ≡ true
  pub rises : e.rt ≡ threshold (last earlier s)
  pub waited : FindsWaiting e.transaction.identity later (step (delivery e.transaction) (last earlier s)).next

-- The state after it.
abbrev pub state_then : {s : State} {es : List Event} {e : Entry} → OwnDelivery s es e → State
state_then {s} {es} {e} d = (step (delivery e.transaction) (last d.earlier s)).next

-- Since then DC has risen by so much at least.
pub record Since (s : State) (es : List Event) (e : Entry) (n : ℕ) : Type 0 where
  pub own : OwnDelivery s es e
  pub counted : (state_then own).clock.dc + n ≤ (last es s).clock.dc

-- Since the delivery of each global entry of a list DC has risen by as many at least as stand behind it.
abbrev pub Standing : State → List Event → List Entry → Type 0
Standing s es [] = Unit {0}
Standing s es (e ∷ rest) = (is_local s.clock.own e.transaction ≡ false → Since s es e (length rest)) × Standing s es rest

-- One event more.
finds_later : (i : ℕ) (es : List Event) (x : Event) (s : State) → FindsWaiting i es s → waits_for i (last es s) ≡ true → FindsWaiting i (es ++ x ∷ []) s
unfolding last
finds_later i [] x s h here = (here, tt)
finds_later i (e ∷ es) x s h here = (h.0, finds_later i es x (step e s).next h.1 here)

state_now : {s : State} {es : List Event} {e : Entry} (d : OwnDelivery s es e) → last d.later (state_then d) ≡ last es s
unfolding last
state_now {s} {es} {e} d = sym (ap (λ (l : List Event). last l s) d.stands ∙ last_append d.earlier (delivery e.transaction ∷ d.later) s)

module _ (s : State) (before : List Event) (x : Event) where
  abbrev now : State
  now = last before s

  abbrev next : State
  next = last (before ++ x ∷ []) s

  own_later : (e : Entry) (h : Heard) → OwnDelivery s before e → waits_for e.transaction.identity now ≡ true
      → OwnDelivery s (before ++ x ∷ []) (record { transaction = e.transaction; rt = e.rt; heard = h })
  own_later e h d here =
      record {
        earlier = d.earlier;
        later = d.later ++ x ∷ [];
        stands = ap (λ (l : List Event). l ++ x ∷ []) d.stands ∙ append_assoc d.earlier (delivery e.transaction ∷ d.later) (x ∷ []);
        joined = d.joined;
        rises = d.rises;
        waited = finds_later e.transaction.identity d.later x (state_then d) d.waited (rw (state_now d) here);
      }

  since_later : (e : Entry) (h : Heard) (n m rise : ℕ) → m ≤ n + rise → now.clock.dc + rise ≤ next.clock.dc → waits_for e.transaction.identity now ≡ true
      → Since s before e n → Since s (before ++ x ∷ []) (record { transaction = e.transaction; rt = e.rt; heard = h }) m
  unfolding own_later
  since_later e h n m rise more rises here k =
      let counted = k.counted in record { own = own_later e h k.own here; counted = omega arith }

  -- The entries that wait when an event comes do wait then.
  abbrev Here : List Entry → Type 0
  Here es = Each (λ e. waits_for e.transaction.identity now ≡ true) es

  standing_later : now.clock.dc ≤ next.clock.dc → (es : List Entry) → Here es → Standing s before es → Standing s (before ++ x ∷ []) es
  standing_later low [] w h = tt
  standing_later low (e ∷ es) w h = (
    λ g. since_later e e.heard (length es) (length es) 0 (omega arith) (omega arith) w.0 (h.0 g),
    standing_later low es w.1 h.1,
  )

  standing_vote : (i p : ℕ) (b : Ballot) → now.clock.dc ≤ next.clock.dc → (es : List Entry) → Here es → Standing s before es
      → Standing s (before ++ x ∷ []) (map (with_vote i p b) es)
  unfolding with_vote
  standing_vote i p b low [] w h = tt
  standing_vote i p b low (e ∷ es) w h = (
    λ g. since_later e _ (length es) _ 0 (omega (arith, length-map es (with_vote i p b))) (omega arith) w.0 (h.0 g),
    standing_vote i p b low es w.1 h.1,
  )

  -- A newcomer adds one behind those before it, and is one delivery more for all.
  standing_insert : (i : ℕ) (e : Entry) → now.clock.dc + 1 ≤ next.clock.dc → (is_local s.clock.own e.transaction ≡ false → Since s (before ++ x ∷ []) e 0)
      → (es : List Entry) → Here es → Standing s before es → (is_local s.clock.own e.transaction ≡ false → length es ≤ i)
      → Standing s (before ++ x ∷ []) (insert es i e)
  standing_insert zero e rise new [] w h place = (new, tt)
  standing_insert zero e rise new (y ∷ es) w h place =
      (λ g. let low = place g in absurd (omega arith), standing_later (omega arith) (y ∷ es) w h)
  standing_insert (suc i) e rise new [] w h place = (new, tt)
  standing_insert (suc i) e rise new (y ∷ es) w h place = (
    λ g. since_later y y.heard (length es) (length (insert es i e)) 1 (omega (arith, length_insert i e es)) rise w.0 (h.0 g),
    standing_insert i e rise new es w.1 h.1 (λ g. let low = place g in omega arith),
  )

each_member : {A : Type 0} (P : A → Type 0) (xs : List A) → ((x : A) → Memᴰ x xs → P x) → Each P xs
each_member P [] k = tt
each_member P (x ∷ xs) k = (k x (Memᴰ.head refl), each_member P xs (λ y m. k y (Memᴰ.tail m)))

all_here : (s : State) → Each (λ e. waits_for e.transaction.identity s ≡ true) s.waiting
all_here s =
    each_member (λ e. waits_for e.transaction.identity s ≡ true) s.waiting
    (λ e m. any_member (is_for e.transaction.identity) e s.waiting m (eq-eqb e.transaction.identity e.transaction.identity refl))

-- What an event makes of a list of which this holds.
module _ (s : State) (before : List Event) (h : Standing s before (last before s).waiting) where
  stays : (x : Event) → (step x (last before s)).next ≡ last before s → Standing s (before ++ x ∷ []) (last (before ++ x ∷ []) s).waiting
  stays x q =
      let e : last (before ++ x ∷ []) s ≡ last before s = last_next before x s refl ∙ q in
      subst (λ (u : State). Standing s (before ++ x ∷ []) u.waiting) (sym e)
      (standing_later s before x (rw e (omega arith)) (last before s).waiting (all_here (last before s)) h)

  module _ (x : Event) (a : Answer) (c : Clock) (es : List Entry) (q : step x (last before s) ≡ closing a c es (last before s).books) where
    closed_now : last (before ++ x ∷ []) s ≡ (closing a c es (last before s).books).next
    closed_now = last_next before x s refl ∙ ap (λ (r : Step). r.next) q

    closed_dc : (last (before ++ x ∷ []) s).clock.dc ≡ c.dc
    unfolding closing
    closed_dc = ap (λ (u : State). u.clock.dc) closed_now

    closed : Standing s (before ++ x ∷ []) es → Standing s (before ++ x ∷ []) (last (before ++ x ∷ []) s).waiting
    unfolding closing
    closed k =
        subst (λ (u : State). Standing s (before ++ x ∷ []) u.waiting) (sym closed_now)
        (close_keeps c (λ fs _. Standing s (before ++ x ∷ []) fs) (λ e fs b r m. m.1) es (last before s).books k)

  -- A delivery that is taken: aborted, or joining; a global one at the end, behind all that wait.
  module _ (t : Transaction) (taken : refusal (delivery t) (last before s) ≡ none) where
    abbrev c : Clock
    c = ticked (last before s).clock

    abbrev f : Fate
    f = fate c t (last before s).waiting (last before s).books

    abbrev list : List Entry
    list = joined f (entered c t none_heard) (last before s).waiting

    delivered_closes : step (delivery t) (last before s) ≡ closing (delivered c (vote_to_send (is_local c.own t) f) f) c list (last before s).books
    unfolding accepted deliver_with deliver_at
    delivered_closes = step_accepted (delivery t) (last before s) taken

    rise : (last before s).clock.dc + 1 ≤ (last (before ++ delivery t ∷ []) s).clock.dc
    unfolding ticked
    rise = let e = closed_dc (delivery t) _ c list delivered_closes in omega arith

    newcomer : (i : ℕ) → f ≡ join i → Since s (before ++ delivery t ∷ []) (entered c t none_heard) 0
    unfolding entered ticked threshold delivered is_waiting closing
    newcomer i q =
        record {
          own = record {
            earlier = before;
            later = [];
            stands = refl;
            joined = rw (delivered_closes, q);
            rises = refl;
            waited = tt;
          };
          counted = let e = ap (λ (u : State). u.clock.dc) (last_next before (delivery t) s refl) in omega arith;
        }

    at_end : (i : ℕ) → f ≡ join i → is_local s.clock.own t ≡ false → length (last before s).waiting ≤ i
    unfolding ticked
    at_end i q g =
        ⊎_elim (λ l. never (is_local s.clock.own t) (rw (own_stays before s) at l.0) g) (λ l. let end = l.2 in omega arith)
        ((fate_join_exactly c t (last before s).waiting (last before s).books i).0 q).stands

    joined_stands : (g : Fate) → f ≡ g → Standing s (before ++ delivery t ∷ []) (joined g (entered c t none_heard) (last before s).waiting)
    unfolding joined entered
    joined_stands (abort reason) q =
        let more = rise in standing_later s before (delivery t) (omega arith) (last before s).waiting (all_here (last before s)) h
    joined_stands (join i) q =
        standing_insert s before (delivery t) i (entered c t none_heard) rise (λ g. newcomer i q) (last before s).waiting (all_here (last before s)) h (at_end i q)

    delivery_stands : Standing s (before ++ delivery t ∷ []) (last (before ++ delivery t ∷ []) s).waiting
    delivery_stands = closed (delivery t) _ c list delivered_closes (joined_stands f refl)

  event_stands : (x : Event) → refusal x (last before s) ≡ none → Standing s (before ++ x ∷ []) (last (before ++ x ∷ []) s).waiting
  unfolding accepted take_vote take_change with_k take_read
  event_stands (delivery t) q = delivery_stands t q
  event_stands (vote i p b) q =
      let x = vote i p b in
      let is = step_accepted x (last before s) q in
      let list = map (with_vote i p b) (last before s).waiting in
      let e = closed_dc x voted (last before s).clock list is in
      closed x voted (last before s).clock list is (standing_vote s before x i p b (omega arith) (last before s).waiting (all_here (last before s)) h)
  event_stands (change k) q =
      let x = change k in
      let is = step_accepted x (last before s) q in
      let e = closed_dc x changed (with_k k (last before s).clock) (last before s).waiting is in
      closed x changed (with_k k (last before s).clock) (last before s).waiting is
      (standing_later s before x (omega arith) (last before s).waiting (all_here (last before s)) h)
  event_stands (read key st) q = stays (read key st) (ap (λ (r : Step). r.next) (step_accepted (read key st) (last before s) q))

  next_stands : (x : Event) → Standing s (before ++ x ∷ []) (last (before ++ x ∷ []) s).waiting
  next_stands x =
      refused_or (refusal x (last before s)) (event_stands x) (λ n q. stays x (ap (λ (r : Step). r.next) (step_refused x (last before s) q)))

log_stands : (s : State) (before es : List Event) → Standing s before (last before s).waiting → Standing s (before ++ es) (last (before ++ es) s).waiting
log_stands s before [] h = rw append-nil h
log_stands s before (x ∷ es) h =
    subst (λ (l : List Event). Standing s l (last l s).waiting) (append_assoc before (x ∷ []) es)
    (log_stands s (before ++ x ∷ []) es (next_stands s before h x))

-- So it is of any log from opening.
pub opening_stands : (es : List Event) (partitions own k : ℕ) → Standing (opening partitions own k) es (last es (opening partitions own k)).waiting
unfolding opening last
opening_stands es partitions own k = log_stands (opening partitions own k) [] es tt
