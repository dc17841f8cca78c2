-- What is known at each place of a log whose votes come in time: the list is at rest, and each waiting entry was delivered before and holds the votes cast so far. Each event keeps it.
use Rattle.std.specs.Prelude.{ℕ, true, cond, ◌&&◌, List, [], ◌∷◌, ◌++◌, map, ◌≡◌, refl, eqb}
use Rattle.std.specs.List.{list_any}
use Rattle.std.proofs.Math.Bool.{false, not}
use Rattle.std.proofs.Common.{append_assoc, sym, ◌∙◌}
use Rattle.std.proofs.Math.Option.{none, some}
use Rattle.std.proofs.Math.Path.{ap}
use Rattle.rules.specs.Partitions.{Ballot, Heard, none_heard, other, hear, heard_from}
use Rattle.rules.specs.Ledger.{Transaction, Entry, Clock, Books, State}
use Rattle.rules.specs.Delivery.{Fate, abort, join, ticked, entered, fate, joined}
use Rattle.rules.specs.Events.{Event, delivery, vote, change, read, Snapshot, Answer, accepted, closing, delivered, deliver_with, deliver_at, with_vote, take_vote, with_k, take_change, take_read}
use Rattle.rules.specs.Refusals.{is_for, waits_for, first_of, checks, vote_checks, refusal, step}
use Rattle.rules.specs.Logs.{last}
use Rattle.laws.specs.Tests.{split}
use Rattle.claims.specs.Steps.{close_keeps, step_refused, step_accepted, refused_or, step_keeps, last_keeps}
use Rattle.laws.specs.Each.{Each, each_map, each_weaken, each_always, each_both, each_insert, each_false, any_false}
use Rattle.claims.specs.Gather.{gather, votes_of, gather_append, gather_none, is_on}
use Rattle.claims.specs.Heads.{AtRest, close_rests}
use Rattle.claims.specs.Timing.{is_waiting, threshold, Timed}
use Rattle.claims.specs.Eager.{list_after}
use Rattle.claims.specs.Fair.{Entered, fresh, involved, unheard}

-- The state after the events before, from the state s at the log's start.
pub record Known (s : State) (before : List Event) (now : State) : Type 0 where
  pub here : last before s ≡ now
  pub resting : AtRest now.clock now.waiting
  pub entries : Each (Entered s before) now.waiting

pub last_append : (es fs : List Event) (s : State) → last (es ++ fs) s ≡ last fs (last es s)
unfolding last
last_append [] fs s = refl
last_append (e ∷ es) fs s = last_append es fs (step e s).next

pub last_next : (before : List Event) (e : Event) (s : State) {now : State} → last before s ≡ now → last (before ++ e ∷ []) s ≡ (step e now).next
unfolding last
last_next before e s here = last_append before (e ∷ []) s ∙ ap (λ (x : State). (step e x).next) here

-- An entry, one event later: as it is, or with one vote more.
entered_later : (s : State) (before : List Event) (x : Event) (e : Entry) (h : Heard) → Entered s before e
    → h ≡ votes_of (before ++ x ∷ []) e.transaction.identity
    → Entered s (before ++ x ∷ []) (record { transaction = e.transaction; rt = e.rt; heard = h })
entered_later s before x e h from has =
    record {
      earlier = from.earlier;
      between = from.between ++ x ∷ [];
      stands = ap (λ (es : List Event). es ++ x ∷ []) from.stands ∙ append_assoc from.earlier (delivery e.transaction ∷ from.between) (x ∷ []);
      waited = from.waited;
      rises = from.rises;
      has = has;
    }

entered_same : (s : State) (before : List Event) (x : Event) (e : Entry) → is_on e.transaction.identity x ≡ false
    → Entered s before e → Entered s (before ++ x ∷ []) e
entered_same s before x e off from =
    entered_later s before x e e.heard from
    (from.has
    ∙ sym (gather_append none_heard e.transaction.identity before (x ∷ [])
    ∙ gather_none (votes_of before e.transaction.identity) e.transaction.identity (x ∷ []) (rw off)))

entered_vote : (s : State) (before : List Event) (i p : ℕ) (b : Ballot) (e : Entry) → Entered s before e
    → Entered s (before ++ vote i p b ∷ []) (with_vote i p b e)
unfolding with_vote gather
entered_vote s before i p b e from =
    entered_later s before (vote i p b) e (cond (eqb e.transaction.identity i) (hear p b e.heard) e.heard) from
    (rw (gather_append none_heard e.transaction.identity before (vote i p b ∷ []), from.has))

-- Any closing, and an event that changes nothing.
known_closing : (s : State) (before : List Event) (a : Answer) (c : Clock) (es : List Entry) (b : Books)
    → last before s ≡ (closing a c es b).next → Each (Entered s before) es → Known s before (closing a c es b).next
unfolding closing
known_closing s before a c es b here h =
    record {
      here = here;
      resting = close_rests c es b;
      entries = close_keeps c (λ xs x. Each (Entered s before) xs) (λ x xs y q k. k.1) es b h;
    }

entries_same : (s : State) (before : List Event) (x : Event) (es : List Entry)
    → Each (λ e. is_on e.transaction.identity x ≡ false) es → Each (Entered s before) es → Each (Entered s (before ++ x ∷ [])) es
entries_same s before x es off h =
    each_weaken (λ e. (is_on e.transaction.identity x ≡ false) × Entered s before e) (Entered s (before ++ x ∷ []))
    (λ e k. entered_same s before x e k.0 k.1) es
    (each_both (λ e. is_on e.transaction.identity x ≡ false) (Entered s before) es off h)

-- Our own partition stays.
own_next : (e : Event) (s : State) → (accepted e s).next.clock.own ≡ s.clock.own
unfolding accepted deliver_with deliver_at ticked take_vote take_change with_k take_read closing
own_next (delivery t) s = refl
own_next (vote i p b) s = refl
own_next (change k) s = refl
own_next (read key st) s = refl

pub own_stays : (es : List Event) (s : State) → (last es s).clock.own ≡ s.clock.own
own_stays es s =
    last_keeps (λ x. x.clock.own ≡ s.clock.own)
    (λ e x h. step_keeps (λ y. y.clock.own ≡ s.clock.own) e x (λ q k. own_next e x ∙ k) h) es s refl

-- What becomes of a delivery.
fate_cases : {C : Type 0} (f : Fate) → ((reason : ℕ) → f ≡ abort reason → C) → ((i : ℕ) → f ≡ join i → C) → C
fate_cases (abort reason) aborts joins = aborts reason refl
fate_cases (join i) aborts joins = joins i refl

module _ (s : State) (es : List Event) (timed : Timed s es) (before rest : List Event) (now : State) (known : Known s before now) where
  -- An event that is no vote leaves the entries as they are; one that changes nothing leaves all.
  entries_unvoted : (x : Event) → ((i : ℕ) → is_on i x ≡ false) → Each (Entered s (before ++ x ∷ [])) now.waiting
  entries_unvoted x off =
      entries_same s before x now.waiting
      (each_always (λ e. is_on e.transaction.identity x ≡ false) (λ e. off e.transaction.identity) now.waiting) known.entries

  known_nothing : (x : Event) → (step x now).next ≡ now → Each (Entered s (before ++ x ∷ [])) now.waiting
      → Known s (before ++ x ∷ []) (step x now).next
  known_nothing x stays h = rw stays (record { here = last_next before x s known.here ∙ stays; resting = known.resting; entries = h })

  known_refused : (x : Event) {n : ℕ} → refusal x now ≡ some n → Each (Entered s (before ++ x ∷ [])) now.waiting
      → Known s (before ++ x ∷ []) (step x now).next
  known_refused x q h = known_nothing x (rw (step_refused x now q)) h

  -- The entries before the closing of a delivery.
  module _ (t : Transaction) (cut : es ≡ before ++ delivery t ∷ rest) (taken : refusal (delivery t) now ≡ none) where
    newcomer : (i : ℕ) → fate (ticked now.clock) t now.waiting now.books ≡ join i
        → Entered s (before ++ delivery t ∷ []) (entered (ticked now.clock) t none_heard)
    unfolding entered ticked accepted deliver_with deliver_at closing delivered is_waiting threshold gather
    newcomer i joins =
        record {
          earlier = before;
          between = [];
          stands = refl;
          waited = rw (known.here, step_accepted (delivery t) now taken, joins);
          rises = rw known.here;
          has = rw (gather_append none_heard t.identity before (delivery t ∷ []), fresh s es timed t before rest cut);
        }

    pub joined_entered : Each (Entered s (before ++ delivery t ∷ [])) (list_after t now)
    unfolding joined
    joined_entered =
        let others = entries_unvoted (delivery t) (λ i. refl) in
        fate_cases (fate (ticked now.clock) t now.waiting now.books)
        (λ reason q. rw q others)
        (λ i q. rw q (each_insert (Entered s (before ++ delivery t ∷ [])) i (entered (ticked now.clock) t none_heard) now.waiting (newcomer i q) others))

  pub known_delivery : (t : Transaction) → es ≡ before ++ delivery t ∷ rest → Known s (before ++ delivery t ∷ []) (step (delivery t) now).next
  unfolding accepted deliver_with deliver_at
  known_delivery t cut =
      refused_or (refusal (delivery t) now)
      (λ q. rw (step_accepted (delivery t) now q)
      (known_closing s (before ++ delivery t ∷ []) _ (ticked now.clock) (list_after t now) now.books
      (last_next before (delivery t) s known.here ∙ rw (step_accepted (delivery t) now q)) (joined_entered t cut q)))
      (λ n q. known_refused (delivery t) q (entries_unvoted (delivery t) (λ i. refl)))

  pub known_change : (k : ℕ) → Known s (before ++ change k ∷ []) (step (change k) now).next
  unfolding accepted take_change
  known_change k =
      refused_or (refusal (change k) now)
      (λ q. rw (step_accepted (change k) now q)
      (known_closing s (before ++ change k ∷ []) _ (with_k k now.clock) now.waiting now.books
      (last_next before (change k) s known.here ∙ rw (step_accepted (change k) now q)) (entries_unvoted (change k) (λ i. refl))))
      (λ n q. known_refused (change k) q (entries_unvoted (change k) (λ i. refl)))

  pub known_read : (key : ℕ) (st : Snapshot) → Known s (before ++ read key st ∷ []) (step (read key st) now).next
  unfolding accepted take_read
  known_read key st =
      known_nothing (read key st)
      (refused_or (refusal (read key st) now) (λ q. rw (step_accepted (read key st) now q)) (λ n q. rw (step_refused (read key st) now q)))
      (entries_unvoted (read key st) (λ i. refl))

  -- A vote on a waiting entry is taken; any other changes nothing.
  module _ (i p : ℕ) (b : Ballot) (cut : es ≡ before ++ vote i p b ∷ rest) where
    vote_taken : waits_for i now ≡ true → refusal (vote i p b) now ≡ none
    unfolding refusal checks vote_checks first_of
    vote_taken waits =
        let own : now.clock.own ≡ s.clock.own = ap (λ (x : State). x.clock.own) (sym known.here) ∙ own_stays before s in
        let ours : list_any (λ e. is_for i e && not (other now.clock.own e.transaction.partitions p)) now.waiting ≡ false =
        rw own (any_false (λ e. is_for i e && not (other s.clock.own e.transaction.partitions p)) now.waiting
        (each_weaken (Entered s before) (λ e. (is_for i e && not (other s.clock.own e.transaction.partitions p)) ≡ false)
        (λ e h. involved s es timed before e h i p b rest cut) now.waiting known.entries)) in
        let new : list_any (λ e. is_for i e && heard_from e.heard p) now.waiting ≡ false =
        any_false (λ e. is_for i e && heard_from e.heard p) now.waiting
        (each_weaken (Entered s before) (λ e. (is_for i e && heard_from e.heard p) ≡ false)
        (λ e h. unheard s es timed before e h i p b rest cut) now.waiting known.entries) in
        rw (waits, ours, new)

    vote_unknown : waits_for i now ≡ false → refusal (vote i p b) now ≡ some 9
    unfolding refusal checks vote_checks first_of
    vote_unknown unknown = rw unknown

    pub voted_entered : Each (Entered s (before ++ vote i p b ∷ [])) (map (with_vote i p b) now.waiting)
    voted_entered =
        each_map (with_vote i p b) (Entered s before) (Entered s (before ++ vote i p b ∷ [])) (entered_vote s before i p b) now.waiting known.entries

    pub known_vote : Known s (before ++ vote i p b ∷ []) (step (vote i p b) now).next
    unfolding accepted take_vote
    known_vote =
        split (waits_for i now)
        (λ q. rw (step_accepted (vote i p b) now (vote_taken q))
        (known_closing s (before ++ vote i p b ∷ []) _ now.clock (map (with_vote i p b) now.waiting) now.books
        (last_next before (vote i p b) s known.here ∙ rw (step_accepted (vote i p b) now (vote_taken q))) voted_entered))
        (λ q. known_refused (vote i p b) (vote_unknown q) (entries_same s before (vote i p b) now.waiting (each_false (is_for i) now.waiting q) known.entries))
