-- The eager run: deliveries come with all their votes in hand, so votes and reads do nothing. What the engine has finished, and what it then owes, is what the eager run finished.
use Rattle.std.specs.Prelude.{ℕ, List, [], ◌∷◌, ◌++◌, map, ◌≡◌, refl}
use Rattle.std.proofs.Math.Option.{Option, none, some}
use Rattle.std.proofs.Common.{sym, ap, ◌∙◌}
use Rattle.std.proofs.lemmas.List.{length-map}
use Rattle.rules.specs.Partitions.{Ballot, Heard, none_heard}
use Rattle.rules.specs.Ledger.{Transaction, Entry, Clock, Books, State}
use Rattle.rules.specs.Place.{place}
use Rattle.rules.specs.Delivery.{Fate, abort, join, ticked, entered, clash_entry, blocks, passes, fate, joined}
use Rattle.rules.specs.Closing.{ready, commits, finish, books_after, close, Closed, Finish}
use Rattle.rules.specs.Events.{Event, delivery, vote, change, read, Snapshot, Answer, refused, voted, changed, Step, closing, deliver_at, deliver_with, with_vote, take_vote, with_k, take_change, take_read, accepted}
use Rattle.rules.specs.Refusals.{is_for, checks, delivery_checks, refusal, unless_refused, step}
use Rattle.claims.specs.Steps.{step_refused, step_accepted, refused_or}
use Rattle.laws.specs.Each.{Each, any_unseen, all_unseen, map_unseen}
use Rattle.laws.specs.Inserts.{map_insert}
use Rattle.claims.specs.Filled.{fill, Under, following, lag}
use Rattle.claims.specs.Timing.{moves}

-- What a run gives: the deliveries' own answers, all finishes, and the last state.
pub record Run : Type 0 where
  pub answers : List Answer
  pub finishes : List Finish
  pub state : State

abbrev pub answered : Step → Run → Run
answered r later = record { answers = r.answer ∷ later.answers; finishes = r.finishes ++ later.finishes; state = later.state }

unfoldable pub eager_delivery : (ℕ → Heard) → Transaction → State → Step
eager_delivery w t s = unless_refused (refusal (delivery t) s) s (deliver_with (w t.identity) t s)

unfoldable pub eager_change : ℕ → State → State
eager_change k s =
    (unless_refused (refusal (change k) s) s
    (record { answer = changed; finishes = []; next = record { clock = with_k k s.clock; waiting = s.waiting; books = s.books } })
    ).next

unfoldable pub eager : (ℕ → Heard) → List Event → State → Run
eager w [] s = record { answers = []; finishes = []; state = s }
eager w (delivery t ∷ es) s = answered (eager_delivery w t s) (eager w es (eager_delivery w t s).next)
eager w (vote i p b ∷ es) s = eager w es s
eager w (change k ∷ es) s = eager w es (eager_change k s)
eager w (read key st ∷ es) s = eager w es s

-- It goes by the deliveries and changes alone.
pub eager_moves : (w : ℕ → Heard) (es : List Event) (s : State) → eager w es s ≡ eager w (moves es) s
unfolding eager moves
eager_moves w [] s = refl
eager_moves w (delivery t ∷ es) s = ap (answered (eager_delivery w t s)) (eager_moves w es (eager_delivery w t s).next)
eager_moves w (vote i p b ∷ es) s = eager_moves w es s
eager_moves w (change k ∷ es) s = eager_moves w es (eager_change k s)
eager_moves w (read key st ∷ es) s = eager_moves w es s

-- The state with its entries filled; what it then owes; the state when it has caught up.
unfoldable pub filled : (ℕ → Heard) → State → State
filled w s = record { clock = s.clock; waiting = map (fill w) s.waiting; books = s.books }

unfoldable pub owed : (ℕ → Heard) → State → Closed
owed w s = close s.clock (map (fill w) s.waiting) s.books

unfoldable pub caught_up : (ℕ → Heard) → State → State
caught_up w s = record { clock = s.clock; waiting = (owed w s).waiting; books = (owed w s).books }

-- A step, and what is owed after it.
unfoldable pub ahead : (ℕ → Heard) → Step → Step
ahead w r = record { answer = r.answer; finishes = r.finishes ++ (owed w r.next).finishes; next = caught_up w r.next }

-- Neither the refusal of a delivery nor its fate looks at votes.
refusal_fill : (w : ℕ → Heard) (t : Transaction) (s : State) → refusal (delivery t) (filled w s) ≡ refusal (delivery t) s
unfolding refusal checks delivery_checks filled fill
refusal_fill w t s = rw (any_unseen (fill w) (is_for t.identity) (λ e. refl) s.waiting, length-map s.waiting (fill w))

place_fill : (w : ℕ → Heard) (c : Clock) (t : Transaction) (es : List Entry)
    → place (blocks t) (passes c t) (map (fill w) es) ≡ place (blocks t) (passes c t) es
unfolding place fill blocks passes
place_fill w c t [] = refl
place_fill w c t (e ∷ es) = rw (all_unseen (fill w) (passes c t) (λ x. refl) es, place_fill w c t es)

fate_fill : (w : ℕ → Heard) (c : Clock) (t : Transaction) (es : List Entry) (b : Books) → fate c t (map (fill w) es) b ≡ fate c t es b
unfolding fate fill clash_entry
fate_fill w c t es b =
    rw (place_fill w c t es, any_unseen (fill w) (clash_entry c.own t) (λ e. refl) es, length-map es (fill w))

joined_fill : (w : ℕ → Heard) (f : Fate) (c : Clock) (t : Transaction) (h : Heard) (es : List Entry)
    → joined f (entered c t (w t.identity)) (map (fill w) es) ≡ map (fill w) (joined f (entered c t h) es)
unfolding joined fill entered
joined_fill w (abort reason) c t h es = refl
joined_fill w (join i) c t h es = sym (map_insert (fill w) i (entered c t h) es)

closing_fill : (w : ℕ → Heard) (a : Answer) (c : Clock) (es : List Entry) (b : Books) → Each (Under w) es
    → closing a c (map (fill w) es) b ≡ ahead w (closing a c es b)
unfolding closing ahead caught_up owed
closing_fill w a c es b h = rw (lag w c es b h)

-- The list before the closing of a delivery.
abbrev pub list_after : Transaction → State → List Entry
list_after t s = joined (fate (ticked s.clock) t s.waiting s.books) (entered (ticked s.clock) t none_heard) s.waiting

deliver_fill : (w : ℕ → Heard) (t : Transaction) (s : State) → Each (Under w) (list_after t s)
    → deliver_with (w t.identity) t (filled w s) ≡ ahead w (accepted (delivery t) s)
unfolding deliver_with deliver_at filled accepted
deliver_fill w t s h =
    rw (
      fate_fill w (ticked s.clock) t s.waiting s.books,
      joined_fill w (fate (ticked s.clock) t s.waiting s.books) (ticked s.clock) t none_heard s.waiting,
    )
    (closing_fill w _ (ticked s.clock) (list_after t s) s.books h)

-- A delivery at which nothing is owed.
module _ (w : ℕ → Heard) (t : Transaction) (s : State) (free : owed w s ≡ record { finishes = []; waiting = (filled w s).waiting; books = s.books }) where
  pub caught_up_free : caught_up w s ≡ filled w s
  unfolding caught_up filled
  caught_up_free = rw free

  pub eager_ahead : (refusal (delivery t) s ≡ none → Each (Under w) (list_after t s)) → eager_delivery w t (filled w s) ≡ ahead w (step (delivery t) s)
  unfolding eager_delivery unless_refused ahead
  eager_ahead h =
      refused_or (refusal (delivery t) s)
      (λ q. rw (refusal_fill w t s, q, step_accepted (delivery t) s q) (deliver_fill w t s (h q)))
      (λ n q. rw (refusal_fill w t s, q, step_refused (delivery t) s q, caught_up_free, free))

-- A step that is no delivery: what was owed is what finishes and what is owed then, and the eager run goes on from x.
pub record Quiet (w : ℕ → Heard) (s : State) (r : Step) (x : State) : Type 0 where
  pub owes : owed w s ≡ following r.finishes (owed w r.next)
  pub stays : caught_up w r.next ≡ x

nothing_quiet : (w : ℕ → Heard) (a : Answer) (s : State) → Quiet w s (record { answer = a; finishes = []; next = s }) (caught_up w s)
nothing_quiet w a s = record { owes = refl; stays = refl }

closing_quiet : (w : ℕ → Heard) (a : Answer) (s : State) (c : Clock) (es : List Entry)
    → owed w s ≡ close c (map (fill w) es) s.books → Each (Under w) es
    → Quiet w s (closing a c es s.books) (record { clock = c; waiting = (owed w s).waiting; books = (owed w s).books })
unfolding closing caught_up owed
closing_quiet w a s c es same h = record { owes = same ∙ lag w c es s.books h; stays = rw (same, lag w c es s.books h) }

pub vote_quiet : (w : ℕ → Heard) (i p : ℕ) (b : Ballot) (s : State) → Each (Under w) (map (with_vote i p b) s.waiting)
    → Quiet w s (step (vote i p b) s) (caught_up w s)
unfolding accepted take_vote owed caught_up fill with_vote
vote_quiet w i p b s h =
    refused_or (refusal (vote i p b) s)
    (λ q. rw (step_accepted (vote i p b) s q)
    (closing_quiet w voted s s.clock (map (with_vote i p b) s.waiting) (rw (map_unseen (fill w) (with_vote i p b) (λ e. refl) s.waiting)) h))
    (λ n q. rw (step_refused (vote i p b) s q) (nothing_quiet w (refused n) s))

pub read_quiet : (w : ℕ → Heard) (key : ℕ) (st : Snapshot) (s : State) → Quiet w s (step (read key st) s) (caught_up w s)
unfolding accepted take_read
read_quiet w key st s =
    refused_or (refusal (read key st) s)
    (λ q. rw (step_accepted (read key st) s q) (nothing_quiet w _ s))
    (λ n q. rw (step_refused (read key st) s q) (nothing_quiet w (refused n) s))

-- Closing doesn't look at k.
close_with_k : (k : ℕ) (c : Clock) (es : List Entry) (b : Books) → close c es b ≡ close (with_k k c) es b
unfolding close ready commits books_after finish with_k
close_with_k k c es b = refl

change_refusal : (k : ℕ) (s x : State) {o : Option ℕ} → refusal (change k) s ≡ o → refusal (change k) x ≡ o
unfolding refusal checks
change_refusal k s x q = q

eager_change_taken : (k : ℕ) (s : State) → refusal (change k) s ≡ none
    → eager_change k s ≡ record { clock = with_k k s.clock; waiting = s.waiting; books = s.books }
unfolding eager_change unless_refused
eager_change_taken k s q = rw (q, eager_change)

eager_change_refused : (k : ℕ) (s : State) {n : ℕ} → refusal (change k) s ≡ some n → eager_change k s ≡ s
unfolding eager_change unless_refused
eager_change_refused k s q = rw (q, eager_change)

pub change_quiet : (w : ℕ → Heard) (k : ℕ) (s : State) → Each (Under w) s.waiting → Quiet w s (step (change k) s) (eager_change k (caught_up w s))
unfolding accepted take_change owed caught_up
change_quiet w k s h =
    refused_or (refusal (change k) s)
    (λ q. rw (step_accepted (change k) s q, eager_change_taken k (caught_up w s) (change_refusal k s (caught_up w s) q))
    (closing_quiet w changed s (with_k k s.clock) s.waiting (close_with_k k s.clock (map (fill w) s.waiting) s.books) h))
    (λ n q. rw (step_refused (change k) s q, eager_change_refused k (caught_up w s) (change_refusal k s (caught_up w s) q)) (nothing_quiet w (refused n) s))
