-- 01's first fact: accepted deliveries equal commits, aborts and waiting together, the aborts counted from the answers given. And DC, SC and
-- the number of finishes are the log's own counts.
use Rattle.std.specs.Prelude.{ℕ, suc, ◌+◌, List, [], ◌∷◌, map, ◌≡◌, refl, length, sum_by}
use Rattle.std.proofs.Math.Option.{Option}
use Rattle.std.proofs.Common.{sym, ◌∙◌, arith, length-append}
use Rattle.std.proofs.lemmas.List.{length-map}
use Rattle.std.proofs.lemmas.List.Sums.{sum_by-cons, sum_by-append}
use Rattle.rules.specs.Partitions.{Ballot, none_heard}
use Rattle.rules.specs.Ledger.{Entry, Clock, Books, State, opening, is_local}
use Rattle.rules.specs.Delivery.{ticked, entered, Fate, abort, join, fate, joined, vote_to_send}
use Rattle.rules.specs.Closing.{ready, commits, committed, Outcome, version, aborts, Finish, finish, books_after, close}
use Rattle.rules.specs.Events.{Event, delivery, vote, change, read, Answer, refused, waits, aborted, voted, changed, value, Step, closing, delivered, deliver_at, deliver_with, with_vote, take_vote, with_k, take_change, take_read, accepted}
use Rattle.rules.specs.Refusals.{refusal, step}
use Rattle.rules.specs.Logs.{steps, last, finishes}
use Rattle.laws.specs.Tests.{split}
use Rattle.claims.specs.Steps.{close_nil, close_ready, close_rest, step_accepted, step_refused, refused_or}
use Rattle.laws.specs.Inserts.{length_insert}

-- How many answers of a log say that a delivery waits, and how many that it was aborted: 1 or 0 for each answer.
abbrev pub joins_told : Answer → ℕ
joins_told (refused n) = 0
joins_told (waits dc i send) = 1
joins_told (aborted dc reason send) = 0
joins_told voted = 0
joins_told changed = 0
joins_told (value st x) = 0

abbrev pub aborts_told : Answer → ℕ
aborts_told (refused n) = 0
aborts_told (waits dc i send) = 0
aborts_told (aborted dc reason send) = 1
aborts_told voted = 0
aborts_told changed = 0
aborts_told (value st x) = 0

-- How many finishes are commits, and how many are aborts.
abbrev pub commit_of : Outcome → ℕ
commit_of (version v) = 1
commit_of aborts = 0

abbrev pub abort_of : Outcome → ℕ
abort_of (version v) = 0
abort_of aborts = 1

-- Closing: every entry that is gone has a finish, and SC counts the commits among them.
record ClosedCounts (es : List Entry) (b : Books) (fs : List Finish) (left : List Entry) (after : Books) : Type 0 where
  pub entries : length es ≡ length fs + length left
  pub versions : after.sc ≡ b.sc + sum_by (λ f. commit_of f.outcome) fs

finish_sc : (c : Clock) (e : Entry) (b : Books) → (books_after c e b).sc ≡ b.sc + commit_of (finish c e b).outcome
unfolding books_after finish committed
finish_sc c e b = split (commits c e) (λ q. rw q) (λ q. rw q (omega arith))

close_counts : (c : Clock) (es : List Entry) (b : Books)
    → ClosedCounts es b (close c es b).finishes (close c es b).waiting (close c es b).books
close_counts c [] b = rw (close_nil c b) (record { entries = refl; versions = omega arith })
close_counts c (e ∷ es) b =
    split (ready c e)
    (λ q. let r = close_counts c es (books_after c e b) in
    let more = sum_by-cons (λ (f : Finish). commit_of f.outcome) (finish c e b) (close c es (books_after c e b)).finishes in
    rw (close_ready c e es b q) (record { entries = omega arith; versions = omega (arith, finish_sc c e b, more) }))
    (λ q. rw (close_rest c e es b q) (record { entries = omega arith; versions = omega arith }))

-- One event: DC counts the accepted deliveries, SC the commits, and whoever joined waits or has finished.
record StepCounts (s : State) (r : Step) : Type 0 where
  pub deliveries : r.next.clock.dc ≡ s.clock.dc + (joins_told r.answer + aborts_told r.answer)
  pub versions : r.next.books.sc ≡ s.books.sc + sum_by (λ f. commit_of f.outcome) r.finishes
  pub entries : length s.waiting + joins_told r.answer ≡ length r.finishes + length r.next.waiting

closing_counts : (s : State) (a : Answer) (c : Clock) (es : List Entry) → c.dc ≡ s.clock.dc + (joins_told a + aborts_told a)
    → length es ≡ length s.waiting + joins_told a → StepCounts s (closing a c es s.books)
unfolding closing
closing_counts s a c es dc joins =
    let k = close_counts c es s.books in
    record { deliveries = dc; versions = k.versions; entries = sym joins ∙ k.entries }

delivered_told : (c : Clock) (send : Option Ballot) (f : Fate) → joins_told (delivered c send f) + aborts_told (delivered c send f) ≡ 1
unfolding delivered
delivered_told c send (abort reason) = refl
delivered_told c send (join i) = refl

delivered_joins : (c : Clock) (send : Option Ballot) (f : Fate) (e : Entry) (es : List Entry)
    → length (joined f e es) ≡ length es + joins_told (delivered c send f)
unfolding delivered joined
delivered_joins c send (abort reason) e es = omega arith
delivered_joins c send (join i) e es = omega (arith, length_insert i e es)

delivered_ticks : (s : State) (send : Option Ballot) (f : Fate)
    → (ticked s.clock).dc ≡ s.clock.dc + (joins_told (delivered (ticked s.clock) send f) + aborts_told (delivered (ticked s.clock) send f))
unfolding ticked
delivered_ticks s send f = omega (arith, delivered_told (ticked s.clock) send f)

accepted_counts : (e : Event) (s : State) → StepCounts s (accepted e s)
unfolding accepted deliver_with deliver_at take_vote take_change take_read with_k
accepted_counts (delivery t) s =
    let c = ticked s.clock in
    let f = fate c t s.waiting s.books in
    let send = vote_to_send (is_local c.own t) f in
    closing_counts s (delivered c send f) c (joined f (entered c t none_heard) s.waiting) (delivered_ticks s send f)
    (delivered_joins c send f (entered c t none_heard) s.waiting)
accepted_counts (vote i p b) s =
    closing_counts s voted s.clock (map (with_vote i p b) s.waiting) (omega arith) (omega (arith, length-map s.waiting (with_vote i p b)))
accepted_counts (change k) s = closing_counts s changed (with_k k s.clock) s.waiting (omega arith) (omega arith)
accepted_counts (read key st) s = record { deliveries = omega arith; versions = omega arith; entries = omega arith }

step_counts : (e : Event) (s : State) → StepCounts s (step e s)
step_counts e s =
    refused_or (refusal e s) (λ q. rw (step_accepted e s q) (accepted_counts e s))
    (λ n q. rw (step_refused e s q) (record { deliveries = omega arith; versions = omega arith; entries = omega arith }))

-- What a log's answers and finishes count.
abbrev pub joined_in : List Event → State → ℕ
joined_in es s = sum_by (λ r. joins_told r.answer) (steps es s)

abbrev pub aborted_at_delivery : List Event → State → ℕ
aborted_at_delivery es s = sum_by (λ r. aborts_told r.answer) (steps es s)

abbrev pub committed_in : List Event → State → ℕ
committed_in es s = sum_by (λ f. commit_of f.outcome) (finishes es s)

abbrev pub aborted_at_closing : List Event → State → ℕ
aborted_at_closing es s = sum_by (λ f. abort_of f.outcome) (finishes es s)

-- "accepted deliveries": those whose answer is neither a refusal nor another event's.
abbrev pub accepted_deliveries : List Event → State → ℕ
accepted_deliveries es s = joined_in es s + aborted_at_delivery es s

record LogCounts (es : List Event) (s : State) : Type 0 where
  pub deliveries : (last es s).clock.dc ≡ s.clock.dc + accepted_deliveries es s
  pub versions : (last es s).books.sc ≡ s.books.sc + committed_in es s
  pub entries : length s.waiting + joined_in es s ≡ length (finishes es s) + length (last es s).waiting

log_counts : (es : List Event) (s : State) → LogCounts es s
unfolding steps last finishes
log_counts [] s = record { deliveries = omega arith; versions = omega arith; entries = omega arith }
log_counts (e ∷ es) s =
    let k = step_counts e s in
    let r = log_counts es (step e s).next in
    let later = finishes es (step e s).next in
    let now = (step e s).finishes in
    let joins = sum_by-cons (λ (q : Step). joins_told q.answer) (step e s) (steps es (step e s).next) in
    let aborted = sum_by-cons (λ (q : Step). aborts_told q.answer) (step e s) (steps es (step e s).next) in
    record {
      deliveries = omega (arith, k.deliveries, r.deliveries, joins, aborted);
      versions = omega (arith, k.versions, r.versions, sum_by-append (λ f. commit_of f.outcome) now later);
      entries = omega (arith, k.entries, r.entries, length-append now later, joins);
    }

-- Every finish is a commit or an abort.
finishes_are : (fs : List Finish) → length fs ≡ sum_by (λ f. commit_of f.outcome) fs + sum_by (λ f. abort_of f.outcome) fs
finishes_are [] = refl
finishes_are (f ∷ fs) =
    one f.outcome (finishes_are fs)
    ∙ omega (arith, sum_by-cons (λ (g : Finish). commit_of g.outcome) f fs, sum_by-cons (λ (g : Finish). abort_of g.outcome) f fs)
  where
    one : (o : Outcome) → length fs ≡ sum_by (λ g. commit_of g.outcome) fs + sum_by (λ g. abort_of g.outcome) fs
        → suc (length fs) ≡ commit_of o + sum_by (λ g. commit_of g.outcome) fs + (abort_of o + sum_by (λ g. abort_of g.outcome) fs)
    one (version v) h = omega arith
    one aborts h = omega arith

-- "each equals the log's own count", of any log from opening
pub record OwnCounts (es : List Event) (s : State) : Type 0 where
  pub dc_counts : (last es s).clock.dc ≡ accepted_deliveries es s
  pub sc_counts : (last es s).books.sc ≡ committed_in es s
  pub finishes_count : length (finishes es s) + length (last es s).waiting ≡ joined_in es s
  -- "accepted deliveries equal commits, aborts and waiting together, the aborts counted from the answers given"
  pub nothing_lost : accepted_deliveries es s
      ≡ committed_in es s + (aborted_at_delivery es s + aborted_at_closing es s) + length (last es s).waiting

pub own_counts : (es : List Event) (partitions own k : ℕ) → OwnCounts es (opening partitions own k)
unfolding opening
own_counts es partitions own k =
    let s = opening partitions own k in
    let r = log_counts es s in
    let each = finishes_are (finishes es s) in
    record {
      dc_counts = omega (arith, r.deliveries);
      sc_counts = omega (arith, r.versions);
      finishes_count = omega (arith, r.entries);
      nothing_lost = omega (arith, r.entries, each);
    }
