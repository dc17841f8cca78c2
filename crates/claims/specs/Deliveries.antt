-- Demand 2 for a delivery that isn't refused: its own answer is the one that 01's three numbered rules give, and tells the host which vote to send.
use Rattle.std.specs.Prelude.{ℕ, ◌+◌, cond, ◌↔◌, ◌≡◌}
use Rattle.std.proofs.Math.Logic.Iff
use Rattle.std.proofs.Math.Option.{none, some}
use Rattle.std.proofs.Common.{sym, ◌∙◌}
use Rattle.rules.specs.Partitions.{aye, nay}
use Rattle.rules.specs.Ledger.{Transaction, State, is_local}
use Rattle.rules.specs.Delivery.{ticked, Fate, abort, join, fate, vote_to_send}
use Rattle.rules.specs.Events.{delivery, Answer, waits, aborted, closing, delivered, deliver_at, deliver_with, accepted}
use Rattle.rules.specs.Refusals.{refusal, step}
use Rattle.laws.specs.Tests.{split}
use Rattle.claims.specs.Steps.{step_accepted}
use Rattle.claims.specs.Clashes.{ClashingCommit}
use Rattle.claims.specs.Fates.{NoPlace, Entangled, Placed, fate_one_exactly, fate_two_exactly, fate_three_exactly, fate_join_exactly}

-- "aborted, reason": with DC, and a no to send for a global one
abbrev pub abort_answer : Transaction → State → ℕ → Answer
abort_answer t s reason = aborted (s.clock.dc + 1) reason (cond (is_local s.clock.own t) none (some nay))

-- It waits at a place: with DC, and a yes to send for a global one.
abbrev pub wait_answer : Transaction → State → ℕ → Answer
wait_answer t s i = waits (s.clock.dc + 1) i (cond (is_local s.clock.own t) none (some aye))

abbrev spoken : Transaction → State → Fate → Answer
spoken t s (abort reason) = abort_answer t s reason
spoken t s (join i) = wait_answer t s i

speaks : (t : Transaction) (s : State) (f : Fate) → delivered (ticked s.clock) (vote_to_send (is_local s.clock.own t) f) f ≡ spoken t s f
unfolding delivered vote_to_send ticked
speaks t s (abort reason) = split (is_local s.clock.own t) (λ q. rw q) (λ q. rw q)
speaks t s (join i) = split (is_local s.clock.own t) (λ q. rw q) (λ q. rw q)

spoken_abort : (t : Transaction) (s : State) (f : Fate) (reason : ℕ) → spoken t s f ≡ abort_answer t s reason → f ≡ abort reason
spoken_abort t s (abort r) reason h = cc
spoken_abort t s (join i) reason h = cc

spoken_join : (t : Transaction) (s : State) (f : Fate) (i : ℕ) → spoken t s f ≡ wait_answer t s i → f ≡ join i
spoken_join t s (abort r) i h = cc
spoken_join t s (join j) i h = cc

module _ (t : Transaction) (s : State) (taken : refusal (delivery t) s ≡ none) where
  answered : (step (delivery t) s).answer ≡ spoken t s (fate (ticked s.clock) t s.waiting s.books)
  unfolding accepted deliver_with deliver_at closing ticked
  answered = rw (step_accepted (delivery t) s taken) (speaks t s (fate (ticked s.clock) t s.waiting s.books))

  says_abort : (reason : ℕ) → (step (delivery t) s).answer ≡ abort_answer t s reason
      ↔ (fate (ticked s.clock) t s.waiting s.books ≡ abort reason)
  says_abort reason =
      (λ h. spoken_abort t s (fate (ticked s.clock) t s.waiting s.books) reason (sym answered ∙ h), λ h. answered ∙ rw h)

  says_join : (i : ℕ) → (step (delivery t) s).answer ≡ wait_answer t s i
      ↔ (fate (ticked s.clock) t s.waiting s.books ≡ join i)
  says_join i =
      (λ h. spoken_join t s (fate (ticked s.clock) t s.waiting s.books) i (sym answered ∙ h), λ h. answered ∙ rw h)

  -- "It is tested against each commit of version st+1 to SC. [..] Any clash: aborted, reason 1."
  pub reason_1_exactly : (step (delivery t) s).answer ≡ abort_answer t s 1 ↔ ClashingCommit s.clock.own t s.books
  unfolding ticked
  reason_1_exactly = Iff.trans (says_abort 1) (fate_one_exactly (ticked s.clock) t s.waiting s.books)

  -- "A global one is tested in the same two ways against every waiting entry. Any clash: aborted, reason 2."
  pub reason_2_exactly : (step (delivery t) s).answer ≡ abort_answer t s 2 ↔ Entangled (ticked s.clock) t s.waiting s.books
  reason_2_exactly = Iff.trans (says_abort 2) (fate_two_exactly (ticked s.clock) t s.waiting s.books)

  -- "If none exists: aborted, reason 3."
  pub reason_3_exactly : (step (delivery t) s).answer ≡ abort_answer t s 3 ↔ NoPlace (ticked s.clock) t s.waiting s.books
  reason_3_exactly = Iff.trans (says_abort 3) (fate_three_exactly (ticked s.clock) t s.waiting s.books)

  -- "Else it joins at the end." "A local one takes the smallest place i, from 0 to the list's length, such that [..]"
  pub place_exactly : (i : ℕ) → (step (delivery t) s).answer ≡ wait_answer t s i ↔ Placed (ticked s.clock) t s.waiting s.books i
  place_exactly i = Iff.trans (says_join i) (fate_join_exactly (ticked s.clock) t s.waiting s.books i)
