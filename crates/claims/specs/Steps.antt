-- One induction for closing and one case rule for an event and for a log: every invariant is shown by these.
use Rattle.std.specs.Prelude.{ℕ, true, false, List, [], ◌∷◌, ◌≡◌, refl}
use Rattle.std.proofs.Math.Option.{Option, none, some}
use Rattle.rules.specs.Ledger.{Entry, Clock, Books, State}
use Rattle.rules.specs.Closing.{ready, finish, books_after, close_with, close, finish_first}
use Rattle.rules.specs.Events.{Event, delivery, vote, change, read, Step, Answer, refused, accepted, closing, deliver_with, deliver_at, take_vote, take_change, take_read}
use Rattle.rules.specs.Refusals.{refusal, unless_refused, step}
use Rattle.rules.specs.Logs.{last}
use Rattle.laws.specs.Tests.{split}

-- Closing an empty list; a list whose head is ready; one whose head is not.
pub close_nil : (c : Clock) (b : Books) → close c [] b ≡ record { finishes = []; waiting = []; books = b }
unfolding close close_with
close_nil c b = refl

pub close_ready : (c : Clock) (e : Entry) (es : List Entry) (b : Books) → ready c e ≡ true
    → close c (e ∷ es) b ≡ finish_first (finish c e b) (close c es (books_after c e b))
unfolding close close_with
close_ready c e es b q = rw q

pub close_rest : (c : Clock) (e : Entry) (es : List Entry) (b : Books) → ready c e ≡ false
    → close c (e ∷ es) b ≡ record { finishes = []; waiting = e ∷ es; books = b }
unfolding close close_with
close_rest c e es b q = rw q

-- What every ready head keeps as it is taken off, closing keeps.
pub close_keeps : (c : Clock) (P : List Entry → Books → Type 0)
    → ((e : Entry) (es : List Entry) (b : Books) → ready c e ≡ true → P (e ∷ es) b → P es (books_after c e b))
    → (es : List Entry) (b : Books) → P es b → P (close c es b).waiting (close c es b).books
close_keeps c P off [] b h = rw (close_nil c b) h
close_keeps c P off (e ∷ es) b h =
    split (ready c e)
    (λ q. rw (close_ready c e es b q) (close_keeps c P off es (books_after c e b) (off e es b q h)))
    (λ q. rw (close_rest c e es b q) h)

-- An accepted event closes some list at some clock, on the books as they were; a read leaves all as it is.
pub accepted_closes : (P : Step → Type 0) (e : Event) (s : State)
    → ((a : Answer) (c : Clock) (es : List Entry) → P (closing a c es s.books))
    → ((a : Answer) → P (record { answer = a; finishes = []; next = s })) → P (accepted e s)
unfolding accepted deliver_with deliver_at take_vote take_change take_read
accepted_closes P (delivery t) s k r = k _ _ _
accepted_closes P (vote i p b) s k r = k _ _ _
accepted_closes P (change n) s k r = k _ _ _
accepted_closes P (read key st) s k r = r _

-- What is refused, and what isn't.
pub step_refused : (e : Event) (s : State) {n : ℕ} → refusal e s ≡ some n → step e s ≡ record { answer = refused n; finishes = []; next = s }
unfolding step unless_refused
step_refused e s q = rw q

pub step_accepted : (e : Event) (s : State) → refusal e s ≡ none → step e s ≡ accepted e s
unfolding step unless_refused
step_accepted e s q = rw q

-- A case split on what the desk says.
pub refused_or {ℓ} : {C : Type ℓ} (o : Option ℕ) → (o ≡ none → C) → ((n : ℕ) → o ≡ some n → C) → C
refused_or none taken turned = taken refl
refused_or (some n) taken turned = turned n refl

-- What every accepted event keeps, an event keeps; what every event keeps, a log keeps.
pub step_keeps : (P : State → Type 0) (e : Event) (s : State)
    → (refusal e s ≡ none → P s → P (accepted e s).next) → P s → P (step e s).next
step_keeps P e s k h =
    refused_or (refusal e s) (λ q. rw (step_accepted e s q) (k q h)) (λ n q. rw (step_refused e s q) h)

pub last_keeps : (P : State → Type 0) → ((e : Event) (s : State) → P s → P (step e s).next)
    → (es : List Event) (s : State) → P s → P (last es s)
unfolding last
last_keeps P k [] s h = h
last_keeps P k (e ∷ es) s h = last_keeps P k es (step e s).next (k e s h)
