-- One call: what it means, refusals included. On memory that is long enough it is the rules' desk; on memory too short it is 13 or 15, and nothing else.
use Rattle.std.specs.Prelude.{ℕ, ◌*◌, ◌/◌, ◌≤◌, true, false, List, [], ◌∷◌, cond, ltb, ◌≡◌, refl, pos, length, get_or, zero, suc, Some, None}
use Rattle.std.proofs.Common.{sym, ap, ◌∙◌, subst, arith}
use Rattle.rules.specs.Sizes.{most_waiting}
use Rattle.rules.specs.Partitions.{Ballot, is_aye, aye, nay}
use Rattle.rules.specs.Ledger.{Write, Transaction, State, keys_of}
use Rattle.rules.specs.Closing.{Finish}
use Rattle.rules.specs.Events.{Event, delivery, vote, change, read, Answer, refused, Step, Snapshot, at, newest, accepted, take_read}
use Rattle.rules.specs.Refusals.{first_of, too_little_room, desk_checks, unless_refused, step, desk}
use Rattle.rules.specs.Soundness.{sound}
use Rattle.std.proofs.Math.Option.{Option, none, some}
use Rattle.laws.specs.Tabs.{tab_as, tab_list}
use Rattle.laws.specs.Cuts.{put, put_nothing}
use Rattle.claims.specs.Refused.{desk_is_step}
use Rattle.claims.specs.Soundness.{step_sound}
use Rattle.tables.specs.Layout.{book_words, sums_words}
use Rattle.tables.specs.NewRow.{writes_of}
use Rattle.tables.specs.Judged.{lent}
use Rattle.tables.specs.Closed.{words_of}
use Rattle.refusing.specs.Operands.{short, lent_number, delivery_number, vote_number, change_number, read_number}
use Rattle.laws.specs.Tests.{split}
use Rattle.engine.specs.Answers.{After, Means, delivered_said, delivered_finishes, voted_said, changed_said, finishes_told, reading_said}
use Rattle.engine.specs.Operations.{delivering, voting, changing, reading}
use Rattle.engine.specs.Meanings.{delivering_means, voting_means, changing_means, reading_means}
use Rattle.engine.specs.Lengths.{SameLengths, delivering_lengths, voting_lengths, changing_lengths}
use Rattle.engine.specs.Calls.{Memory, held, Called, called, amounts_of, asking, call}

-- "A lent table is too short when it holds fewer entries than one stated constant"; "the lent finish list holds fewer than 32 entries": none is.
pub record Long (m : Memory) : Type 0 where
  pub book : book_words ≤ length m.book
  pub sums : sums_words ≤ length m.sums
  pub room : most_waiting * 2 ≤ length m.finishes

-- What a call means: a step of the rules.
pub record Meant (m : Memory) (c : Called) (r : Step) : Type 0 where
  pub says : c.answer ≡ r.answer
  pub state : held c.memory ≡ r.next
  -- "Finishes fill the finish list from its start; entries past their number keep what they held."
  pub written : c.memory.finishes ≡ put m.finishes 0 (words_of r.finishes)
  pub counted : c.count ≡ length r.finishes

meant : {A : Type 0} (said : A → Answer) (count : A → ℕ) (m : Memory) (a : After A) (r : Step) → Means said count m.finishes a r → Meant m (called said count a) r
meant said count m a r h = record { says = h.says; state = h.state; written = h.told; counted = h.counted }

-- Writes apart and together again.
one_write : Write
one_write = record { key = 0; value = pos 0 }

get_key : (ws : List Write) (j : ℕ) → get_or (keys_of ws) j 0 ≡ (get_or ws j one_write).key
unfolding one_write
get_key [] j = refl
get_key (w ∷ ws) zero = refl
get_key (w ∷ ws) (suc j) = get_key ws j

get_amount : (ws : List Write) (j : ℕ) → get_or (amounts_of ws) j (pos 0) ≡ (get_or ws j one_write).value
unfolding one_write
get_amount [] j = refl
get_amount (w ∷ ws) zero = refl
get_amount (w ∷ ws) (suc j) = get_amount ws j

same_length : (ws : List Write) → length (amounts_of ws) ≡ length (keys_of ws)
same_length [] = refl
same_length (w ∷ ws) = ap suc (same_length ws)

all_keys : (ws : List Write) → length (keys_of ws) ≡ length ws
all_keys [] = refl
all_keys (w ∷ ws) = ap suc (all_keys ws)

writes_again : (ws : List Write) → writes_of (keys_of ws) (amounts_of ws) ≡ ws
unfolding writes_of
writes_again ws =
    tab_as (length (keys_of ws)) (length ws) (λ j. record { key = get_or (keys_of ws) j 0; value = get_or (amounts_of ws) j (pos 0) })
    (λ j. get_or ws j one_write) (all_keys ws) (λ j i. record { key = get_key ws j i; value = get_amount ws j i })
    ∙ tab_list ws one_write

lent_again : (t : Transaction) → lent t.identity t.partitions t.st t.reads (keys_of t.writes) (amounts_of t.writes) ≡ t
unfolding lent
lent_again t = λ i. record { identity = t.identity; partitions = t.partitions; st = t.st; reads = t.reads; writes = writes_again t.writes i }

-- A read changes nothing, and asks for no finish list.
read_nothing : (o : Option ℕ) (key : ℕ) (st : Snapshot) (s : State)
    → ((unless_refused o s (accepted (read key st) s)).next ≡ s) × ((unless_refused o s (accepted (read key st) s)).finishes ≡ [])
unfolding unless_refused accepted take_read
read_nothing none key st s = (refl, refl)
read_nothing (some n) key st s = (refl, refl)

read_desk : (room : ℕ) (key : ℕ) (st : Snapshot) (s : State)
    → ((desk room (read key st) s).next ≡ s) × ((desk room (read key st) s).finishes ≡ [])
unfolding desk
read_desk room key st s = read_nothing (first_of (desk_checks room (read key st) s)) key st s

any_room : (room : ℕ) (key : ℕ) (st : Snapshot) (s : State) → desk 0 (read key st) s ≡ desk room (read key st) s
unfolding desk desk_checks too_little_room
any_room room key st s = refl

vote_called : (i p : ℕ) (b : Ballot) (m : Memory) → Long m
    → Means voted_said finishes_told m.finishes (voting i p (is_aye b) m.book m.sums m.finishes) (desk (length m.finishes / 2) (vote i p b) (held m))
vote_called i p aye m long = voting_means i p true m.book m.sums m.finishes long.book long.sums
vote_called i p nay m long = voting_means i p false m.book m.sums m.finishes long.book long.sums

read_said : (key : ℕ) (st : Snapshot) (m : Memory) → Long m
    → reading_said (reading key (asking st) m.book m.sums) ≡ (desk 0 (read key st) (held m)).answer
read_said key (at st) m long = reading_means key (Some st) m.book m.sums long.book long.sums
read_said key newest m long = reading_means key None m.book m.sums long.book long.sums

-- One call, on memory with any state in it: refusals included, that of a state that isn't sound too.
pub call_means : (e : Event) (m : Memory) → Long m → Meant m (call e m) (desk (length m.finishes / 2) e (held m))
unfolding call words_of
call_means (delivery t) m long =
    let a = delivering t.identity t.partitions t.st t.reads (keys_of t.writes) (amounts_of t.writes) m.book m.sums m.finishes in
    meant delivered_said delivered_finishes m a (desk (length m.finishes / 2) (delivery t) (held m))
    (subst (λ (u : Transaction). Means delivered_said delivered_finishes m.finishes a (desk (length m.finishes / 2) (delivery u) (held m))) (lent_again t)
    (delivering_means t.identity t.partitions t.st t.reads (keys_of t.writes) (amounts_of t.writes) m.book m.sums m.finishes long.book long.sums (same_length t.writes)))
call_means (vote i p b) m long =
    meant voted_said finishes_told m (voting i p (is_aye b) m.book m.sums m.finishes) (desk (length m.finishes / 2) (vote i p b) (held m)) (vote_called i p b m long)
call_means (change k) m long =
    meant changed_said finishes_told m (changing k m.book m.sums m.finishes) (desk (length m.finishes / 2) (change k) (held m))
    (changing_means k m.book m.sums m.finishes long.book long.sums)
call_means (read key st) m long =
    let room = length m.finishes / 2 in
    let nothing = read_desk room key st (held m) in
    record {
      says = read_said key st m long ∙ ap (λ (r : Step). r.answer) (any_room room key st (held m));
      state = sym nothing.0;
      written = sym (ap (λ (fs : List Finish). put m.finishes 0 (words_of fs)) nothing.1 ∙ put_nothing m.finishes 0);
      counted = sym (ap length nothing.1);
    }

-- Memory stays as long as it was.
lengths_long : {A : Type 0} (said : A → Answer) (count : A → ℕ) (m : Memory) (a : After A) → SameLengths m.book m.sums m.finishes a → Long m
    → Long (called said count a).memory
lengths_long said count m a same long = record { book = rw same.book long.book; sums = rw same.sums long.sums; room = rw same.finishes long.room }

pub call_long : (e : Event) (m : Memory) → Long m → Long (call e m).memory
unfolding call
call_long (delivery t) m long =
    lengths_long delivered_said delivered_finishes m _
    (delivering_lengths t.identity t.partitions t.st t.reads (keys_of t.writes) (amounts_of t.writes) m.book m.sums m.finishes) long
call_long (vote i p b) m long = lengths_long voted_said finishes_told m _ (voting_lengths m.book m.sums m.finishes i p (is_aye b)) long
call_long (change k) m long = lengths_long changed_said finishes_told m _ (changing_lengths m.book m.sums m.finishes k) long
call_long (read key st) m long = long

-- The finish list too, whatever is lent.
pub call_list : (e : Event) (m : Memory) → length (call e m).memory.finishes ≡ length m.finishes
unfolding call
call_list (delivery t) m =
    (delivering_lengths t.identity t.partitions t.st t.reads (keys_of t.writes) (amounts_of t.writes) m.book m.sums m.finishes).finishes
call_list (vote i p b) m = (voting_lengths m.book m.sums m.finishes i p (is_aye b)).finishes
call_list (change k) m = (changing_lengths m.book m.sums m.finishes k).finishes
call_list (read key st) m = refl

-- With a sound state held, a call is the event's own step, and the state after it is sound.
pub call_steps : (e : Event) (m : Memory) → Long m → sound (held m) ≡ true → Meant m (call e m) (step e (held m))
call_steps e m long ok =
    let room = long.room in
    subst (Meant m (call e m)) (desk_is_step (length m.finishes / 2) e (held m) (omega arith) ok) (call_means e m long)

call_sound : (e : Event) (m : Memory) → Long m → sound (held m) ≡ true → sound (held (call e m).memory) ≡ true
call_sound e m long ok = rw ((call_steps e m long ok).state) (step_sound e (held m) ok)

-- "15 and 13, in that order", of memory too short: nothing is changed.
pub call_short : (e : Event) (m : Memory) → short m.book m.sums ≡ true
    → call e m ≡ record { answer = refused (cond (too_little_room (length m.finishes / 2) e) 15 13); count = 0; memory = m }
unfolding call delivering delivery_number voting vote_number changing change_number reading read_number lent_number too_little_room
call_short (delivery t) m q = split (ltb (length m.finishes / 2) most_waiting) (λ r. rw (q, r)) (λ r. rw (q, r))
call_short (vote i p b) m q = split (ltb (length m.finishes / 2) most_waiting) (λ r. rw (q, r)) (λ r. rw (q, r))
call_short (change k) m q = split (ltb (length m.finishes / 2) most_waiting) (λ r. rw (q, r)) (λ r. rw (q, r))
call_short (read key st) m q = rw q
