-- The demands, of logs of calls on lent memory: from opening on, each call's answer and finishes and the state that the memory holds are the rules'.
-- So what the claims say of the rules' logs holds of the engine's: demand 3 and the two facts.
use Rattle.std.specs.Prelude.{ℕ, ◌+◌, ◌*◌, true, List, [], ◌∷◌, ◌++◌, map, ◌≡◌, refl, length, take, drop, Ok}
use Rattle.std.proofs.Common.{sym, ap, ap₂, ◌∙◌, subst, arith, take_all}
use Rattle.std.proofs.Math.Seq.{take-append-le}
use Rattle.rules.specs.Sizes.{most_waiting}
use Rattle.rules.specs.Partitions.{Ballot}
use Rattle.rules.specs.Ledger.{Entry, State, sizes_fit, opening}
use Rattle.rules.specs.Closing.{Finish}
use Rattle.rules.specs.Events.{Event, delivery, vote, change, read, Answer, Step}
use Rattle.rules.specs.Refusals.{step}
use Rattle.rules.specs.Soundness.{sound}
use Rattle.rules.specs.Logs.{steps, last, finishes}
use Rattle.laws.specs.Cuts.{put}
use Rattle.claims.specs.Soundness.{step_sound, opening_sound}
use Rattle.claims.specs.Timing.{moves, has_vote, Timed, own_answers}
use Rattle.claims.specs.Demand3.{demand_3}
use Rattle.claims.specs.Counts.{accepted_deliveries, committed_in, joined_in, aborted_at_delivery, aborted_at_closing, own_counts}
use Rattle.claims.specs.FullList.{WaitsForVotes, full_list_waits_for_votes}
use Rattle.claims.specs.Followers.{Followed, full_list_followed}
use Rattle.tables.specs.Closed.{entry_words, words_of}
use Rattle.engine.specs.Operations.{opened}
use Rattle.engine.specs.Meanings.{opened_means}
use Rattle.engine.specs.Lengths.{length_words, opened_lengths}
use Rattle.engine.specs.Calls.{Memory, held, Called, call, told, calls, after, own_called, all_told, opened_in}
use Rattle.engine.specs.CallMeans.{Long, Meant, call_long, call_steps}

-- The log's own counts: of the state that the memory holds, and of the finish entries told.
pub record Counted (es : List Event) (s now : State) (words : List ℕ) : Type 0 where
  pub dc : now.clock.dc ≡ accepted_deliveries es s
  pub sc : now.books.sc ≡ committed_in es s
  pub finishes : length words + 2 * length now.waiting ≡ 2 * joined_in es s
  pub nothing_lost : accepted_deliveries es s ≡ committed_in es s + (aborted_at_delivery es s + aborted_at_closing es s) + length now.waiting

words_append : (fs gs : List Finish) → words_of (fs ++ gs) ≡ words_of fs ++ words_of gs
unfolding words_of entry_words
words_append [] gs = refl
words_append (f ∷ fs) gs = rw (words_append fs gs)

take_put : (l s : List ℕ) → take (length s) (put l 0 s) ≡ s
unfolding put
take_put l s = take-append-le (length s) s (drop (0 + length s) l) (omega arith) ∙ take_all (length s) s (omega arith)

-- A log of calls: each a step of the rules' log, and at the end the state of the rules' log.
abbrev pub Follows : List Event → Memory → State → Type 0
Follows [] m s = held m ≡ s
Follows (e ∷ es) m s = Meant m (call e m) (step e s) × Follows es (call e m).memory (step e s).next

follows : (es : List Event) (m : Memory) (s : State) → Long m → held m ≡ s → sound s ≡ true → Follows es m s
follows [] m s long e ok = e
follows (x ∷ es) m s long e ok =
    let one = subst (λ (u : State). Meant m (call x m) (step x u)) e (call_steps x m long (rw e ok)) in
    (one, follows es (call x m).memory (step x s).next (call_long x m long) one.state (step_sound x s ok))

-- What such a log answers, tells and leaves.
answers_follow : (es : List Event) (m : Memory) (s : State) → Follows es m s
    → map (λ (c : Called). c.answer) (calls es m) ≡ map (λ (r : Step). r.answer) (steps es s)
unfolding calls steps
answers_follow [] m s h = refl
answers_follow (e ∷ es) m s h = ap₂ (λ (a : Answer) (l : List Answer). a ∷ l) h.0.says (answers_follow es (call e m).memory (step e s).next h.1)

own_follow : (es : List Event) (m : Memory) (s : State) → Follows es m s → own_called es m ≡ own_answers es s
unfolding own_called own_answers
own_follow [] m s h = refl
own_follow (delivery t ∷ es) m s h =
    ap₂ (λ (a : Answer) (l : List Answer). a ∷ l) h.0.says (own_follow es (call (delivery t) m).memory (step (delivery t) s).next h.1)
own_follow (vote i p b ∷ es) m s h = own_follow es (call (vote i p b) m).memory (step (vote i p b) s).next h.1
own_follow (change k ∷ es) m s h = own_follow es (call (change k) m).memory (step (change k) s).next h.1
own_follow (read key st ∷ es) m s h = own_follow es (call (read key st) m).memory (step (read key st) s).next h.1

state_follows : (es : List Event) (m : Memory) (s : State) → Follows es m s → held (after es m) ≡ last es s
unfolding after last
state_follows [] m s h = h
state_follows (e ∷ es) m s h = state_follows es (call e m).memory (step e s).next h.1

-- What stands in the finish list up to the number of finishes is the finishes.
written_words : (m : Memory) (c : Called) (r : Step) → Meant m c r → told c ≡ words_of r.finishes
written_words m c r h =
    let count = h.counted in
    let words = length_words r.finishes in
    let n : 2 * c.count ≡ length (words_of r.finishes) = omega arith in
    ap₂ (λ (k : ℕ) (l : List ℕ). take k l) n h.written ∙ take_put m.finishes (words_of r.finishes)

told_follow : (es : List Event) (m : Memory) (s : State) → Follows es m s → all_told es m ≡ words_of (finishes es s)
unfolding all_told finishes words_of
told_follow [] m s h = refl
told_follow (e ∷ es) m s h =
    ap₂ (λ (l k : List ℕ). l ++ k) (written_words m (call e m) (step e s) h.0) (told_follow es (call e m).memory (step e s).next h.1)
    ∙ sym (words_append (step e s).finishes (finishes es (step e s).next))

-- Memory of any content, long enough, with an engine opened in it whose sizes fit.
module _ (partitions own k : ℕ) (fits : sizes_fit partitions own k ≡ true) (m : Memory) (long : Long m) where
  abbrev pub start : Memory
  start = opened_in partitions own k m

  pub start_long : Long start
  unfolding opened_in
  start_long =
      let same = opened_lengths m.book m.sums m.finishes partitions own k in
      record { book = rw same.book long.book; sums = rw same.sums long.sums; room = long.room }

  pub opening_accepted : (opened partitions own k m.book m.sums).answer ≡ Ok tt
  opening_accepted = (opened_means partitions own k m.book m.sums long.book long.sums fits).0

  pub opened_holds : held start ≡ opening partitions own k
  unfolding opened_in
  opened_holds = (opened_means partitions own k m.book m.sums long.book long.sums fits).1

  -- Demands 1 and 2, of every call of any log from opening on.
  pub log_follows : (es : List Event) → Follows es start (opening partitions own k)
  log_follows es = follows es start (opening partitions own k) start_long opened_holds (opening_sound partitions own k fits)

  pub answers_are : (es : List Event) → map (λ (c : Called). c.answer) (calls es start) ≡ map (λ (r : Step). r.answer) (steps es (opening partitions own k))
  answers_are es = answers_follow es start (opening partitions own k) (log_follows es)

  pub told_is : (es : List Event) → all_told es start ≡ words_of (finishes es (opening partitions own k))
  told_is es = told_follow es start (opening partitions own k) (log_follows es)

  pub state_is : (es : List Event) → held (after es start) ≡ last es (opening partitions own k)
  state_is es = state_follows es start (opening partitions own k) (log_follows es)

  -- "accepted deliveries equal commits, aborts and waiting together", and DC, SC and the number of finishes are the log's own counts.
  pub counts_are : (es : List Event) → Counted es (opening partitions own k) (held (after es start)) (all_told es start)
  counts_are es =
      let s = opening partitions own k in
      let own_ones = own_counts es partitions own k in
      let words = length_words (finishes es s) in
      let entries = own_ones.finishes_count in
      rw (state_is es, told_is es)
      (record { dc = own_ones.dc_counts; sc = own_ones.sc_counts; finishes = omega arith; nothing_lost = own_ones.nothing_lost })

  -- "a full list at rest has a head that waits only for votes"
  pub full_list_waits : (es : List Event) → length (held (after es start)).waiting ≡ most_waiting
      → WaitsForVotes (held (after es start)).clock (held (after es start)).waiting
  full_list_waits es full =
      rw (state_is es) (full_list_waits_for_votes es partitions own k fits (rw (state_is es) at full))

  -- ".. since 31 deliveries have followed it", accepted ones by the answers of the log
  pub full_list_is_followed : (es : List Event) (head : Entry) (rest : List Entry) → (held (after es start)).waiting ≡ head ∷ rest
      → length (held (after es start)).waiting ≡ most_waiting → Followed (opening partitions own k) es head 31
  full_list_is_followed es head rest stands full =
      full_list_followed es partitions own k fits head rest (rw (state_is es) at stands) (rw (state_is es) at full)

-- Demand 3: engines opened alike, in memory of any content, on logs that differ only in when the votes come and in their reads.
pub record AlikeCalls (es fs : List Event) (m n : Memory) : Type 0 where
  pub answers : own_called es m ≡ own_called fs n
  pub told : all_told es m ≡ all_told fs n
  pub state : held (after es m) ≡ held (after fs n)

pub demand_3_of_calls : (partitions own k : ℕ) → sizes_fit partitions own k ≡ true → (m n : Memory) → Long m → Long n → (es fs : List Event)
    → Timed (opening partitions own k) es → Timed (opening partitions own k) fs
    → moves es ≡ moves fs
    → ((i p : ℕ) (b : Ballot) → has_vote i p b es ≡ has_vote i p b fs)
    → AlikeCalls es fs (opened_in partitions own k m) (opened_in partitions own k n)
demand_3_of_calls partitions own k fits m n long longer es fs es_timed fs_timed same_moves same_votes =
    let s = opening partitions own k in
    let alike = demand_3 partitions own k es fs es_timed fs_timed same_moves same_votes in
    record {
      answers = own_follow es (start partitions own k fits m long) s (log_follows partitions own k fits m long es)
          ∙ alike.answers
          ∙ sym (own_follow fs (start partitions own k fits n longer) s (log_follows partitions own k fits n longer fs));
      told = told_is partitions own k fits m long es ∙ ap words_of alike.told ∙ sym (told_is partitions own k fits n longer fs);
      state = state_is partitions own k fits m long es ∙ alike.state ∙ sym (state_is partitions own k fits n longer fs);
    }
