-- What is promised of the bytes. Whoever gives a log to `feed`, in whatever pieces: what the calls write, and the ledger that the tables then hold, are those of document 01's rules, run
-- over the records that the log's lines are. Callers and LogBytes have the words in which this is said, the rules have all else; each promise cites where it is proved. What an event's line
-- says in 01's words is in LineMeanings; two logs as bytes, of which the third demand holds, are in RealBytes.
use Rattle.std.specs.Prelude.{ℕ, ◌+◌, ◌≤◌, true, false, List, [], ◌∷◌, ◌++◌, map, ◌↔◌, ◌≡◌, refl, length}
use Rattle.std.proofs.Math.Option.{Option, none, some, some-injective, some-ne-none}
use Rattle.std.proofs.Common.{sym, ap, ap₂, ◌∙◌, subst, arith, length-append}
use Rattle.std.proofs.lemmas.List.{length-map}
use Rattle.rules.specs.Sizes.{most_waiting}
use Rattle.rules.specs.Partitions.{Ballot}
use Rattle.rules.specs.Ledger.{Entry, State, sizes_fit, opening}
use Rattle.rules.specs.Closing.{Finish}
use Rattle.rules.specs.Events.{Event}
use Rattle.rules.specs.Refusals.{step}
use Rattle.rules.specs.Soundness.{sound}
use Rattle.rules.specs.Logs.{steps, last, finishes}
use Rattle.rules.specs.Bytes.{split}
use Rattle.rules.specs.Records.{Record, opens, event, unreadable, record_of}
use Rattle.rules.specs.AnswerText.{refusal_text, opened_text, finishes_text, step_text}
use Rattle.rules.specs.Program.{Told, open_record, event_record, take_record, take_lines, whole_lines, run_text}
use Rattle.tables.specs.Layout.{book_words, sums_words}
use Rattle.laws.specs.Each.{Each}
use Rattle.refusing.specs.Operands.{short}
use Rattle.claims.specs.Soundness.{log_sound}
use Rattle.claims.specs.Timing.{moves, has_vote, Timed, own_answers, Alike}
use Rattle.claims.specs.Demand3.{demand_3}
use Rattle.claims.specs.Counts.{own_counts}
use Rattle.claims.specs.FullList.{WaitsForVotes, full_list_waits_for_votes}
use Rattle.claims.specs.Followers.{Followed, full_list_followed}
use Rattle.promises.specs.Callers.{Piece, Ending, Caller, log, at_the_end, out, ledger_of, Whole}
use Rattle.promises.specs.AnyCutting.{any_cutting}
use Rattle.promises.specs.Progress.{HasRoom, ending, and_then, next_call, enough_calls, until_not_full, same_log, ends_behind}
use Rattle.promises.specs.LogBytes.{lines, records, Sizes, Opened, opened_by, events_in, start, events_of, text_before, text_behind, letter_w, letter_a, letter_c, letter_b, lines_of, finish_lines, own_lines, delivery_lines, told_lines}
use Rattle.promises.specs.LogEvents.{given, log_gives, Opening, opened_exactly, opening_refused, event_text}
use Rattle.promises.specs.LogExcess.{RunExcessKept, log_excess}
use Rattle.promises.specs.ShortTables.{Untouched, short_untouched}
use Rattle.promises.specs.OutLines.{text_of, its_finish_lines, its_delivery_lines, own_line_each, unopened_line_each}
use Rattle.promises.specs.LineCounts.{w_lines, a_lines, c_lines, b_lines}

-- A log is taken whole by calls until one that says that the log ends isn't full. There is one, "and never a stop": with room for the longest answer each time, as many calls as the log has
-- bytes are enough.
pub whole_when_not_full : (c : Caller) (x : Piece) → book_words ≤ length c.book → sums_words ≤ length c.sums → Ending (c.pieces ++ x ∷ []) → x.at_end ≡ true → (next_call c x).full ≡ false
    → Whole (and_then c (x ∷ []))
whole_when_not_full c x book sums ends at_end not_full = record { book = book; sums = sums; ends = ends; all_taken = until_not_full c x at_end not_full }

pub whole_in_time : (c : Caller) (buffers : List (List ℕ)) → book_words ≤ length c.book → sums_words ≤ length c.sums → Ending c.pieces → Each HasRoom buffers
    → length (log c) ≤ length buffers → Whole (and_then c (map ending buffers)) × (log (and_then c (map ending buffers)) ≡ log c)
whole_in_time c buffers book sums ends rooms often = (
  record { book = book; sums = sums; ends = ends_behind c.pieces buffers ends; all_taken = enough_calls c buffers often rooms },
  same_log c buffers,
)

-- What the lines of the bytes out count, by their first letters: W and A answer accepted deliveries, C and B tell finishes.
pub record Counted (bytes : List ℕ) (s : State) : Type 0 where
  pub dc : s.clock.dc ≡ lines_of letter_w bytes + lines_of letter_a bytes
  pub sc : s.books.sc ≡ lines_of letter_c bytes
  pub finished : lines_of letter_c bytes + lines_of letter_b bytes + length s.waiting ≡ lines_of letter_w bytes
  pub nothing_lost : lines_of letter_w bytes + lines_of letter_a bytes
      ≡ lines_of letter_c bytes + (lines_of letter_a bytes + lines_of letter_b bytes) + length s.waiting

-- What opens a log is the first O whose sizes are in the table: it stands there, and none that is accepted stands before it.
pub opens_exactly : (rs : List Record) (o : Opened) → opened_by rs ≡ some o ↔ Opening rs o
opens_exactly = opened_exactly

-- The text of one event behind an opening is that of its step, in the state behind the events before it: so `text_behind` and `steps` are one event after the other.
pub text_of_an_event : (o : Opened) (rs more : List Record) (e : Event) → o.behind ≡ rs ++ event e ∷ more
    → let now = last (events_in rs) (start o) in
    text_behind o.behind (steps (events_of o) (start o))
    ≡ text_behind rs (steps (events_in rs) (start o)) ++ (step_text e (step e now) ++ text_behind more (steps (events_in more) (step e now).next))
text_of_an_event o rs more e stands = ap (λ (all : List Record). text_behind all (steps (events_in all) (start o))) stands ∙ event_text rs more e (start o)

-- A log opens an engine or opens none.
found_or {ℓ} : {A : Type 0} {C : Type ℓ} (x : Option A) → (x ≡ none → C) → ((a : A) → x ≡ some a → C) → C
found_or none missing found = missing refl
found_or (some a) missing found = found a refl

module _ (c : Caller) (whole : Whole c) where
  -- "Every answer is the one that document 01's reading gives": whatever the pieces and the buffers, and whatever the tables held before.
  pub bytes_out : out c ≡ (run_text (log c)).text
  bytes_out = (any_cutting c whole).0

  pub ledger_at_the_end : ledger_of c ≡ (run_text (log c)).ledger
  ledger_at_the_end = (any_cutting c whole).1

  -- A log that opens nothing: each line is answered by 13 or 14, and there is no ledger.
  module _ (unopened : opened_by (records (log c)) ≡ none) where
    pub bytes_unopened : out c ≡ text_before (records (log c))
    bytes_unopened = bytes_out ∙ ap (λ (t : Told). t.text) (log_gives (log c) ∙ ap (given (records (log c))) unopened)

    pub ledger_unopened : ledger_of c ≡ none
    ledger_unopened = ledger_at_the_end ∙ ap (λ (t : Told). t.ledger) (log_gives (log c) ∙ ap (given (records (log c))) unopened)

  -- A log that opens an engine: refusals before the opening, its own line, and behind it the rules' steps of the events one after the other; and the state after the last.
  module _ (o : Opened) (is : opened_by (records (log c)) ≡ some o) where
    pub bytes_by_events : out c
        ≡ text_before o.before ++ (opened_text o.sizes.partitions o.sizes.own o.sizes.k ++ text_behind o.behind (steps (events_of o) (start o)))
    bytes_by_events = bytes_out ∙ ap (λ (t : Told). t.text) (log_gives (log c) ∙ ap (given (records (log c))) is)

    pub ledger_by_events : ledger_of c ≡ some (last (events_of o) (start o))
    ledger_by_events = ledger_at_the_end ∙ ap (λ (t : Told). t.ledger) (log_gives (log c) ∙ ap (given (records (log c))) is)

    -- "After its event, one line a finish"
    pub finishes_by_events : finish_lines (out c) ≡ lines (finishes_text (finishes (events_of o) (start o)))
    finishes_by_events = ap finish_lines bytes_by_events ∙ its_finish_lines o

    -- "each delivery's own answer"
    pub deliveries_by_events : delivery_lines o (out c) ≡ told_lines (moves (events_of o)) (own_answers (events_of o) (start o))
    deliveries_by_events = ap (delivery_lines o) bytes_by_events ∙ its_delivery_lines o

    -- "a full list at rest has a head that waits only for votes, since 31 deliveries have followed it": accepted ones of the log
    pub full_list_is_followed : (s : State) → ledger_of c ≡ some s → (head : Entry) (rest : List Entry) → s.waiting ≡ head ∷ rest → length s.waiting ≡ most_waiting
        → Followed (start o) (events_of o) head 31
    full_list_is_followed s holds head rest stands full =
        let same = some-injective s (last (events_of o) (start o)) (sym holds ∙ ledger_by_events) in
        full_list_followed (events_of o) o.sizes.partitions o.sizes.own o.sizes.k ((opened_exactly (records (log c)) o).0 is).accepted head rest (rw same at stands) (rw same at full)

  -- "Any log, any record [..] gets an answer": for each line of the log one line that is its own, besides the lines of finishes.
  pub one_answer_each : length (own_lines (out c)) ≡ length (lines (log c))
  one_answer_each =
      found_or (opened_by (records (log c)))
      (λ is. ap (λ (t : List ℕ). length (own_lines t)) (bytes_unopened is) ∙ unopened_line_each (records (log c)) ∙ length-map (lines (log c)) record_of)
      (λ o is. let opens_so = (opened_exactly (records (log c)) o).0 is in
      ap (λ (t : List ℕ). length (own_lines t)) (bytes_by_events o is)
      ∙ own_line_each o
      ∙ (let all = length-append o.before (opens o.sizes.partitions o.sizes.own o.sizes.k ∷ o.behind) in
      let e : length o.before + (1 + length o.behind) ≡ length (o.before ++ opens o.sizes.partitions o.sizes.own o.sizes.k ∷ o.behind) = omega arith in e)
      ∙ ap length (sym opens_so.stands)
      ∙ length-map (lines (log c)) record_of)

  -- Whatever state the tables hold at the end, where an engine is opened.
  module _ (s : State) (holds : ledger_of c ≡ some s) where
    of_some_log : (P : List ℕ → State → Type 0) → ((o : Opened) → Opening (records (log c)) o → P (text_of o) (last (events_of o) (start o))) → P (out c) s
    of_some_log P k =
        found_or (opened_by (records (log c)))
        (λ is. absurd (some-ne-none s (sym holds ∙ ledger_unopened is)))
        (λ o is. let same = some-injective s (last (events_of o) (start o)) (sym holds ∙ ledger_by_events o is) in
        rw (bytes_by_events o is, same) (k o ((opened_exactly (records (log c)) o).0 is)))

    -- "accepted deliveries equal commits, aborts and waiting together, the aborts counted from the answers given", and DC, SC and the number of finishes are "the log's own count"
    pub counts_of_bytes : Counted (out c) s
    counts_of_bytes =
        of_some_log Counted (λ o opens_so.
        let counts = own_counts (events_of o) o.sizes.partitions o.sizes.own o.sizes.k in
        let dc = counts.dc_counts in
        let sc = counts.sc_counts in
        let all = counts.nothing_lost in
        let waits = w_lines o in
        let aborts = a_lines o in
        let commits = c_lines o in
        let ended = b_lines o in
        record { dc = omega arith; sc = omega arith; finished = omega arith; nothing_lost = omega arith })

    -- "a full list at rest has a head that waits only for votes"
    pub full_list_waits : length s.waiting ≡ most_waiting → WaitsForVotes s.clock s.waiting
    full_list_waits =
        of_some_log (λ bytes t. length t.waiting ≡ most_waiting → WaitsForVotes t.clock t.waiting)
        (λ o opens_so. full_list_waits_for_votes (events_of o) o.sizes.partitions o.sizes.own o.sizes.k opens_so.accepted)

    -- "Opening gives a sound state and every event keeps one."
    pub sound_at_the_end : sound s ≡ true
    sound_at_the_end =
        of_some_log (λ bytes t. sound t ≡ true) (λ o opens_so. log_sound (events_of o) o.sizes.partitions o.sizes.own o.sizes.k opens_so.accepted)

-- Two logs of which no more is asked than demand 3 asks: records before the opening, unreadable lines, second openings and reads may be others, and a vote may stand elsewhere in its time.
pub record SameMovesAndVotes (o q : Opened) : Type 0 where
  -- "engines opened alike"
  pub sizes : o.sizes ≡ q.sizes
  -- "the same deliveries and threshold changes in the same order"
  pub moved : moves (events_of o) ≡ moves (events_of q)
  -- "the same votes"
  pub voted : (i p : ℕ) (b : Ballot) → has_vote i p b (events_of o) ≡ has_vote i p b (events_of q)
  -- "all identities different, each vote after its delivery", "at most one from each", "before the first delivery, taken or refused, that comes when the counter has reached that
  -- transaction's threshold"
  pub timed : Timed (start o) (events_of o)
  pub also_timed : Timed (start q) (events_of q)

-- "each delivery's own answer, the order, outcomes and versions of all finishes, and the final state are equal"
pub record AlikeBytes (b c : Caller) (o q : Opened) : Type 0 where
  pub answers : delivery_lines o (out b) ≡ delivery_lines q (out c)
  pub finishes : finish_lines (out b) ≡ finish_lines (out c)
  pub state : ledger_of b ≡ ledger_of c

-- Demand 3, of any pieces and buffers and of tables of any content.
pub demand_3_of_bytes : (b c : Caller) → Whole b → Whole c → (o q : Opened) → opened_by (records (log b)) ≡ some o → opened_by (records (log c)) ≡ some q
    → SameMovesAndVotes o q → AlikeBytes b c o q
demand_3_of_bytes b c b_whole c_whole o q b_opens c_opens same =
    let begun : start q ≡ start o = ap (λ (z : Sizes). opening z.partitions z.own z.k) (sym same.sizes) in
    let alike : Alike (start o) (events_of o) (events_of q) =
    demand_3 o.sizes.partitions o.sizes.own o.sizes.k (events_of o) (events_of q) same.timed
    (subst (λ (s : State). Timed s (events_of q)) begun same.also_timed) same.moved same.voted in
    record {
      answers = deliveries_by_events b b_whole o b_opens
          ∙ ap₂ told_lines same.moved alike.answers
          ∙ ap (λ (s : State). told_lines (moves (events_of q)) (own_answers (events_of q) s)) (sym begun)
          ∙ sym (deliveries_by_events c c_whole q c_opens);
      finishes = finishes_by_events b b_whole o b_opens
          ∙ ap (λ (fs : List Finish). lines (finishes_text fs)) alike.told
          ∙ ap (λ (s : State). lines (finishes_text (finishes (events_of q) s))) (sym begun)
          ∙ sym (finishes_by_events c c_whole q c_opens);
      state = ledger_by_events b b_whole o b_opens
          ∙ ap some alike.state
          ∙ ap (λ (s : State). some (last (events_of q) s)) (sym begun)
          ∙ sym (ledger_by_events c c_whole q c_opens);
    }

-- "either: a lent table too short": nothing but refusals by 13 and 14 is written, no engine is opened, and the tables stay as they were.
pub short_tables : (c : Caller) → short c.book c.sums ≡ true → Untouched c
short_tables = short_untouched

-- "A longer lent table is taken and its excess never touched.": whatever the tables hold.
pub excess_never_touched : (c : Caller) → RunExcessKept c.book c.sums (at_the_end c)
excess_never_touched = log_excess

-- "13 [..] program: event before opening, or a second opening": a record out of its turn gets its number and changes nothing.
abbrev pub only : ℕ → Option State → Told
only n l = record { text = refusal_text n; ledger = l }

pub event_before_opening : (e : Event) → take_record (event e) none ≡ only 13 none
unfolding take_record event_record
event_before_opening e = refl

pub second_opening : (partitions own k : ℕ) (s : State) → take_record (opens partitions own k) (some s) ≡ only 13 (some s)
unfolding take_record open_record
second_opening partitions own k s = refl

-- "opening: sizes outside the table"
pub opening_outside_the_table : (partitions own k : ℕ) → sizes_fit partitions own k ≡ false → take_record (opens partitions own k) none ≡ only 13 none
opening_outside_the_table = opening_refused

-- "The program looks at 14 first.": whether an engine is opened or not.
pub unreadable_line : (l : Option State) → take_record unreadable l ≡ only 14 l
unfolding take_record
unreadable_line l = refl

-- "No input gives no output."
pub no_input : run_text [] ≡ record { text = []; ledger = none }
unfolding run_text split whole_lines take_lines
no_input = refl
