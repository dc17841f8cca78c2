-- How long a line gets: a number of 32 bits takes 11 bytes with its tab, a signed 64-bit value 21. So an answer's own line fits HEAD and a finish line 24
-- bytes, and with 32 finishes all of it LONGEST: room is never lacking.
use Rattle.std.specs.Prelude.{ℕ, ◌+◌, ◌*◌, ◌^◌, ◌≤◌, ◌<◌, List, [], ◌∷◌, ◌++◌, ℤ, length}
use Rattle.std.proofs.Common.{arith, length-append}
use Rattle.std.specs.Int.Signed.{mag}
use Rattle.rules.specs.Bytes.{decimal_text, signed_text, tab_byte}
use Rattle.rules.specs.Closing.{Outcome, version, aborts, Finish}
use Rattle.rules.specs.Events.{Event, delivery, vote, change, read, Answer, refused, waits, aborted, voted, changed, value, Step}
use Rattle.rules.specs.AnswerText.{field, end, refusal_text, opened_text, outcome_text, finishes_text, delivery_text, vote_text, change_text, read_text, answer_text, step_text}
use Rattle.numerals.specs.Amounts.{signed_text_fits}
use Rattle.answers.specs.Lines.{decimal_fits_word}
use Rattle.answers.specs.declared.TheConstants.{HEAD, LONGEST}

abbrev pub Word : ℕ → Type 0
Word n = n < 2 ^ 32

field_length : (n : ℕ) (rest : List ℕ) → Word n → length (field n rest) ≤ 11 + length rest
field_length n rest h =
    let digits = decimal_fits_word n h in
    let long = length-append (decimal_text n) rest in
    omega arith

-- One number; two; three.
one_length : (a : ℕ) → Word a → length (field a end) ≤ 12
one_length a h = field_length a end h

two_length : (a b : ℕ) → Word a → Word b → length (field a (field b end)) ≤ 23
two_length a b h k =
    let rest = one_length b k in
    let long = field_length a (field b end) h in
    omega arith

three_length : (a b c : ℕ) → Word a → Word b → Word c → length (field a (field b (field c end))) ≤ 34
three_length a b c h k l =
    let rest = two_length b c k l in
    let long = field_length a (field b (field c end)) h in
    omega arith

-- The own line of an answer.
pub refusal_fits : (n : ℕ) → Word n → length (refusal_text n) ≤ HEAD
unfolding refusal_text
refusal_fits n h = let long = one_length n h in omega arith

pub opened_fits : (partitions own k : ℕ) → Word partitions → Word own → Word k → length (opened_text partitions own k) ≤ HEAD
unfolding opened_text
opened_fits partitions own k h i j = let long = three_length partitions own k h i j in omega arith

-- An answer's numbers are words, and its value is of 64 bits.
abbrev pub AnswerWords : Answer → Type 0
AnswerWords (refused n) = Word n
AnswerWords (waits dc place send) = Word dc × Word place
AnswerWords (aborted dc reason send) = Word dc × Word reason
AnswerWords voted = Unit {0}
AnswerWords changed = Unit {0}
AnswerWords (value st v) = Word st × (mag v < 2 ^ 63)

pub delivery_fits : (identity : ℕ) (a : Answer) → Word identity → AnswerWords a → length (delivery_text identity a) ≤ HEAD
unfolding delivery_text
delivery_fits identity (refused n) h k = refusal_fits n k
delivery_fits identity (waits dc place send) h k = let long = three_length identity dc place h k.0 k.1 in omega arith
delivery_fits identity (aborted dc reason send) h k = let long = three_length identity dc reason h k.0 k.1 in omega arith
delivery_fits identity voted h k = omega arith
delivery_fits identity changed h k = omega arith
delivery_fits identity (value st v) h k = omega arith

pub vote_fits : (identity partition : ℕ) (a : Answer) → Word identity → Word partition → AnswerWords a → length (vote_text identity partition a) ≤ HEAD
unfolding vote_text
vote_fits identity partition (refused n) h i k = refusal_fits n k
vote_fits identity partition voted h i k = let long = two_length identity partition h i in omega arith
vote_fits identity partition (waits dc place send) h i k = omega arith
vote_fits identity partition (aborted dc reason send) h i k = omega arith
vote_fits identity partition changed h i k = omega arith
vote_fits identity partition (value st v) h i k = omega arith

pub change_fits : (n : ℕ) (a : Answer) → Word n → AnswerWords a → length (change_text n a) ≤ HEAD
unfolding change_text
change_fits n (refused m) h k = refusal_fits m k
change_fits n changed h k = let long = one_length n h in omega arith
change_fits n voted h k = omega arith
change_fits n (waits dc place send) h k = omega arith
change_fits n (aborted dc reason send) h k = omega arith
change_fits n (value st v) h k = omega arith

value_length : (key st : ℕ) (v : ℤ) → Word key → Word st → mag v < 2 ^ 63 → length (field key (field st (tab_byte ∷ (signed_text v ++ end)))) ≤ 44
value_length key st v h i small =
    let digits = signed_text_fits v small in
    let amount = length-append (signed_text v) end in
    let inner = field_length st (tab_byte ∷ (signed_text v ++ end)) i in
    let long = field_length key (field st (tab_byte ∷ (signed_text v ++ end))) h in
    omega arith

pub read_fits : (key : ℕ) (a : Answer) → Word key → AnswerWords a → length (read_text key a) ≤ HEAD
unfolding read_text
read_fits key (refused n) h k = refusal_fits n k
read_fits key (value st v) h k = let long = value_length key st v h k.0 k.1 in omega arith
read_fits key voted h k = omega arith
read_fits key changed h k = omega arith
read_fits key (waits dc place send) h k = omega arith
read_fits key (aborted dc reason send) h k = omega arith

-- A finish line; all of them.
abbrev pub OutcomeWords : Outcome → Type 0
OutcomeWords (version v) = Word v
OutcomeWords aborts = Unit {0}

pub outcome_fits : (identity : ℕ) (o : Outcome) → Word identity → OutcomeWords o → length (outcome_text identity o) ≤ 24
unfolding outcome_text
outcome_fits identity (version v) h k = let long = two_length identity v h k in omega arith
outcome_fits identity aborts h k = let long = one_length identity h in omega arith

abbrev pub FinishWords : List Finish → Type 0
FinishWords [] = Unit {0}
FinishWords (f ∷ fs) = Word f.transaction.identity × OutcomeWords f.outcome × FinishWords fs

pub finishes_fit : (fs : List Finish) → FinishWords fs → length (finishes_text fs) ≤ 24 * length fs
unfolding finishes_text
finishes_fit [] h = omega arith
finishes_fit (f ∷ fs) h =
    let first = outcome_fits f.transaction.identity f.outcome h.0 h.1 in
    let rest = finishes_fit fs h.2 in
    let long = length-append (outcome_text f.transaction.identity f.outcome) (finishes_text fs) in
    omega arith

-- The whole answer of one event.
abbrev pub EventWords : Event → Type 0
EventWords (delivery t) = Word t.identity
EventWords (vote identity partition b) = Word identity × Word partition
EventWords (change k) = Word k
EventWords (read key st) = Word key

pub answer_fits : (e : Event) (a : Answer) → EventWords e → AnswerWords a → length (answer_text e a) ≤ HEAD
unfolding answer_text
answer_fits (delivery t) a h k = delivery_fits t.identity a h k
answer_fits (vote identity partition b) a h k = vote_fits identity partition a h.0 h.1 k
answer_fits (change n) a h k = change_fits n a h k
answer_fits (read key st) a h k = read_fits key a h k

pub step_fits : (e : Event) (r : Step) → EventWords e → AnswerWords r.answer → FinishWords r.finishes → length r.finishes ≤ 32
    → length (step_text e r) ≤ LONGEST
unfolding step_text
step_fits e r h k l few =
    let own = answer_fits e r.answer h k in
    let rest = finishes_fit r.finishes l in
    let long = length-append (answer_text e r.answer) (finishes_text r.finishes) in
    omega arith
