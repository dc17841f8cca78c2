-- The shortened record is answered as the whole one: a delivery with nine items or more in a list is refused by 1 or 2 in both, and a list of at most eight is itself.
use Rattle.std.specs.Prelude.{ℕ, Bool, true, false, cond, ◌||◌, List, [], ◌≡◌, refl, ltb, min, length, take}
use Rattle.std.proofs.Common.{ap, ap₂, sym, ◌∙◌, arith, lt-ltb, le-ltb, ltb-true, ltb-false, append-nil, take_all}
use Rattle.std.proofs.lemmas.List.{length-take, length-map}
use Rattle.std.proofs.Math.Option.{Option, none, some}
use Rattle.rules.specs.Partitions.{bad_set}
use Rattle.rules.specs.Sizes.{most_keys}
use Rattle.rules.specs.Keys.{too_many}
use Rattle.rules.specs.Ledger.{Write, Transaction, State, keys_of}
use Rattle.rules.specs.Events.{delivery, vote, change, read, refused, Step, accepted}
use Rattle.rules.specs.Refusals.{first_of, delivery_checks, checks, refusal, unless_refused, step}
use Rattle.rules.specs.AnswerText.{finishes_text, delivery_text, answer_text, step_text, refusal_text}
use Rattle.rules.specs.Records.{Record, opens, event, unreadable, record_of}
use Rattle.rules.specs.Program.{Told, event_record, take_record}
use Rattle.laws.specs.Tests as tests
use Rattle.records.specs.Short.{items_kept, short_delivery, short_record}

-- "more than 8 keys read or more than 8 written"
abbrev many : Transaction → Bool
many t = too_many t.reads || too_many (keys_of t.writes)

abbrev many_number : Transaction → State → ℕ
many_number t s = cond (bad_set s.clock.partitions s.clock.own t.partitions) 1 2

-- Its number, its step, its answer: nothing of the lists but that one is too long.
refused_many : (t : Transaction) (s : State) → many t ≡ true → refusal (delivery t) s ≡ some (many_number t s)
unfolding refusal checks delivery_checks first_of
refused_many t s h =
    tests.split (bad_set s.clock.partitions s.clock.own t.partitions) (λ q. rw q) (λ q. rw (q, h))

step_many : (t : Transaction) (s : State) → many t ≡ true → step (delivery t) s ≡ record { answer = refused (many_number t s); finishes = []; next = s }
unfolding step unless_refused
step_many t s h = ap (λ (o : Option ℕ). unless_refused o s (accepted (delivery t) s)) (refused_many t s h)

told_many : (t : Transaction) (s : State) → many t ≡ true
    → event_record (delivery t) (some s) ≡ record { text = refusal_text (many_number t s); ledger = some s }
unfolding event_record step_text answer_text delivery_text finishes_text
told_many t s h =
    ap (λ (r : Step). let told : Told = record { text = step_text (delivery t) r; ledger = some r.next } in told) (step_many t s h)
    ∙ ap (λ (text : List ℕ). let told : Told = record { text = text; ledger = some s } in told) (append-nil (refusal_text (many_number t s)))

-- Nine are kept, so that too many stay too many.
many_kept : (n m : ℕ) → m ≡ min items_kept n → ltb most_keys m ≡ ltb most_keys n
many_kept n m e =
    tests.split (ltb most_keys n) (λ q. let more = ltb-true most_keys n q in rw q (lt-ltb most_keys m (omega arith))) (λ q. let few = ltb-false most_keys n q in rw q (le-ltb most_keys m (omega arith)))

short_many : (t : Transaction) → many (short_delivery t) ≡ many t
short_many t =
    ap₂ (λ (a b : Bool). a || b) (many_kept (length t.reads) (length (take items_kept t.reads)) (length-take items_kept t.reads))
    (many_kept (length (keys_of t.writes)) (length (keys_of (take items_kept t.writes)))
    (length-map (take items_kept t.writes) (λ w. w.key) ∙ (length-take items_kept t.writes ∙ ap (min items_kept) (sym (length-map t.writes (λ w. w.key))))))

-- A list of at most eight is itself.
few_kept : {A : Type 0} (xs : List A) → ltb most_keys (length xs) ≡ false → take items_kept xs ≡ xs
few_kept xs h = let few = ltb-false most_keys (length xs) h in take_all items_kept xs (omega arith)

short_few : (t : Transaction) → many t ≡ false → short_delivery t ≡ t
short_few t h =
    let reads = few_kept t.reads (tests.or_left (too_many t.reads) (too_many (keys_of t.writes)) h) in
    let writes = few_kept t.writes
    (ap (ltb most_keys) (sym (length-map t.writes (λ w. w.key))) ∙ tests.or_right (too_many t.reads) (too_many (keys_of t.writes)) h) in
    ap₂ (λ (rs : List ℕ) (ws : List Write). let u : Transaction = record { identity = t.identity; partitions = t.partitions; st = t.st; reads = rs; writes = ws } in u) reads writes

-- A delivery's answer, before opening and behind it.
short_told : (t : Transaction) (l : Option State) → event_record (delivery (short_delivery t)) l ≡ event_record (delivery t) l
unfolding event_record
short_told t none = refl
short_told t (some s) =
    tests.split (many t)
    (λ q. told_many (short_delivery t) s (short_many t ∙ q) ∙ sym (told_many t s q))
    (λ q. ap (λ (t : Transaction). event_record (delivery t) (some s)) (short_few t q))

pub short_answers : (r : Record) (l : Option State) → take_record (short_record r) l ≡ take_record r l
unfolding take_record short_record
short_answers (opens partitions own k) l = refl
short_answers (event (delivery t)) l = short_told t l
short_answers (event (vote identity partition b)) l = refl
short_answers (event (change k)) l = refl
short_answers (event (read key st)) l = refl
short_answers unreadable l = refl

-- So the program answers a line by what was read of it.
pub read_answers : (line : List ℕ) (r : Record) (l : Option State) → r ≡ short_record (record_of line) → take_record r l ≡ take_record (record_of line) l
read_answers line r l e = ap (λ (s : Record). take_record s l) e ∙ short_answers (record_of line) l
