-- What the rules' program gives of a log, said by its events: the text of each step in turn with 13 and 14 between, and the state after the last.
use Rattle.std.specs.Prelude.{ℕ, true, false, List, [], ◌∷◌, ◌++◌, map, ◌↔◌, ◌≡◌, refl}
use Rattle.std.specs.List.{list_any}
use Rattle.std.proofs.Math.Option.{Option, none, some}
use Rattle.std.proofs.Common.{sym, ap, ◌∙◌, subst, append_assoc}
use Rattle.rules.specs.Ledger.{State, opening, sizes_fit}
use Rattle.rules.specs.Events.{Event}
use Rattle.rules.specs.Refusals.{first_of, opening_refusal, step}
use Rattle.rules.specs.Logs.{steps, last}
use Rattle.rules.specs.Records.{Record, opens, event, unreadable, record_of}
use Rattle.rules.specs.AnswerText.{refusal_text, opened_text, step_text}
use Rattle.rules.specs.Program.{Told, open_record, event_record, take_record, take_lines, run_text}
use Rattle.laws.specs.Tests.{split, or_left, or_right, or_neither}
use Rattle.promises.specs.LogBytes.{lines, records, Sizes, Opened, is_accepted, preceded, opened_by, events_in, start, events_of, text_before, text_behind}

-- The program's lines, as records.
unfoldable take_records : List Record → Option State → Told
take_records [] l = record { text = []; ledger = l }
take_records (r ∷ rs) l =
    record {
      text = (take_record r l).text ++ (take_records rs (take_record r l).ledger).text;
      ledger = (take_records rs (take_record r l).ledger).ledger;
    }

by_records : (ls : List (List ℕ)) (l : Option State) → take_lines ls l ≡ take_records (map record_of ls) l
unfolding take_lines take_records
by_records [] l = refl
by_records (line ∷ ls) l =
    ap (λ (t : Told). let told : Told = record { text = (take_record (record_of line) l).text ++ t.text; ledger = t.ledger } in told)
    (by_records ls (take_record (record_of line) l).ledger)

-- One text more in front.
abbrev after_text : List ℕ → Told → Told
after_text text t = record { text = text ++ t.text; ledger = t.ledger }

-- Behind the opening.
abbrev given_behind : List Record → State → Told
given_behind rs s = record { text = text_behind rs (steps (events_in rs) s); ledger = some (last (events_in rs) s) }

behind_is : (rs : List Record) (s : State) → take_records rs (some s) ≡ given_behind rs s
unfolding take_records take_record open_record event_record text_behind events_in steps last
behind_is [] s = refl
behind_is (event e ∷ rs) s = ap (after_text (step_text e (step e s))) (behind_is rs (step e s).next)
behind_is (opens partitions own k ∷ rs) s = ap (after_text (refusal_text 13)) (behind_is rs s)
behind_is (unreadable ∷ rs) s = ap (after_text (refusal_text 14)) (behind_is rs s)

-- What a log gives, by what opens it.
abbrev pub given : List Record → Option Opened → Told
given rs none = record { text = text_before rs; ledger = none }
given rs (some o) =
    record {
      text = text_before o.before ++ (opened_text o.sizes.partitions o.sizes.own o.sizes.k ++ text_behind o.behind (steps (events_of o) (start o)));
      ledger = some (last (events_of o) (start o));
    }

-- A record before the opening is answered by a number alone.
abbrev pub number_before : Record → ℕ
number_before (event e) = 13
number_before (opens partitions own k) = 13
number_before unreadable = 14

pub text_before_one : (r : Record) (rs : List Record) → text_before (r ∷ rs) ≡ refusal_text (number_before r) ++ text_before rs
unfolding text_before
text_before_one (event e) rs = refl
text_before_one (opens partitions own k) rs = refl
text_before_one unreadable rs = refl

one_before : (r : Record) (rs : List Record) (x : Option Opened) → after_text (refusal_text (number_before r)) (given rs x) ≡ given (r ∷ rs) (preceded r x)
one_before r rs none = ap (λ (t : List ℕ). let told : Told = record { text = t; ledger = none } in told) (sym (text_before_one r rs))
one_before r rs (some o) =
    let behind = opened_text o.sizes.partitions o.sizes.own o.sizes.k ++ text_behind o.behind (steps (events_of o) (start o)) in
    ap (λ (t : List ℕ). let told : Told = record { text = t; ledger = some (last (events_of o) (start o)) } in told)
    (sym (append_assoc (refusal_text (number_before r)) (text_before o.before) behind) ∙ ap (λ (t : List ℕ). t ++ behind) (sym (text_before_one r o.before)))

refused_before : (r : Record) (rs : List Record) → take_record r none ≡ record { text = refusal_text (number_before r); ledger = none }
    → take_records rs none ≡ given rs (opened_by rs) → take_records (r ∷ rs) none ≡ given (r ∷ rs) (preceded r (opened_by rs))
unfolding take_records
refused_before r rs refused later =
    ap (λ (t : Told). after_text t.text (take_records rs t.ledger)) refused ∙ ap (after_text (refusal_text (number_before r))) later ∙ one_before r rs (opened_by rs)

opening_here : (partitions own k : ℕ) (rs : List Record) → sizes_fit partitions own k ≡ true
    → take_records (opens partitions own k ∷ rs) none ≡ given (opens partitions own k ∷ rs) (opened_by (opens partitions own k ∷ rs))
unfolding take_records take_record open_record opening_refusal first_of opened_by text_before
opening_here partitions own k rs q = rw q (ap (after_text (opened_text partitions own k)) (behind_is rs (opening partitions own k)))

pub opening_refused : (partitions own k : ℕ) → sizes_fit partitions own k ≡ false → take_record (opens partitions own k) none ≡ record { text = refusal_text 13; ledger = none }
unfolding take_record open_record opening_refusal first_of
opening_refused partitions own k q = rw q

before_is : (rs : List Record) → take_records rs none ≡ given rs (opened_by rs)
unfolding take_records take_record event_record text_before opened_by
before_is [] = refl
before_is (event e ∷ rs) = refused_before (event e) rs refl (before_is rs)
before_is (opens partitions own k ∷ rs) =
    split (sizes_fit partitions own k) (opening_here partitions own k rs)
    (λ q. rw q (refused_before (opens partitions own k) rs (opening_refused partitions own k q) (before_is rs)))
before_is (unreadable ∷ rs) = refused_before unreadable rs refl (before_is rs)

-- A log, from its bytes.
pub log_gives : (log : List ℕ) → run_text log ≡ given (records log) (opened_by (records log))
unfolding run_text
log_gives log = by_records (lines log) none ∙ before_is (records log)

-- What opens a log, said without looking at its records one by one.
pub record Opening (rs : List Record) (o : Opened) : Type 0 where
  pub stands : rs ≡ o.before ++ opens o.sizes.partitions o.sizes.own o.sizes.k ∷ o.behind
  pub accepted : sizes_fit o.sizes.partitions o.sizes.own o.sizes.k ≡ true
  pub first : list_any is_accepted o.before ≡ false

abbrev Is : List Record → Option Opened → Type 0
Is rs none = list_any is_accepted rs ≡ false
Is rs (some o) = Opening rs o

behind_refused : (r : Record) (rs : List Record) (x : Option Opened) → is_accepted r ≡ false → Is rs x → Is (r ∷ rs) (preceded r x)
behind_refused r rs none refused h = or_neither (is_accepted r) (list_any is_accepted rs) refused h
behind_refused r rs (some o) refused h =
    record {
      stands = ap (λ (l : List Record). r ∷ l) h.stands;
      accepted = h.accepted;
      first = or_neither (is_accepted r) (list_any is_accepted o.before) refused h.first;
    }

opened_is : (rs : List Record) → Is rs (opened_by rs)
unfolding opened_by
opened_is [] = refl
opened_is (event e ∷ rs) = behind_refused (event e) rs (opened_by rs) refl (opened_is rs)
opened_is (opens partitions own k ∷ rs) =
    split (sizes_fit partitions own k) (λ q. rw q (record { stands = refl; accepted = q; first = refl }))
    (λ q. rw q (behind_refused (opens partitions own k) rs (opened_by rs) q (opened_is rs)))
opened_is (unreadable ∷ rs) = behind_refused unreadable rs (opened_by rs) refl (opened_is rs)

opened_here : (before : List Record) (sizes : Sizes) (behind : List Record) → list_any is_accepted before ≡ false → sizes_fit sizes.partitions sizes.own sizes.k ≡ true
    → opened_by (before ++ opens sizes.partitions sizes.own sizes.k ∷ behind) ≡ some (record { before = before; sizes = sizes; behind = behind })
unfolding opened_by
opened_here [] sizes behind first accepted = rw accepted
opened_here (event e ∷ before) sizes behind first accepted = ap (preceded (event e)) (opened_here before sizes behind first accepted)
opened_here (opens partitions own k ∷ before) sizes behind first accepted =
    rw (or_left (sizes_fit partitions own k) (list_any is_accepted before) first)
    (ap (preceded (opens partitions own k)) (opened_here before sizes behind (or_right (sizes_fit partitions own k) (list_any is_accepted before) first) accepted))
opened_here (unreadable ∷ before) sizes behind first accepted = ap (preceded unreadable) (opened_here before sizes behind first accepted)

pub opened_exactly : (rs : List Record) (o : Opened) → opened_by rs ≡ some o ↔ Opening rs o
opened_exactly rs o = (
  λ e. subst (Is rs) e (opened_is rs),
  λ h. ap opened_by h.stands ∙ opened_here o.before o.sizes o.behind h.first h.accepted,
)

none_here : (rs : List Record) → list_any is_accepted rs ≡ false → opened_by rs ≡ none
unfolding opened_by
none_here [] h = refl
none_here (event e ∷ rs) h = ap (preceded (event e)) (none_here rs h)
none_here (opens partitions own k ∷ rs) h =
    rw (or_left (sizes_fit partitions own k) (list_any is_accepted rs) h)
    (ap (preceded (opens partitions own k)) (none_here rs (or_right (sizes_fit partitions own k) (list_any is_accepted rs) h)))
none_here (unreadable ∷ rs) h = ap (preceded unreadable) (none_here rs h)

pub unopened_exactly : (rs : List Record) → opened_by rs ≡ none ↔ list_any is_accepted rs ≡ false
unopened_exactly rs = (λ e. subst (Is rs) e (opened_is rs), none_here rs)

-- The text of one event behind the opening: that of its step, in the state behind the events before it.
pub event_text : (rs more : List Record) (e : Event) (s : State)
    → let now = last (events_in rs) s in
    text_behind (rs ++ event e ∷ more) (steps (events_in (rs ++ event e ∷ more)) s)
    ≡ text_behind rs (steps (events_in rs) s) ++ (step_text e (step e now) ++ text_behind more (steps (events_in more) (step e now).next))
unfolding text_behind events_in steps last
event_text [] more e s = refl
event_text (event x ∷ rs) more e s =
    let now = last (events_in rs) (step x s).next in
    ap (λ (t : List ℕ). step_text x (step x s) ++ t) (event_text rs more e (step x s).next)
    ∙ sym (append_assoc (step_text x (step x s)) (text_behind rs (steps (events_in rs) (step x s).next)) (step_text e (step e now) ++ text_behind more (steps (events_in more) (step e now).next)))
event_text (opens partitions own k ∷ rs) more e s =
    let now = last (events_in rs) s in
    ap (λ (t : List ℕ). refusal_text 13 ++ t) (event_text rs more e s)
    ∙ sym (append_assoc (refusal_text 13) (text_behind rs (steps (events_in rs) s)) (step_text e (step e now) ++ text_behind more (steps (events_in more) (step e now).next)))
event_text (unreadable ∷ rs) more e s =
    let now = last (events_in rs) s in
    ap (λ (t : List ℕ). refusal_text 14 ++ t) (event_text rs more e s)
    ∙ sym (append_assoc (refusal_text 14) (text_behind rs (steps (events_in rs) s)) (step_text e (step e now) ++ text_behind more (steps (events_in more) (step e now).next)))
