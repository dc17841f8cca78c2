-- A log may come in any pieces: what all calls write together, and the ledger that the tables hold after the last, are what the rules' program gives of the log in one piece.
use Rattle.std.specs.Prelude.{ℕ, Bool, false, List, [], ◌∷◌, ◌++◌, ◌≡◌, refl, ℤ, length, drop}
use Rattle.std.proofs.Math.Option.{none}
use Rattle.std.proofs.Common.{sym, ap, ◌∙◌, arith, append_assoc, append-nil}
use Rattle.rules.specs.Program.{Told, run_text}
use Rattle.engine.specs.Calls.{Memory}
use Rattle.feed.specs.declared.Standing.{Standing}
use Rattle.feed.specs.Feeding.{lent_memory, feeding}
use Rattle.feed.specs.Meaning.{Fit}
use Rattle.feed.specs.Cutting.{rest, rest_of, chunk_continues}
use Rattle.feed.specs.Between.{tables_of, same_rest, written, nothing_left}
use Rattle.promises.specs.Callers.{Piece, bytes_of, Ending, Run, run, beginning, Caller, log, at_the_end, out, ledger_of, Whole}

fits_again : (is_open : Bool) (m : Memory) → Fit is_open m → Fit is_open (tables_of m)
fits_again is_open m fit = record { long = record { book = fit.long.book; sums = fit.long.sums; room = omega arith }; sound = fit.sound }

-- What a log gives from here on is the text that the calls wrote, and what it gives for the bytes that they left.
record RunContinues (p : Standing) (m : Memory) (bytes : List ℕ) (r : Run) : Type 0 where
  text : (rest_of p m bytes).text ≡ r.text ++ (rest_of r.standing (lent_memory r.book r.sums) r.left).text
  ledger : (rest_of p m bytes).ledger ≡ (rest_of r.standing (lent_memory r.book r.sums) r.left).ledger

run_continues : (pieces : List Piece) (left : List ℕ) → Ending pieces → (p : Standing) (book : List ℕ) (sums : List ℤ)
    → Fit p.opened (lent_memory book sums) → RunContinues p (lent_memory book sums) (left ++ bytes_of pieces) (run pieces left p book sums)
unfolding run
run_continues [] left ends p book sums fit = rw (append-nil left) (record { text = refl; ledger = refl })
run_continues (x ∷ xs) left ends p book sums fit =
    let m = lent_memory book sums in
    let input = left ++ x.bytes in
    let r = feeding x.at_end (length x.buffer) input p m in
    let one = chunk_continues x.at_end (length x.buffer) input (bytes_of xs) ends.0 p m fit in
    let more = run_continues xs (drop r.bytes input) ends.1 r.standing r.memory.book r.memory.sums (fits_again r.standing.opened r.memory one.fit) in
    let again = same_rest r.standing r.memory (drop r.bytes input ++ bytes_of xs) in
    let whole = append_assoc left x.bytes (bytes_of xs) in
    record {
      text = rw (← whole, written x.buffer r.text)
          (one.text ∙ ap (λ (t : Told). r.text ++ t.text) again ∙ ap (λ (l : List ℕ). r.text ++ l) more.text ∙ sym (append_assoc r.text _ _));
      ledger = rw (← whole) (one.ledger ∙ ap (λ (t : Told). t.ledger) again ∙ more.ledger);
    }

module _ (c : Caller) (whole : Whole c) where
  starts : rest false (log c) none ≡ run_text (log c)
  unfolding rest run_text
  starts = refl

  fit : Fit false (lent_memory c.book c.sums)
  fit = record { long = record { book = whole.book; sums = whole.sums; room = omega arith }; sound = λ o. let e = o in cc }

  continues : RunContinues beginning (lent_memory c.book c.sums) (log c) (at_the_end c)
  continues = run_continues c.pieces [] whole.ends beginning c.book c.sums fit

  pub any_cutting : (out c ≡ (run_text (log c)).text) × (ledger_of c ≡ (run_text (log c)).ledger)
  any_cutting =
      let gone = nothing_left (at_the_end c).standing.skipping (ledger_of c) in
      let text : (rest false (log c) none).text ≡ out c = rw (whole.all_taken, gone, append-nil (out c)) at continues.text in
      let last : (rest false (log c) none).ledger ≡ ledger_of c = rw (whole.all_taken, gone) at continues.ledger in
      (sym text ∙ ap (λ (t : Told). t.text) starts, sym last ∙ ap (λ (t : Told). t.ledger) starts)
