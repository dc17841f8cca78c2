-- What a piece of a log means: the bytes that are written, and what the rest of the log gives afterwards on the tables and the flags that C then holds, are what the rules' program
-- gives. So a log may be cut anywhere.
use Rattle.std.specs.Prelude.{ℕ, Bool, true, false, List, [], ◌++◌, ◌≤◌, ◌≡◌, refl, ℤ, length, take, drop}
use Rattle.std.proofs.Common.{sym, ap, ap₂, ◌∙◌, arith}
use Rattle.rules.specs.Soundness.{sound}
use Rattle.rules.specs.Program.{Told}
use Rattle.tables.specs.Layout.{book_words, sums_words}
use Rattle.tables.specs.View.{view}
use Rattle.engine.specs.Calls.{Memory}
use Rattle.feed.specs.declared.Standing.{Standing}
use Rattle.feed.specs.Feeding.{feeding, lent_memory, fed}
use Rattle.feed.specs.Meaning.{Fit}
use Rattle.feed.specs.Cutting.{rest_of, chunk_continues}
use Rattle.feed.specs.Between.{same_rest, written}
use Rattle.host.specs.Faces.{flagged, flag, standing_of}
use Rattle.host.specs.Left.{AfterPiece, fed_faced}

-- What the rules' program gives for bytes that come now, where C holds these tables and these two flags.
unfoldable pub still_gives : ℕ → ℕ → List ℕ → List ℤ → List ℕ → Told
still_gives opened skipping book sums bytes = rest_of (standing_of opened skipping) (lent_memory book sums) bytes

-- Tables that are long enough, with a sound state in them where an engine is opened.
pub record Usable (opened : ℕ) (book : List ℕ) (sums : List ℤ) : Type 0 where
  pub long : book_words ≤ length book
  pub long_sums : sums_words ≤ length sums
  pub sound : flagged opened ≡ true → sound (view book sums) ≡ true

flag_again : (b : Bool) → flagged (flag b) ≡ b
flag_again true = refl
flag_again false = refl

-- The standing that C was answered is the engine's.
standing_again : (p : Standing) → standing_of (flag p.opened) (flag p.skipping) ≡ p
standing_again p = λ i. record { opened = flag_again p.opened i; skipping = flag_again p.skipping i }

gives_again : (p : Standing) (m : Memory) (bytes : List ℕ) → still_gives (flag p.opened) (flag p.skipping) m.book m.sums bytes ≡ rest_of p m bytes
unfolding still_gives
gives_again p m bytes = ap (λ (q : Standing). rest_of q (lent_memory m.book m.sums) bytes) (standing_again p) ∙ sym (same_rest p m bytes)

-- One call, whatever comes after it: what it leaves to C goes on as the log does.
pub record GoesOn (opened skipping : ℕ) (book : List ℕ) (sums : List ℤ) (input future : List ℕ) (r : AfterPiece) : Type 0 where
  pub text : (still_gives opened skipping book sums (input ++ future)).text
      ≡ take r.answer.wrote r.out ++ (still_gives r.answer.opened r.answer.skipping r.book r.sums (drop r.answer.taken input ++ future)).text
  pub ledger : (still_gives opened skipping book sums (input ++ future)).ledger
      ≡ (still_gives r.answer.opened r.answer.skipping r.book r.sums (drop r.answer.taken input ++ future)).ledger
  pub usable : Usable r.answer.opened r.book r.sums

module _ (opened skipping : ℕ) (book : List ℕ) (sums : List ℤ) (usable : Usable opened book sums) where
  fit : Fit (flagged opened) (lent_memory book sums)
  fit = record { long = record { book = usable.long; sums = usable.long_sums; room = omega arith }; sound = usable.sound }

  pub goes_on : (at_end : ℕ) (input out future : List ℕ) → (flagged at_end ≡ true → future ≡ [])
      → GoesOn opened skipping book sums input future (fed_faced (fed (flagged at_end) (standing_of opened skipping) input book sums out))
  unfolding still_gives
  goes_on at_end input out future ends =
      let r = feeding (flagged at_end) (length out) input (standing_of opened skipping) (lent_memory book sums) in
      let k = chunk_continues (flagged at_end) (length out) input future ends (standing_of opened skipping) (lent_memory book sums) fit in
      let same = gives_again r.standing r.memory (drop r.bytes input ++ future) in
      record {
        text = k.text ∙ ap₂ (λ (l m : List ℕ). l ++ m) (sym (written out r.text)) (ap (λ (t : Told). t.text) (sym same));
        ledger = k.ledger ∙ ap (λ (t : Told). t.ledger) (sym same);
        usable = record { long = k.fit.long.book; long_sums = k.fit.long.sums; sound = λ o. k.fit.sound (sym (flag_again r.standing.opened) ∙ o) };
      }
