-- The finishes' lines, read off the words of the finish list: identity, and version or 0 for an abort.
use Rattle.std.specs.Prelude.{ℕ, zero, suc, ◌+◌, ◌*◌, ◌≤◌, ◌<◌, cond, List, [], ◌++◌, ◌≡◌, refl, eqb, length, drop, get_or}
use Rattle.std.proofs.Common.{append_assoc, append-nil, sym, ap, ap₂, ◌∙◌, arith, add-one}
use Rattle.std.proofs.Math.Seq.{get_or-drop}
use Rattle.rules.specs.Closing.{Outcome, version, aborts}
use Rattle.rules.specs.AnswerText.{outcome_text}
use Rattle.laws.specs.Cuts.{put_nothing}
use Rattle.numerals.specs.Writing.{Wrote, wrote_both, wrote_as, wrote_length}
use Rattle.answers.specs.declared.TheConstants.{HEAD}

abbrev pub outcome_of : ℕ → Outcome
outcome_of v = cond (eqb v 0) aborts (version v)

unfoldable pub words_text : ℕ → List ℕ → List ℕ
words_text zero words = []
words_text (suc n) words = outcome_text (get_or words 0 0) (outcome_of (get_or words 1 0)) ++ words_text n (drop 2 words)

-- The entry at i.
abbrev pub entry_text : List ℕ → ℕ → List ℕ
entry_text words i = outcome_text (get_or words (2 * i) 0) (outcome_of (get_or words (2 * i + 1) 0))

entry_behind : (words : List ℕ) (n : ℕ) → entry_text (drop 2 words) n ≡ entry_text words (suc n)
entry_behind words n =
    let first : 2 + 2 * n ≡ 2 * suc n = omega arith in
    let second : 2 + (2 * n + 1) ≡ 2 * suc n + 1 = omega arith in
    ap₂ (λ (identity v : ℕ). outcome_text identity (outcome_of v))
    (get_or-drop 2 words (2 * n) 0 ∙ ap (λ (k : ℕ). get_or words k 0) first)
    (get_or-drop 2 words (2 * n + 1) 0 ∙ ap (λ (k : ℕ). get_or words k 0) second)

-- One entry more is its line behind the others.
pub words_more : (n : ℕ) (words : List ℕ) → words_text (suc n) words ≡ words_text n words ++ entry_text words n
unfolding words_text
words_more zero words = append-nil (entry_text words 0)
words_more (suc n) words =
    ap (λ (l : List ℕ). entry_text words 0 ++ l)
    (words_more n (drop 2 words) ∙ ap (λ (l : List ℕ). words_text n (drop 2 words) ++ l) (entry_behind words n))
    ∙ sym (append_assoc (entry_text words 0) (words_text n (drop 2 words)) (entry_text words (suc n)))

-- The entries below i are written.
pub record Told (o : List ℕ) (at : ℕ) (words : List ℕ) (i : ℕ) (o' : List ℕ) (p : ℕ) : Type 0 where
  pub wrote : Wrote o at (words_text i words) o' p
  pub ends : p ≤ at + 24 * i
  pub same : length o' ≡ length o

pub told_start : (o : List ℕ) (at : ℕ) (words : List ℕ) → Told o at words 0 o at
unfolding words_text
told_start o at words = record { wrote = record { text = sym (put_nothing o at); place = omega arith }; ends = omega arith; same = refl }

module _ {o o' : List ℕ} {at i p : ℕ} {words : List ℕ} (k : Told o at words i o' p) where
  pub told_room : (n : ℕ) → i < n → at + 24 * n + HEAD ≤ length o → p + HEAD ≤ length o'
  told_room n low room =
      let ends = k.ends in
      let same = k.same in
      omega arith

  pub told_step : {o'' : List ℕ} {q : ℕ} (n : ℕ) → i < n → at + 24 * n + HEAD ≤ length o → Wrote o' p (entry_text words i) o'' q → q ≤ p + 24
      → Told o at words (i + 1) o'' q
  told_step {o''} {q} n low room w more =
      let ends = k.ends in
      let same = k.same in
      let place = k.wrote.place in
      let behind = w.place in
      record {
        wrote = wrote_as (sym (ap (λ (k : ℕ). words_text k words) (add-one i) ∙ words_more i words)) (wrote_both (omega arith) k.wrote w);
        ends = omega arith;
        same = wrote_length (omega arith) w ∙ k.same;
      }
