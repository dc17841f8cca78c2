-- Whatever a chunk takes, its text and what the rest of the log gives afterwards are what the rules' program gives: so a log may be cut anywhere.
use Rattle.std.specs.Prelude.{ℕ, suc, ◌+◌, ◌-◌, ◌≤◌, ◌<◌, Bool, true, false, not, cond, ◌||◌, zero, List, [], ◌∷◌, ◌++◌, ◌≡◌, refl, eqb, ltb, length, drop}
use Rattle.std.proofs.Math.Option.{Option}
use Rattle.std.proofs.Common.{sym, ap, ap₂, ◌∙◌, subst, arith, ⊎_elim, append_assoc, append-nil, length-append, lt-ltb, ltb-true}
use Rattle.std.proofs.lemmas.Bool.{not-false, eqb-false}
use Rattle.rules.specs.Lists.{member}
use Rattle.rules.specs.Ledger.{State}
use Rattle.rules.specs.Bytes.{split, newline}
use Rattle.rules.specs.Records.{line_limit, record_of, unreadable}
use Rattle.rules.specs.AnswerText.{refusal_text}
use Rattle.rules.specs.Program.{Told, take_record, take_lines, whole_lines}
use Rattle.laws.specs.Tests as tests
use Rattle.numerals.specs.Parts.{split_absent, split_front}
use Rattle.engine.specs.Calls.{Memory}
use Rattle.feed.specs.Splits.{behind_first, behind_glue, some_part, split_glue, FirstLine, first_line, whole_more, whole_some, drop_line, drop_whole}
use Rattle.feed.specs.declared.Standing.{Standing}
use Rattle.feed.specs.Feeding.{Recorded, line_record, recorded, whole_given, Taken, stopped, behind, has_room, is_left, line_taken, tail_taken, lines_taken, feeding}
use Rattle.feed.specs.Meaning.{ledger, Fit, line_tells}

-- What the rules' program gives for the rest of a log: of a log that stands inside a line that is too long, for what comes behind that line.
unfoldable pub rest : Bool → List ℕ → Option State → Told
rest true bytes l = take_lines (whole_lines (behind_first (split newline bytes))) l
rest false bytes l = take_lines (whole_lines (split newline bytes)) l

abbrev pub rest_of : Standing → Memory → List ℕ → Told
rest_of p m bytes = rest p.skipping bytes (ledger p.opened m)

-- What a log gives from here on is the text that was taken, and what it gives from there on.
pub record Continues (p : Standing) (m : Memory) (bytes future : List ℕ) (r : Taken) : Type 0 where
  pub text : (rest_of p m (bytes ++ future)).text ≡ r.text ++ (rest_of r.standing r.memory (drop r.bytes bytes ++ future)).text
  pub ledger : (rest_of p m (bytes ++ future)).ledger ≡ (rest_of r.standing r.memory (drop r.bytes bytes ++ future)).ledger
  pub fit : Fit r.standing.opened r.memory

-- Nothing taken.
stays : (full : Bool) (p : Standing) (m : Memory) (bytes future : List ℕ) → Fit p.opened m → Continues p m bytes future (stopped full p m)
stays full p m bytes future fit = record { text = refl; ledger = refl; fit = fit }

-- A line and its newline in front.
line_first : (line others : List ℕ) → member newline line ≡ false → (l : Option State)
    → rest false (line ++ newline ∷ others) l ≡ take_lines (line ∷ whole_lines (split newline others)) l
unfolding rest
line_first line others h l =
    let p = some_part newline others in
    let whole : whole_lines (line ∷ split newline others) ≡ line ∷ whole_lines (split newline others)
    = rw p.are (whole_more line p.first p.others) in
    rw (split_front newline line others h, whole)

skipped_first : (line others : List ℕ) → member newline line ≡ false → (l : Option State) → rest true (line ++ newline ∷ others) l ≡ rest false others l
unfolding rest
skipped_first line others h l = rw (split_front newline line others h)

-- One line told, then the others.
line_told : (line : List ℕ) (lines : List (List ℕ)) (is_open : Bool) (m : Memory) → Fit is_open m
    → let r = recorded (line_record line) is_open m in
    ((take_lines (line ∷ lines) (ledger is_open m)).text ≡ r.text ++ (take_lines lines (ledger r.opened r.memory)).text)
    × ((take_lines (line ∷ lines) (ledger is_open m)).ledger ≡ (take_lines lines (ledger r.opened r.memory)).ledger)
unfolding take_lines
line_told line lines is_open m fit =
    let t = line_tells line is_open m fit in
    let r = recorded (line_record line) is_open m in (
      ap₂ (λ (text : List ℕ) (l : Option State). text ++ (take_lines lines l).text) (sym t.text) (sym t.ledger),
      ap (λ (l : Option State). (take_lines lines l).ledger) (sym t.ledger),
    )

-- A line that can't be read, then the others.
line_unread : (line : List ℕ) (lines : List (List ℕ)) (l : Option State) → record_of line ≡ unreadable
    → ((take_lines (line ∷ lines) l).text ≡ refusal_text 14 ++ (take_lines lines l).text) × ((take_lines (line ∷ lines) l).ledger ≡ (take_lines lines l).ledger)
unfolding take_lines take_record
line_unread line lines l e = rw e (refl, refl)

some_length : {n : ℕ} → (n ≡ 0 → ⊥) → 0 < n
some_length h = omega arith

-- Of two ways one is taken.
pub by_test : {A : Type 0} (P : A → Type 0) (b : Bool) {x y : A} → (b ≡ true → P x) → (b ≡ false → P y) → P (cond b x y)
by_test P true f g = f refl
by_test P false f g = g refl

-- What stands behind the last newline.
module _ (tail future : List ℕ) (h : member newline tail ≡ false) (p : Standing) (m : Memory) (fit : Fit p.opened m) where
  -- It is skipped.
  skipped_tail : p.skipping ≡ true
      → Continues p m tail future (record { text = []; bytes = length tail; full = false; standing = p; memory = m })
  unfolding rest
  skipped_tail q =
      let same : behind_first (split newline (tail ++ future)) ≡ behind_first (split newline future)
      = ap behind_first (split_glue newline tail future h) ∙ behind_glue tail (split newline future) in
      record { text = rw (q, drop_whole tail, same) refl; ledger = rw (q, drop_whole tail, same) refl; fit = fit }

  -- It is too long already.
  too_long : (line : List ℕ) → line_limit < length line → record_of line ≡ unreadable
  unfolding record_of
  too_long line long = rw (lt-ltb line_limit (length line) long)

  long_tail : p.skipping ≡ false → line_limit < length tail
      → Continues p m tail future (record { text = refusal_text 14; bytes = length tail; full = false; standing = record { opened = p.opened; skipping = true }; memory = m })
  unfolding rest
  long_tail q long =
      let f = some_part newline future in
      let len = length-append tail f.first in
      let parts : split newline (tail ++ future) ≡ (tail ++ f.first) ∷ f.others = split_glue newline tail future h ∙ rw f.are refl in
      let whole = whole_some (tail ++ f.first) f.others (omega arith) in
      let unread = line_unread (tail ++ f.first) (whole_lines f.others) (ledger p.opened m) (too_long (tail ++ f.first) (omega arith)) in
      record {
        text = rw (q, drop_whole tail, parts, f.are, whole) unread.0;
        ledger = rw (q, drop_whole tail, parts, f.are, whole) unread.1;
        fit = fit;
      }

  -- It is the last line.
  last_tail : p.skipping ≡ false → future ≡ [] → 0 < length tail → Continues p m tail future (line_taken (length tail) tail p m)
  unfolding rest whole_lines split take_lines
  last_tail q ends one =
      let told = line_told tail [] p.opened m fit in
      let whole = whole_some tail [] one in
      record {
        text = rw (q, ends, drop_whole tail, append-nil tail, split_absent newline tail h, whole) told.0;
        ledger = rw (q, ends, drop_whole tail, append-nil tail, split_absent newline tail h, whole) told.1;
        fit = (line_tells tail p.opened m fit).fit;
      }

  -- Whichever it is.
  tail_continues : (at_end : Bool) (room : ℕ) → (at_end ≡ true → future ≡ []) → Continues p m tail future (tail_taken at_end room tail p m)
  unfolding tail_taken
  tail_continues at_end room ends =
      let C = Continues p m tail future in
      by_test C p.skipping skipped_tail
      (λ q. by_test C (is_left at_end tail) (λ r. stays false p m tail future fit)
      (λ r. by_test C (has_room room)
      (λ s. by_test C (ltb line_limit (length tail)) (λ t. long_tail q (ltb-true line_limit (length tail) t))
      (λ t. let last : (not at_end || eqb (length tail) 0) ≡ false = rw t at r in
      last_tail q (ends (not-false at_end (tests.or_left (not at_end) (eqb (length tail) 0) last)))
      (some_length (eqb-false (length tail) 0 (tests.or_right (not at_end) (eqb (length tail) 0) last)))))
      (λ s. stays true p m tail future fit)))

-- A line with its newline in front of others of which it is known already.
module _ (line others future : List ℕ) (h : member newline line ≡ false) (p : Standing) (m : Memory) where
  apart : (line ++ newline ∷ others) ++ future ≡ line ++ newline ∷ (others ++ future)
  apart = append_assoc line (newline ∷ others) future

  behind_continues : (text : List ℕ) (p' : Standing) (m' : Memory) (r : Taken)
      → (rest_of p m (line ++ newline ∷ (others ++ future))).text ≡ text ++ (rest_of p' m' (others ++ future)).text
      → (rest_of p m (line ++ newline ∷ (others ++ future))).ledger ≡ (rest_of p' m' (others ++ future)).ledger
      → Continues p' m' others future r → Continues p m (line ++ newline ∷ others) future (behind (length line + 1) text r)
  behind_continues text p' m' r step step_ledger k =
      record {
        text = rw (apart, drop_line line others newline r.bytes)
            (step ∙ ap (λ (l : List ℕ). text ++ l) k.text ∙ sym (append_assoc text r.text (rest_of r.standing r.memory (drop r.bytes others ++ future)).text));
        ledger = rw (apart, drop_line line others newline r.bytes) (step_ledger ∙ k.ledger);
        fit = k.fit;
      }

  module _ (at_end : Bool) (first : List ℕ) (lines : List (List ℕ)) (fit : Fit p.opened m)
      (known : (room : ℕ) (p' : Standing) (m' : Memory) → Fit p'.opened m' → Continues p' m' others future (lines_taken at_end room (first ∷ lines) p' m')) where
    skipped_continues : (room : ℕ) → p.skipping ≡ true → Continues p m (line ++ newline ∷ others) future
        (behind (length line + 1) [] (lines_taken at_end room (first ∷ lines) (record { opened = p.opened; skipping = false }) m))
    skipped_continues room q =
        let behind_it = skipped_first line (others ++ future) h (ledger p.opened m) in
        behind_continues [] (record { opened = p.opened; skipping = false }) m (lines_taken at_end room (first ∷ lines) (record { opened = p.opened; skipping = false }) m)
        (rw (q, behind_it) refl) (rw (q, behind_it) refl) (known room (record { opened = p.opened; skipping = false }) m fit)

    told_continues : (room : ℕ) → p.skipping ≡ false → let r = recorded (line_record line) p.opened m in Continues p m (line ++ newline ∷ others) future
        (behind (length line + 1) r.text (lines_taken at_end room (first ∷ lines) (record { opened = r.opened; skipping = false }) r.memory))
    unfolding rest
    told_continues room q =
        let r = recorded (line_record line) p.opened m in
        let in_front = line_first line (others ++ future) h (ledger p.opened m) in
        let told = line_told line (whole_lines (split newline (others ++ future))) p.opened m fit in
        behind_continues r.text (record { opened = r.opened; skipping = false }) r.memory
        (lines_taken at_end room (first ∷ lines) (record { opened = r.opened; skipping = false }) r.memory)
        (rw q (ap (λ (t : Told). t.text) in_front ∙ told.0)) (rw q (ap (λ (t : Told). t.ledger) in_front ∙ told.1))
        (known room (record { opened = r.opened; skipping = false }) r.memory (line_tells line p.opened m fit).fit)

    line_continues : (room : ℕ) → Continues p m (line ++ newline ∷ others) future (lines_taken at_end room (line ∷ first ∷ lines) p m)
    unfolding lines_taken whole_given
    line_continues room =
        let C = Continues p m (line ++ newline ∷ others) future in
        let after = λ (r : Recorded).
        behind (length line + 1) r.text (lines_taken at_end (room - length r.text) (first ∷ lines) (record { opened = r.opened; skipping = false }) r.memory) in
        let given = λ (b : Bool) (q : p.skipping ≡ b) (told : C (after (whole_given b line p.opened m))).
        subst (λ (a : Bool). C (after (whole_given a line p.opened m))) (sym q) told in
        by_test C (p.skipping || has_room room)
        (λ s. tests.split p.skipping (λ q. given true q (skipped_continues (room - 0) q))
        (λ q. given false q (told_continues (room - length (recorded (line_record line) p.opened m).text) q)))
        (λ s. stays true p m (line ++ newline ∷ others) future fit)

-- Bytes that have a newline, where all that is shorter is known.
module _ (at_end : Bool) (future : List ℕ) (ends : at_end ≡ true → future ≡ []) where
  abbrev Known : ℕ → Type 0
  Known n =
      (room : ℕ) (bytes : List ℕ) → length bytes ≤ n → (p : Standing) (m : Memory) → Fit p.opened m
      → Continues p m bytes future (lines_taken at_end room (split newline bytes) p m)

  first_length : (bytes : List ℕ) (f : FirstLine newline bytes) → length bytes ≡ suc (length f.line + length f.others)
  first_length bytes f =
      let long = length-append f.line (newline ∷ f.others) in
      let e : length f.line + length (newline ∷ f.others) ≡ suc (length f.line + length f.others) = omega arith in
      ap length f.are ∙ long ∙ e

  first_continues : (n room : ℕ) (bytes : List ℕ) → length bytes ≤ suc n → Known n → FirstLine newline bytes → (p : Standing) (m : Memory) → Fit p.opened m
      → Continues p m bytes future (lines_taken at_end room (split newline bytes) p m)
  first_continues n room bytes low known f p m fit =
      let parts = some_part newline f.others in
      let long = first_length bytes f in
      subst (λ (b : List ℕ). Continues p m b future (lines_taken at_end room (split newline b) p m)) (sym f.are)
      (rw (split_front newline f.line f.others f.without, parts.are)
      (line_continues f.line f.others future f.without p m at_end parts.first parts.others fit
      (λ room' p' m' fit'. rw parts.are at (known room' f.others (omega arith) p' m' fit')) room))

  alone_continues : (room : ℕ) (bytes : List ℕ) → member newline bytes ≡ false → (p : Standing) (m : Memory) → Fit p.opened m
      → Continues p m bytes future (lines_taken at_end room (split newline bytes) p m)
  unfolding lines_taken
  alone_continues room bytes h p m fit = rw (split_absent newline bytes h) (tail_continues bytes future h p m fit at_end room ends)

  all_continue : (n : ℕ) → Known n
  all_continue zero room bytes low p m fit =
      ⊎_elim (λ h. alone_continues room bytes h p m fit) (λ f. absurd (let long = first_length bytes f in omega arith)) (first_line newline bytes)
  all_continue (suc n) room bytes low p m fit =
      ⊎_elim (λ h. alone_continues room bytes h p m fit) (λ f. first_continues n room bytes low (all_continue n) f p m fit) (first_line newline bytes)

-- A chunk: what it takes, and what the rest of the log gives afterwards, are what the rules' program gives. Whoever says that the log ends has no more of it.
pub chunk_continues : (at_end : Bool) (room : ℕ) (bytes future : List ℕ) → (at_end ≡ true → future ≡ []) → (p : Standing) (m : Memory) → Fit p.opened m
    → Continues p m bytes future (feeding at_end room bytes p m)
chunk_continues at_end room bytes future ends p m fit = all_continue at_end future ends (length bytes) room bytes (omega arith) p m fit
