-- A call gets on: one that isn't full takes all at the end of a log, and a full one with room for the longest answer takes a byte at least. So enough calls take the whole log.
use Rattle.std.specs.Prelude.{ℕ, suc, ◌+◌, ◌≤◌, ◌<◌, Bool, true, false, not, ◌||◌, List, [], ◌∷◌, ◌++◌, map, ◌≡◌, refl, eqb, ltb, ℤ, length, drop}
use Rattle.std.proofs.Common.{sym, ap, ◌∙◌, arith, append_assoc, append-nil, length-append, length-drop, le-leb, eqb-true, true≢false}
use Rattle.std.proofs.lemmas.Bool.{false≢true}
use Rattle.rules.specs.Bytes.{split, onto_first, newline}
use Rattle.rules.specs.Records.{line_limit}
use Rattle.laws.specs.Each.{Each}
use Rattle.laws.specs.Tests as tests
use Rattle.engine.specs.Calls.{Memory}
use Rattle.answers.specs.declared.TheConstants.{LONGEST}
use Rattle.feed.specs.declared.Standing.{Standing}
use Rattle.feed.specs.Feeding.{Taken, has_room, is_left, tail_taken, lines_taken, After, fed}
use Rattle.feed.specs.Splits.{Parts, some_part}
use Rattle.feed.specs.Cutting.{by_test}
use Rattle.promises.specs.Callers.{Piece, bytes_of, Ending, Run, run, beginning, Caller, log, at_the_end}

-- With room a call is full only behind a line that it took.
abbrev GoesOn : Taken → Type 0
GoesOn r = r.full ≡ true → 0 < r.bytes

module _ (at_end : Bool) (room : ℕ) (p : Standing) (m : Memory) (enough : has_room room ≡ true) where
  tail_goes_on : (tail : List ℕ) → GoesOn (tail_taken at_end room tail p m)
  unfolding tail_taken
  tail_goes_on tail =
      by_test GoesOn p.skipping (λ q h. absurd (false≢true h))
      (λ q. by_test GoesOn (is_left at_end tail) (λ r h. absurd (false≢true h))
      (λ r. by_test GoesOn (has_room room)
      (λ s. by_test GoesOn (ltb line_limit (length tail)) (λ t h. absurd (false≢true h)) (λ t h. absurd (false≢true h)))
      (λ s. tests.never (has_room room) enough s)))

  goes_on : (ls : List (List ℕ)) → GoesOn (lines_taken at_end room ls p m)
  unfolding lines_taken
  goes_on [] = λ h. absurd (false≢true h)
  goes_on (tail ∷ []) = tail_goes_on tail
  goes_on (line ∷ next ∷ ls) =
      by_test GoesOn (p.skipping || has_room room) (λ q h. omega arith) (λ q. tests.never (has_room room) enough (tests.or_right p.skipping (has_room room) q))

-- So many bytes are some lines and the newlines between them.
unfoldable total : List (List ℕ) → ℕ
total [] = 0
total (tail ∷ []) = length tail
total (line ∷ next ∷ ls) = length line + 1 + total (next ∷ ls)

total_onto : (b : ℕ) (ls : List (List ℕ)) → total (onto_first b ls) ≡ suc (total ls)
unfolding total
total_onto b [] = refl
total_onto b (tail ∷ []) = refl
total_onto b (line ∷ next ∷ ls) = omega arith

total_behind : (line : List ℕ) (ls : List (List ℕ)) → Parts ls → total (line ∷ ls) ≡ length line + 1 + total ls
unfolding total
total_behind line ls p = rw p.are refl

total_split : (bytes : List ℕ) → total (split newline bytes) ≡ length bytes
unfolding split total
total_split [] = refl
total_split (b ∷ bs) =
    let more = total_split bs in
    tests.split (eqb b newline)
    (λ q. rw q (let front = total_behind [] (split newline bs) (some_part newline bs) in omega arith))
    (λ q. rw q (let front = total_onto b (split newline bs) in omega arith))

-- At the end of the log a call that isn't full takes all.
abbrev TakesAll : ℕ → Taken → Type 0
TakesAll n r = r.full ≡ false → r.bytes ≡ n

module _ (p : Standing) (m : Memory) where
  tail_whole : (room : ℕ) (tail : List ℕ) → TakesAll (length tail) (tail_taken true room tail p m)
  unfolding tail_taken
  tail_whole room tail =
      by_test (TakesAll (length tail)) p.skipping (λ q h. refl)
      (λ q. by_test (TakesAll (length tail)) (is_left true tail)
      (λ r h. let e = eqb-true (length tail) 0 (tests.and_right (not (ltb line_limit (length tail))) (eqb (length tail) 0) r) in omega arith)
      (λ r. by_test (TakesAll (length tail)) (has_room room)
      (λ s. by_test (TakesAll (length tail)) (ltb line_limit (length tail)) (λ t h. refl) (λ t h. refl))
      (λ s h. absurd (true≢false h))))

lines_whole : (ls : List (List ℕ)) (room : ℕ) (p : Standing) (m : Memory) → TakesAll (total ls) (lines_taken true room ls p m)
unfolding lines_taken total
lines_whole [] room p m = λ h. refl
lines_whole (tail ∷ []) room p m = tail_whole p m room tail
lines_whole (line ∷ next ∷ ls) room p m =
    by_test (TakesAll (length line + 1 + total (next ∷ ls))) (p.skipping || has_room room)
    (λ q h. let more = lines_whole (next ∷ ls) _ _ _ h in omega arith) (λ q h. absurd (true≢false h))

pub not_full_takes_all : (at_end : Bool) (input buffer book : List ℕ) (sums : List ℤ) (p : Standing) → at_end ≡ true → (fed at_end p input book sums buffer).full ≡ false
    → (fed at_end p input book sums buffer).taken ≡ length input
not_full_takes_all true input buffer book sums p e h = lines_whole (split newline input) (length buffer) p _ h ∙ total_split input
not_full_takes_all false input buffer book sums p e h = absurd (false≢true e)

pub full_takes_some : (at_end : Bool) (input buffer book : List ℕ) (sums : List ℤ) (p : Standing) → LONGEST ≤ length buffer
    → (fed at_end p input book sums buffer).full ≡ true → 0 < (fed at_end p input book sums buffer).taken
full_takes_some at_end input buffer book sums p enough h =
    goes_on at_end (length buffer) p _ (le-leb LONGEST (length buffer) enough) (split newline input) h

-- So each call at the end leaves nothing, or less than it was given.
nothing_of : (l : List ℕ) → length l ≡ 0 → l ≡ []
nothing_of [] h = refl
nothing_of (b ∷ bs) h = absurd (omega arith)

abbrev pub HasRoom : List ℕ → Type 0
HasRoom buffer = LONGEST ≤ length buffer

-- A call with no new bytes, that says that the log ends.
abbrev pub ending : List ℕ → Piece
ending buffer = record { bytes = []; at_end = true; buffer = buffer }

endings_take_all : (buffers : List (List ℕ)) → Each HasRoom buffers → (left : List ℕ) → length left ≤ length buffers → (p : Standing) (book : List ℕ) (sums : List ℤ)
    → (run (map ending buffers) left p book sums).left ≡ []
unfolding run
endings_take_all [] rooms left few p book sums = nothing_of left (omega arith)
endings_take_all (buffer ∷ buffers) rooms left few p book sums =
    let a = fed true p (left ++ []) book sums buffer in
    let long = length-drop a.taken (left ++ []) in
    let same = ap length (append-nil left) in
    endings_take_all buffers rooms.1 (drop a.taken (left ++ []))
    (tests.split a.full
    (λ q. let some = full_takes_some true (left ++ []) buffer book sums p rooms.0 q in omega arith)
    (λ q. let all = not_full_takes_all true (left ++ []) buffer book sums p refl q in omega arith))
    a.standing a.book a.sums

-- More calls behind others go on with what these left.
left_by : Run → List Piece → List ℕ
left_by r pieces = (run pieces r.left r.standing r.book r.sums).left

more_calls : (pieces more : List Piece) (left : List ℕ) (p : Standing) (book : List ℕ) (sums : List ℤ)
    → (run (pieces ++ more) left p book sums).left ≡ left_by (run pieces left p book sums) more
unfolding run left_by
more_calls [] more left p book sums = refl
more_calls (x ∷ xs) more left p book sums =
    let a = fed x.at_end p (left ++ x.bytes) book sums x.buffer in
    more_calls xs more (drop a.taken (left ++ x.bytes)) a.standing a.book a.sums

-- What is left is no longer than what was given.
left_within : (pieces : List Piece) (left : List ℕ) (p : Standing) (book : List ℕ) (sums : List ℤ)
    → length (run pieces left p book sums).left ≤ length left + length (bytes_of pieces)
unfolding run
left_within [] left p book sums = omega arith
left_within (x ∷ xs) left p book sums =
    let a = fed x.at_end p (left ++ x.bytes) book sums x.buffer in
    let long = length-drop a.taken (left ++ x.bytes) in
    let both = length-append left x.bytes in
    let all = length-append x.bytes (bytes_of xs) in
    let more = left_within xs (drop a.taken (left ++ x.bytes)) a.standing a.book a.sums in
    omega arith

-- A caller with more calls behind its own.
abbrev pub and_then : Caller → List Piece → Caller
and_then c more = record { book = c.book; sums = c.sums; pieces = c.pieces ++ more }

-- The next call of a caller.
abbrev pub next_call : Caller → Piece → After
next_call c x = fed x.at_end (at_the_end c).standing ((at_the_end c).left ++ x.bytes) (at_the_end c).book (at_the_end c).sums x.buffer

pub enough_calls : (c : Caller) (buffers : List (List ℕ)) → length (log c) ≤ length buffers → Each HasRoom buffers → (at_the_end (and_then c (map ending buffers))).left ≡ []
unfolding left_by
enough_calls c buffers often rooms =
    let within = left_within c.pieces [] beginning c.book c.sums in
    more_calls c.pieces (map ending buffers) [] beginning c.book c.sums
    ∙ endings_take_all buffers rooms (at_the_end c).left (omega arith) (at_the_end c).standing (at_the_end c).book (at_the_end c).sums

pub until_not_full : (c : Caller) (x : Piece) → x.at_end ≡ true → (next_call c x).full ≡ false → (at_the_end (and_then c (x ∷ []))).left ≡ []
unfolding left_by run
until_not_full c x ends h =
    let input = (at_the_end c).left ++ x.bytes in
    let a = next_call c x in
    let all = not_full_takes_all x.at_end input x.buffer (at_the_end c).book (at_the_end c).sums (at_the_end c).standing ends h in
    let long = length-drop a.taken input in
    more_calls c.pieces (x ∷ []) [] beginning c.book c.sums ∙ nothing_of (drop a.taken input) (omega arith)

-- Such calls give nothing more of the log.
bytes_append : (pieces more : List Piece) → bytes_of (pieces ++ more) ≡ bytes_of pieces ++ bytes_of more
bytes_append [] more = refl
bytes_append (x ∷ xs) more = ap (λ (l : List ℕ). x.bytes ++ l) (bytes_append xs more) ∙ sym (append_assoc x.bytes (bytes_of xs) (bytes_of more))

no_bytes : (buffers : List (List ℕ)) → bytes_of (map ending buffers) ≡ []
no_bytes [] = refl
no_bytes (buffer ∷ buffers) = no_bytes buffers

pub same_log : (c : Caller) (buffers : List (List ℕ)) → log (and_then c (map ending buffers)) ≡ log c
same_log c buffers = bytes_append c.pieces (map ending buffers) ∙ ap (λ (l : List ℕ). log c ++ l) (no_bytes buffers) ∙ append-nil (log c)

still_ends : (buffers : List (List ℕ)) → Ending (map ending buffers)
still_ends [] = tt
still_ends (buffer ∷ buffers) = (λ e. no_bytes buffers, still_ends buffers)

pub ends_behind : (pieces : List Piece) (buffers : List (List ℕ)) → Ending pieces → Ending (pieces ++ map ending buffers)
ends_behind [] buffers ends = still_ends buffers
ends_behind (x ∷ xs) buffers ends = (λ e. bytes_append xs (map ending buffers) ∙ rw (ends.0 e, no_bytes buffers), ends_behind xs buffers ends.1)
