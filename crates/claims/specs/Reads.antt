-- A read gives the value of the newest version at most st, against the committed history: the fold at 64 doesn't show.
use Rattle.std.specs.Prelude.{ℕ, zero, suc, ◌-◌, ◌≤◌, ◌<◌, ◌⊎◌, ◌≡◌, refl, eqb, ℤ, pos, length, take, drop, get_or, replicate}
use mathlib.Core.List.Memᴰ
use mathlib.Core.List.{List, [], ◌∷◌, ◌++◌, map, Memᴰ}
use Rattle.std.proofs.Common.{inl, inr, ⊎_elim, sym, ap, ◌∙◌, eqb-true, ltb-false, leb-false, arith, get_or-set_same, get_or-set_other}
use Rattle.std.proofs.Math.Option.{Option, none, some, get_or as else_value}
use Rattle.std.proofs.lemmas.Bool.{eqb-false}
use Rattle.std.proofs.lemmas.List.{length-replicate}
use Rattle.rules.specs.Sizes.{keys, most_kept, floor}
use Rattle.rules.specs.Ledger.{Write, Transaction, Commit, Books, State, opening}
use Rattle.rules.specs.Closing.{written, folded, kept_of}
use Rattle.rules.specs.Read.{put_at, newest_value, read_at}
use Rattle.rules.specs.Events.{Event, Step, read, Snapshot, snapshot, value, accepted, take_read}
use Rattle.rules.specs.Refusals.{refusal, checks, read_checks, step}
use Rattle.rules.specs.Logs.{last}
use Rattle.laws.specs.Tests.{split}
use Rattle.claims.specs.Steps.{step_accepted}
use Rattle.claims.specs.Refused.{none_applies}
use Rattle.claims.specs.SoundKept.{length_written, length_folded}
use Rattle.claims.specs.History.{BooksOf, drop_take, committed_by, log_books}

-- What stands at a key after writes; after commits.
written_at : (key : ℕ) (ws : List Write) (values : List ℤ) → key < length values
    → get_or (written ws values) key (pos 0) ≡ else_value (put_at key ws) (get_or values key (pos 0))
unfolding written put_at
written_at key [] values low = refl
written_at key (w ∷ ws) values low =
    let fits : key < length (written ws values) = rw (length_written ws values) low in
    split (eqb key w.key)
    (λ q. rw (q, ← eqb-true key w.key q) (get_or-set_same (written ws values) key w.value (pos 0) fits))
    (λ q. rw q (get_or-set_other (written ws values) w.key key w.value (pos 0) (eqb-false key w.key q) ∙ written_at key ws values low))

folded_at : (key : ℕ) (cs : List Commit) (values : List ℤ) → key < length values
    → newest_value key cs values ≡ get_or (folded cs values) key (pos 0)
unfolding folded newest_value
folded_at key [] values low = refl
folded_at key (c ∷ cs) values low =
    ap (else_value (put_at key c.writes)) (folded_at key cs values low)
    ∙ sym (written_at key c.writes (folded cs values) (rw (length_folded cs values) low))

newest_append : (key : ℕ) (xs ys : List Commit) (values : List ℤ) → key < length values
    → newest_value key (xs ++ ys) values ≡ newest_value key xs (folded ys values)
unfolding newest_value
newest_append key [] ys values low = folded_at key ys values low
newest_append key (x ∷ xs) ys values low = ap (else_value (put_at key x.writes)) (newest_append key xs ys values low)

-- The versions up to st of a history, the newest first.
abbrev pub up_to {ℓ} : {A : Type ℓ} → ℕ → List A → List A
up_to st h = drop (length h - st) h

-- The books answer for their history at every st from the floor on.
read_books : (key st : ℕ) (h : List Transaction) (b : Books) → BooksOf h b → key < keys → st ≤ b.sc → floor b.sc ≤ st
    → read_at key st b ≡ newest_value key (drop (length h - st) (map kept_of h)) (replicate keys (pos 0))
unfolding read_at
read_books key st h b k low taken kept =
    let zeros = replicate keys (pos 0) in
    let commits = map kept_of h in
    let counted = k.counted in
    let near : b.sc - st ≤ most_kept = omega arith in
    let fits : key < length zeros = rw (length-replicate keys (pos 0)) low in
    rw (k.kept, k.folded_in)
    (sym (newest_append key (drop (b.sc - st) (take most_kept commits)) (drop most_kept commits) zeros fits)
    ∙ ap (λ (l : List Commit). newest_value key l zeros) (sym (drop_take (b.sc - st) most_kept commits near))
    ∙ ap (λ (n : ℕ). newest_value key (drop (n - st) commits) zeros) counted)

-- The newest of some transactions that writes a key writes this value there; none of them writes the key.
pub record WrittenBy (key : ℕ) (h : List Transaction) (x : ℤ) : Type 0 where
  pub newer : List Transaction
  pub writer : Transaction
  pub older : List Transaction
  pub stands : h ≡ newer ++ writer ∷ older
  pub writes : put_at key writer.writes ≡ some x
  pub none_newer : (t : Transaction) → Memᴰ t newer → put_at key t.writes ≡ none

pub record Unwritten (key : ℕ) (h : List Transaction) : Type 0 where
  pub none_writes : (t : Transaction) → Memᴰ t h → put_at key t.writes ≡ none

-- "the value of the newest version": of the newest that writes the key, or 0 where none does
abbrev pub NewestValue : ℕ → List Transaction → ℤ → Type 0
NewestValue key h x = WrittenBy key h x ⊎ (Unwritten key h × (x ≡ pos 0))

found_or {ℓ} : {C : Type ℓ} (o : Option ℤ) → ((x : ℤ) → o ≡ some x → C) → (o ≡ none → C) → C
found_or none found missing = missing refl
found_or (some x) found missing = found x refl

also_none : (key : ℕ) (t : Transaction) (ts : List Transaction) → put_at key t.writes ≡ none
    → ((u : Transaction) → Memᴰ u ts → put_at key u.writes ≡ none) → (u : Transaction) → Memᴰ u (t ∷ ts) → put_at key u.writes ≡ none
also_none key t ts q k u m = ⊎_elim (λ e. ap (λ (v : Transaction). put_at key v.writes) e ∙ q) (k u) (Memᴰ.cases_cons m)

zeros_at : (n key : ℕ) → get_or (replicate n (pos 0)) key (pos 0) ≡ pos 0
zeros_at zero key = refl
zeros_at (suc n) zero = refl
zeros_at (suc n) (suc key) = zeros_at n key

newest_is : (key : ℕ) (h : List Transaction) → NewestValue key h (newest_value key (map kept_of h) (replicate keys (pos 0)))
unfolding newest_value kept_of
newest_is key [] = inr (record { none_writes = λ t m. absurd (Memᴰ.not-nil m) }, zeros_at keys key)
newest_is key (t ∷ h) =
    found_or (put_at key t.writes)
    (λ x q. rw q (inl (record { newer = []; writer = t; older = h; stands = refl; writes = q; none_newer = λ u m. absurd (Memᴰ.not-nil m) })))
    (λ q. rw q
    (⊎_elim
    (λ w. inl (record {
      newer = t ∷ w.newer;
      writer = w.writer;
      older = w.older;
      stands = ap (λ (l : List Transaction). t ∷ l) w.stands;
      writes = w.writes;
      none_newer = also_none key t w.newer q w.none_newer;
    }))
    (λ n. inr (record { none_writes = also_none key t h q n.0.none_writes }, n.1))
    (newest_is key h)))

drop_map : {A B : Type 0} (f : A → B) (n : ℕ) (xs : List A) → drop n (map f xs) ≡ map f (drop n xs)
drop_map f zero xs = refl
drop_map f (suc n) [] = refl
drop_map f (suc n) (x ∷ xs) = drop_map f n xs

-- What is known of a read that isn't refused.
record Readable (key st : ℕ) (b : Books) : Type 0 where
  pub low : key < keys
  pub taken : st ≤ b.sc
  pub kept : floor b.sc ≤ st

readable : (key : ℕ) (st : Snapshot) (s : State) → refusal (read key st) s ≡ none → Readable key (snapshot st s) s.books
unfolding refusal checks read_checks
readable key st s h =
    let k = none_applies (read_checks key (snapshot st s) s) h in
    record {
      low = leb-false keys key k.0;
      taken = ltb-false s.books.sc (snapshot st s) k.1.0;
      kept = ltb-false (snapshot st s) (floor s.books.sc) k.1.1.0;
    }

-- "Read of a key at st: the value of the newest version that is at most st. It changes nothing.", of any log from opening
pub record ReadAnswer (es : List Event) (s : State) (key st : ℕ) (r : Step) : Type 0 where
  pub value_read : ℤ
  pub answers : r.answer ≡ value st value_read
  pub newest : NewestValue key (up_to st (committed_by es s)) value_read
  pub finishes_nothing : r.finishes ≡ []
  pub changes_nothing : r.next ≡ last es s

pub read_exactly : (es : List Event) (partitions own k : ℕ) (key : ℕ) (st : Snapshot)
    → refusal (read key st) (last es (opening partitions own k)) ≡ none
    → ReadAnswer es (opening partitions own k) key (snapshot st (last es (opening partitions own k)))
    (step (read key st) (last es (opening partitions own k)))
unfolding accepted take_read
read_exactly es partitions own k key st q =
    let s = last es (opening partitions own k) in
    let h = committed_by es (opening partitions own k) in
    let at_st = snapshot st s in
    let r = readable key st s q in
    let is_newest = read_books key at_st h s.books (log_books es partitions own k) r.low r.taken r.kept
    ∙ ap (λ (l : List Commit). newest_value key l (replicate keys (pos 0))) (drop_map kept_of (length h - at_st) h) in
    rw (step_accepted (read key st) s q)
    (record {
      value_read = read_at key at_st s.books;
      answers = refl;
      newest = rw is_newest (newest_is key (up_to at_st h));
      finishes_nothing = refl;
      changes_nothing = refl;
    })
