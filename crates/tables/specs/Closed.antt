-- Closing on the tables: the head is taken off while it is ready, one finish entry is written for each, and the next head is looked at. What that
-- leaves is what the rules' closing leaves of the state that the tables hold.
use Rattle.std.specs.Prelude.{ℕ, zero, suc, ◌+◌, ◌*◌, ◌≤◌, ◌<◌, cond, ◌≡◌, refl, ℤ, length}
use mathlib.Core.List.{List, [], ◌∷◌, ◌++◌, tail-eq_of_cons-eq}
use Rattle.std.proofs.Common.{sym, ap, ap₂, ◌∙◌, subst, arith}
use Rattle.rules.specs.Ledger.{Entry, Clock, Books}
use Rattle.rules.specs.Closing.{ready, commits, Outcome, version, aborts, Finish, finish, books_after, close, Closed, finish_first}
use Rattle.laws.specs.Tests.{split}
use Rattle.laws.specs.Cuts.{put, length_put, put_nothing, put_put}
use Rattle.claims.specs.SoundParts.{Sound}
use Rattle.claims.specs.SoundKept.{off_sound}
use Rattle.claims.specs.Steps.{close_nil, close_ready, close_rest}
use Rattle.tables.specs.Layout.{book_words, sums_words}
use Rattle.tables.specs.View.{entry_at, waiting_view, waiting_none, length_waiting, books_view}
use Rattle.tables.specs.TakenOff.{off_book, off_sums, length_off, length_off_sums, off_waiting, off_books}
use Rattle.tables.specs.Keeping.{committed_book, committed_sums, length_committed, length_committed_sums, committed_books, committed_waiting}

-- What closing changes: SC, how many wait, how many finishes were written, and the three tables.
pub record Desk : Type 0 where
  pub sc : ℕ
  pub waiting : ℕ
  pub finished : ℕ
  pub book : List ℕ
  pub sums : List ℤ
  pub finishes : List ℕ

-- A finish entry: identity, and version or 0 for an abort.
abbrev pub outcome_word : Outcome → ℕ
outcome_word (version v) = v
outcome_word aborts = 0

unfoldable pub entry_words : Finish → List ℕ
entry_words f = f.transaction.identity ∷ outcome_word f.outcome ∷ []

-- The head committed, if it commits; and taken off, with n left behind it.
unfoldable pub kept_desk : Clock → Desk → Desk
kept_desk c d =
    let e = entry_at d.book d.sums 0 in
    record {
      sc = cond (commits c e) (d.sc + 1) d.sc;
      waiting = d.waiting;
      finished = d.finished;
      book = cond (commits c e) (committed_book d.book d.sc) d.book;
      sums = cond (commits c e) (committed_sums d.book d.sums d.sc) d.sums;
      finishes = d.finishes;
    }

unfoldable pub off_desk : ℕ → Desk → Desk
off_desk n d =
    record {
      sc = d.sc;
      waiting = n;
      finished = d.finished;
      book = off_book d.book n;
      sums = off_sums d.sums n;
      finishes = d.finishes;
    }

-- The head's finish entry written behind those that were written before.
unfoldable pub told_desk : Clock → Desk → Desk
told_desk c d =
    let e = entry_at d.book d.sums 0 in
    record {
      sc = d.sc;
      waiting = d.waiting;
      finished = d.finished + 1;
      book = d.book;
      sums = d.sums;
      finishes = put d.finishes (2 * d.finished) (entry_words (finish c e (books_view d.sc d.book d.sums)));
    }

unfoldable pub head_off : Clock → ℕ → Desk → Desk
head_off c n d = off_desk n (kept_desk c (told_desk c d))

unfoldable pub close_desk : Clock → ℕ → Desk → Desk
close_desk c zero d = d
close_desk c (suc n) d = cond (ready c (entry_at d.book d.sums 0)) (close_desk c n (head_off c n d)) d

pub head_off_waiting : (c : Clock) (n : ℕ) (d : Desk) → (head_off c n d).waiting ≡ n
unfolding head_off off_desk
head_off_waiting c n d = refl

pub head_off_finished : (c : Clock) (n : ℕ) (d : Desk) → (head_off c n d).finished ≡ d.finished + 1
unfolding head_off off_desk kept_desk told_desk
head_off_finished c n d = refl

pub head_off_finishes : (c : Clock) (n : ℕ) (d : Desk) → (head_off c n d).finishes
    ≡ put d.finishes (2 * d.finished) (entry_words (finish c (entry_at d.book d.sums 0) (books_view d.sc d.book d.sums)))
unfolding head_off off_desk kept_desk told_desk
head_off_finishes c n d = refl

-- What closing asks of a desk and keeps: long enough tables, room for the finishes, and a sound state.
pub record Fit (c : Clock) (d : Desk) : Type 0 where
  pub long : book_words ≤ length d.book
  pub long_sums : sums_words ≤ length d.sums
  pub room : 2 * (d.finished + d.waiting) ≤ length d.finishes
  pub few_told : d.finished + d.waiting ≤ 32
  pub sound : Sound c (waiting_view d.waiting d.book d.sums) (books_view d.sc d.book d.sums)

-- The head of a desk on which some wait.
abbrev pub head_of : Desk → Entry
head_of d = entry_at d.book d.sums 0

module _ (c : Clock) (n : ℕ) (d : Desk) (one : d.waiting ≡ suc n) (h : Fit c d) where
  few : n < 32
  few = let fits = h.sound.list_fits in omega (arith, length_waiting d.waiting d.book d.sums)

  before_off : waiting_view d.waiting d.book d.sums ≡ head_of d ∷ waiting_view n (off_book d.book n) (off_sums d.sums n)
  before_off = ap (λ (m : ℕ). waiting_view m d.book d.sums) one ∙ off_waiting d.book d.sums n h.long h.long_sums few

  -- the tables with the head committed
  abbrev next_book : List ℕ
  next_book = committed_book d.book d.sc

  abbrev next_sums : List ℤ
  next_sums = committed_sums d.book d.sums d.sc

  next_length : length next_book ≡ length d.book
  next_length = length_committed d.book d.sums d.sc h.long h.long_sums

  next_length_sums : length next_sums ≡ length d.sums
  next_length_sums = length_committed_sums d.book d.sums d.sc h.long h.long_sums

  next_long : book_words ≤ length next_book
  next_long = rw next_length h.long

  next_long_sums : sums_words ≤ length next_sums
  next_long_sums = rw next_length_sums h.long_sums

  -- what is left behind a head that commits is what is left behind one that aborts
  committed_off : waiting_view n (off_book next_book n) (off_sums next_sums n)
      ≡ waiting_view n (off_book d.book n) (off_sums d.sums n)
  committed_off =
      tail-eq_of_cons-eq
      (sym (off_waiting next_book next_sums n next_long next_long_sums few)
      ∙ (committed_waiting d.book d.sums d.sc h.long h.long_sums (suc n) few
      ∙ off_waiting d.book d.sums n h.long h.long_sums few))

  pub off_list : waiting_view n (head_off c n d).book (head_off c n d).sums ≡ waiting_view n (off_book d.book n) (off_sums d.sums n)
  unfolding head_off off_desk kept_desk told_desk
  off_list = split (commits c (head_of d)) (λ q. rw q committed_off) (λ q. rw q)

  pub off_list_books : books_view (head_off c n d).sc (head_off c n d).book (head_off c n d).sums
      ≡ books_after c (head_of d) (books_view d.sc d.book d.sums)
  unfolding head_off off_desk kept_desk told_desk books_after
  off_list_books =
      split (commits c (head_of d))
      (λ q. rw q (off_books next_book next_sums n next_long next_long_sums few (d.sc + 1) ∙ committed_books d.book d.sums d.sc h.long h.long_sums))
      (λ q. rw q (off_books d.book d.sums n h.long h.long_sums few d.sc))

  pub length_head_off : length (head_off c n d).book ≡ length d.book
  unfolding head_off off_desk kept_desk told_desk
  length_head_off =
      split (commits c (head_of d))
      (λ q. rw q (length_off next_book next_sums n next_long next_long_sums few ∙ next_length))
      (λ q. rw q (length_off d.book d.sums n h.long h.long_sums few))

  pub length_head_off_sums : length (head_off c n d).sums ≡ length d.sums
  unfolding head_off off_desk kept_desk told_desk
  length_head_off_sums =
      split (commits c (head_of d))
      (λ q. rw q (length_off_sums next_book next_sums n next_long next_long_sums few ∙ next_length_sums))
      (λ q. rw q (length_off_sums d.book d.sums n h.long h.long_sums few))

  pub length_head_off_finishes : length (head_off c n d).finishes ≡ length d.finishes
  unfolding head_off off_desk kept_desk told_desk entry_words
  length_head_off_finishes = let room = h.room in length_put d.finishes (2 * d.finished) _ (omega arith)

  -- a head taken off keeps all of it
  head_off_sound : Sound c (waiting_view n (head_off c n d).book (head_off c n d).sums)
      (books_view (head_off c n d).sc (head_off c n d).book (head_off c n d).sums)
  head_off_sound =
      rw (off_list, off_list_books)
      (off_sound c (head_of d) (waiting_view n (off_book d.book n) (off_sums d.sums n)) (books_view d.sc d.book d.sums)
      (subst (λ (es : List Entry). Sound c es (books_view d.sc d.book d.sums)) before_off h.sound))

  pub head_off_fit : Fit c (head_off c n d)
  head_off_fit =
      record {
        long = rw length_head_off h.long;
        long_sums = rw length_head_off_sums h.long_sums;
        room = let room = h.room in rw (length_head_off_finishes, head_off_waiting c n d, head_off_finished c n d) (omega arith);
        few_told = let few_told = h.few_told in rw (head_off_waiting c n d, head_off_finished c n d) (omega arith);
        sound = rw (head_off_waiting c n d) head_off_sound;
      }

-- The finish entries of a list of finishes, one behind the other.
unfoldable pub words_of : List Finish → List ℕ
words_of [] = []
words_of (f ∷ fs) = entry_words f ++ words_of fs

-- What closing leaves of a desk is what the rules' closing leaves of the state that it holds, and says what the rules' finishes say.
pub record Closes (c : Clock) (d e : Desk) (r : Closed) : Type 0 where
  pub list : waiting_view e.waiting e.book e.sums ≡ r.waiting
  pub books : books_view e.sc e.book e.sums ≡ r.books
  pub told : e.finishes ≡ put d.finishes (2 * d.finished) (words_of r.finishes)
  pub counted : e.finished ≡ d.finished + length r.finishes
  pub same_length : length e.book ≡ length d.book
  pub same_length_sums : length e.sums ≡ length d.sums

rests : (c : Clock) (d : Desk) (es : List Entry) (b : Books) → waiting_view d.waiting d.book d.sums ≡ es → books_view d.sc d.book d.sums ≡ b
    → Closes c d d (record { finishes = []; waiting = es; books = b })
unfolding words_of
rests c d es b list books =
    record {
      list = list;
      books = books;
      told = sym (put_nothing d.finishes (2 * d.finished));
      counted = omega arith;
      same_length = refl;
      same_length_sums = refl;
    }

-- A finish entry is two words.
entry_behind : (m : ℕ) (f : Finish) → 2 * (m + 1) ≡ 2 * m + length (entry_words f)
unfolding entry_words
entry_behind m f = omega arith

entry_fits : (d : Desk) (f : Finish) (n : ℕ) → d.waiting ≡ suc n → 2 * (d.finished + d.waiting) ≤ length d.finishes
    → 2 * d.finished + length (entry_words f) ≤ length d.finishes
unfolding entry_words
entry_fits d f n one room = omega arith

-- The head off, and then the rest closed.
closes_on : (c : Clock) (n : ℕ) (d e : Desk) (one : d.waiting ≡ suc n) (h : Fit c d) (r : Closed) → Closes c (head_off c n d) e r
    → Closes c d e (finish_first (finish c (head_of d) (books_view d.sc d.book d.sums)) r)
unfolding words_of
closes_on c n d e one h r k =
    let f = finish c (head_of d) (books_view d.sc d.book d.sums) in
    let room = h.room in
    let finished = head_off_finished c n d in
    record {
      list = k.list;
      books = k.books;
      told = k.told
          ∙ (ap₂ (λ (l : List ℕ) (m : ℕ). put l (2 * m) (words_of r.finishes)) (head_off_finishes c n d) finished
          ∙ put_put d.finishes (2 * d.finished) (entry_words f) (words_of r.finishes) (2 * (d.finished + 1))
          (entry_behind d.finished f) (entry_fits d f n one room));
      counted = let counted = k.counted in omega arith;
      same_length = k.same_length ∙ length_head_off c n d one h;
      same_length_sums = k.same_length_sums ∙ length_head_off_sums c n d one h;
    }

pub close_desk_closes : (c : Clock) (n : ℕ) (d : Desk) → d.waiting ≡ n → Fit c d
    → Closes c d (close_desk c n d) (close c (waiting_view d.waiting d.book d.sums) (books_view d.sc d.book d.sums))
unfolding close_desk head_off off_desk
close_desk_closes c zero d none h =
    let b = books_view d.sc d.book d.sums in
    let empty = ap (λ (m : ℕ). waiting_view m d.book d.sums) none ∙ waiting_none d.book d.sums in
    subst (λ (es : List Entry). Closes c d d (close c es b)) (sym empty)
    (rw (close_nil c b) (rests c d [] b empty refl))
close_desk_closes c (suc n) d one h =
    let b = books_view d.sc d.book d.sums in
    let e = head_of d in
    let rest = waiting_view n (off_book d.book n) (off_sums d.sums n) in
    let list = before_off c n d one h in
    subst (λ (es : List Entry). Closes c d (cond (ready c e) (close_desk c n (head_off c n d)) d) (close c es b)) (sym list)
    (split (ready c e)
    (λ q. rw (q, close_ready c e rest b q)
    (closes_on c n d (close_desk c n (head_off c n d)) one h (close c rest (books_after c e b))
    (rw (head_off_waiting c n d, off_list c n d one h, off_list_books c n d one h)
    at (close_desk_closes c n (head_off c n d) (head_off_waiting c n d) (head_off_fit c n d one h)))))
    (λ q. rw (q, close_rest c e rest b q) (rests c d (e ∷ rest) b list refl)))
