-- The committed history of a log, from its finishes: the books keep its newest 64 and hold the rest folded into the values, so that a read
-- gives the value of the newest version at most st, across the fold.
use Rattle.std.specs.Prelude.{ℕ, zero, suc, ◌+◌, ◌≤◌, List, [], ◌∷◌, ◌++◌, map, ◌≡◌, refl, ℤ, pos, length, take, drop, replicate}
use Rattle.std.proofs.Common.{sym, ap, ap₂, ◌∙◌, le_of_suc-le-suc, not-suc-le-zero, arith, take-append-drop}
use Rattle.rules.specs.Sizes.{keys, most_kept}
use Rattle.rules.specs.Ledger.{Transaction, Entry, Commit, Clock, Books, State, opening}
use Rattle.rules.specs.Closing.{ready, commits, written, folded, kept_of, committed, Outcome, version, aborts, Finish, finish, books_after, close}
use Rattle.rules.specs.Events.{Event, accepted, closing}
use Rattle.rules.specs.Refusals.{refusal, step}
use Rattle.rules.specs.Logs.{last, finishes}
use Rattle.laws.specs.Tests.{split}
use Rattle.claims.specs.Steps.{close_nil, close_ready, close_rest, accepted_closes, step_accepted, step_refused, refused_or}

-- The transactions that finishes committed, the newest first, laid on an older history.
abbrev pub laid : Outcome → Transaction → List Transaction → List Transaction
laid (version v) t older = t ∷ older
laid aborts t older = older

unfoldable pub history : List Finish → List Transaction → List Transaction
history [] older = older
history (f ∷ fs) older = history fs (laid f.outcome f.transaction older)

-- What the books are of a history: SC counts it, the newest 64 are kept, all older ones are in the values.
pub record BooksOf (h : List Transaction) (b : Books) : Type 0 where
  pub counted : b.sc ≡ length h
  pub kept : b.kept ≡ take most_kept (map kept_of h)
  pub folded_in : b.values ≡ folded (drop most_kept (map kept_of h)) (replicate keys (pos 0))

-- Folding one run of commits over another.
folded_append : (xs ys : List Commit) (values : List ℤ) → folded (xs ++ ys) values ≡ folded xs (folded ys values)
unfolding folded
folded_append [] ys values = refl
folded_append (x ∷ xs) ys values = ap (written x.writes) (folded_append xs ys values)

module _ {A : Type 0} where
  -- Keeping the newest n of one more: it is the same of all and of the newest n.
  take_cons_take : (n : ℕ) (x : A) (xs : List A) → take n (x ∷ take n xs) ≡ take n (x ∷ xs)
  take_cons_take zero x xs = refl
  take_cons_take (suc n) x xs = ap (λ (l : List A). x ∷ l) (take_shorter n xs)
    where
      take_shorter : (m : ℕ) (ys : List A) → take m (take (suc m) ys) ≡ take m ys
      take_shorter zero ys = refl
      take_shorter (suc m) [] = refl
      take_shorter (suc m) (y ∷ ys) = ap (λ (l : List A). y ∷ l) (take_shorter m ys)

  -- What falls out of the newest n as one joins them, and what had fallen out before, are what falls out of all.
  pub drop_take : (d n : ℕ) (xs : List A) → d ≤ n → drop d xs ≡ drop d (take n xs) ++ drop n xs
  drop_take zero n xs h = sym (take-append-drop n xs)
  drop_take (suc d) zero xs h = absurd (not-suc-le-zero h)
  drop_take (suc d) (suc n) [] h = refl
  drop_take (suc d) (suc n) (x ∷ xs) h = drop_take d n xs (le_of_suc-le-suc h)

fold_one_more : (n : ℕ) (c : Commit) (cs : List Commit) (zeros : List ℤ)
    → folded (drop (suc n) (c ∷ take (suc n) cs)) (folded (drop (suc n) cs) zeros) ≡ folded (drop (suc n) (c ∷ cs)) zeros
fold_one_more n c cs zeros =
    sym (folded_append (drop n (take (suc n) cs)) (drop (suc n) cs) zeros)
    ∙ ap (λ (l : List Commit). folded l zeros) (sym (drop_take n (suc n) cs (omega arith)))

-- "The commit's reads and writes are kept; one older than the newest 64 is folded into the values at the floor."
pub commit_books : (t : Transaction) (h : List Transaction) (b : Books) → BooksOf h b → BooksOf (t ∷ h) (committed t b)
unfolding committed
commit_books t h b k =
    record {
      counted = ap (λ (n : ℕ). n + 1) k.counted ∙ omega arith;
      kept = ap (λ (l : List Commit). take most_kept (kept_of t ∷ l)) k.kept ∙ take_cons_take most_kept (kept_of t) (map kept_of h);
      folded_in =
          ap₂ (λ (l : List Commit) (values : List ℤ). folded (drop most_kept (kept_of t ∷ l)) values) k.kept k.folded_in
          ∙ fold_one_more 63 (kept_of t) (map kept_of h) (replicate keys (pos 0));
    }

-- A head that is taken off lays itself on the history if it commits; closing does so head by head.
pub finish_books : (c : Clock) (e : Entry) (b : Books) (h : List Transaction) → BooksOf h b
    → BooksOf (laid (finish c e b).outcome (finish c e b).transaction h) (books_after c e b)
unfolding finish books_after
finish_books c e b h k = split (commits c e) (λ q. rw q (commit_books e.transaction h b k)) (λ q. rw q k)

pub close_books : (c : Clock) (es : List Entry) (b : Books) (h : List Transaction) → BooksOf h b
    → BooksOf (history (close c es b).finishes h) (close c es b).books
unfolding history
close_books c [] b h k = rw (close_nil c b) k
close_books c (e ∷ es) b h k =
    split (ready c e)
    (λ q. rw (close_ready c e es b q)
    (close_books c es (books_after c e b) (laid (finish c e b).outcome (finish c e b).transaction h) (finish_books c e b h k)))
    (λ q. rw (close_rest c e es b q) k)

accepted_books : (e : Event) (s : State) (h : List Transaction) → BooksOf h s.books
    → BooksOf (history (accepted e s).finishes h) (accepted e s).next.books
unfolding closing history
accepted_books e s h k =
    accepted_closes (λ r. BooksOf (history r.finishes h) r.next.books) e s (λ a c es. close_books c es s.books h k) (λ a. k)

-- The history of a log: its books are those of what it committed.
pub step_books : (e : Event) (s : State) (h : List Transaction) → BooksOf h s.books → BooksOf (history (step e s).finishes h) (step e s).next.books
unfolding history
step_books e s h k =
    refused_or (refusal e s) (λ q. rw (step_accepted e s q) (accepted_books e s h k)) (λ n q. rw (step_refused e s q) k)

history_append : (fs gs : List Finish) (h : List Transaction) → history (fs ++ gs) h ≡ history gs (history fs h)
unfolding history
history_append [] gs h = refl
history_append (f ∷ fs) gs h = history_append fs gs (laid f.outcome f.transaction h)

log_books_from : (es : List Event) (s : State) (h : List Transaction) → BooksOf h s.books → BooksOf (history (finishes es s) h) (last es s).books
unfolding history finishes last
log_books_from [] s h k = k
log_books_from (e ∷ es) s h k =
    rw (history_append (step e s).finishes (finishes es (step e s).next) h)
    (log_books_from es (step e s).next (history (step e s).finishes h) (step_books e s h k))

-- What a log from opening committed, the newest first.
abbrev pub committed_by : List Event → State → List Transaction
committed_by es s = history (finishes es s) []

pub opening_books : (partitions own k : ℕ) → BooksOf [] (opening partitions own k).books
unfolding opening folded
opening_books partitions own k = record { counted = refl; kept = refl; folded_in = refl }

pub log_books : (es : List Event) (partitions own k : ℕ)
    → BooksOf (committed_by es (opening partitions own k)) (last es (opening partitions own k)).books
log_books es partitions own k = log_books_from es (opening partitions own k) [] (opening_books partitions own k)
