-- Reason 1 against the committed history: the kept commits of version st+1 to SC are all that the log committed under those versions. And the version
-- that a finish tells is the one under which the log committed it.
use Rattle.std.specs.Prelude.{ℕ, zero, suc, ◌+◌, ◌≤◌, ◌<◌, ◌↔◌, ◌≡◌, refl, length}
use mathlib.Core.List.{List, [], ◌∷◌, ◌++◌, map, head-eq_of_cons-eq, tail-eq_of_cons-eq, nil≢cons}
use Rattle.std.proofs.Math.Logic.Iff
use Rattle.std.proofs.Math.Option.{none}
use Rattle.std.proofs.Common.{sym, ◌∙◌, ltb-false, le_of_suc-le-suc, not-suc-le-zero}
use Rattle.std.proofs.Math.Path.{ap, subst}
use native.Mathlib.Omega.{arith}
use Rattle.std.proofs.Math.ListN.{take, length-map}
use Rattle.rules.specs.Sizes.{most_kept, floor}
use Rattle.rules.specs.Ledger.{Transaction, Entry, Commit, Clock, Books, State, keys_of, opening}
use Rattle.rules.specs.Closing.{ready, commits, kept_of, Outcome, version, aborts, Finish, finish, books_after, close}
use Rattle.rules.specs.Events.{Event, delivery, closing}
use Rattle.rules.specs.Refusals.{refusal, checks, delivery_checks, step}
use Rattle.rules.specs.Logs.{last, finishes}
use Rattle.laws.specs.Tests.{split}
use Rattle.claims.specs.Steps.{close_nil, close_ready, close_rest, accepted_closes, step_accepted, step_refused, refused_or}
use Rattle.claims.specs.Refused.{none_applies}
use Rattle.claims.specs.Clashes.{Clash, ClashingCommit}
use Rattle.claims.specs.Deliveries.{abort_answer, reason_1_exactly}
use Rattle.claims.specs.History.{BooksOf, laid, history, finish_books, step_books, committed_by, opening_books, log_books}

-- What a history committed under a version: the first one has version 1.
pub record CommittedAs (h : List Transaction) (v : ℕ) (t : Transaction) : Type 0 where
  pub newer : List Transaction
  pub older : List Transaction
  pub stands : h ≡ newer ++ t ∷ older
  pub counted : length newer + v ≡ length h

-- "each commit of version st+1 to SC", of a history
pub record ClashingVersion (own : ℕ) (t : Transaction) (h : List Transaction) : Type 0 where
  pub version : ℕ
  pub with : Transaction
  pub is : CommittedAs h version with
  pub after_snapshot : t.st < version
  pub clashes : Clash own t with.reads (keys_of with.writes)

-- An element of a list that stands among the first n of its images, and back.
record Source {A B : Type 0} (f : A → B) (xs : List A) (newer : List B) (y : B) : Type 0 where
  pub before : List A
  pub source : A
  pub behind : List A
  pub stands : xs ≡ before ++ source ∷ behind
  pub image : f source ≡ y
  pub same_place : length before ≡ length newer

module _ {A B : Type 0} (f : A → B) where
  source_of : (n : ℕ) (xs : List A) (newer older : List B) (y : B) → take n (map f xs) ≡ newer ++ y ∷ older → Source f xs newer y
  source_of zero xs [] older y h = absurd (nil≢cons h)
  source_of zero xs (z ∷ newer) older y h = absurd (nil≢cons h)
  source_of (suc n) [] [] older y h = absurd (nil≢cons h)
  source_of (suc n) [] (z ∷ newer) older y h = absurd (nil≢cons h)
  source_of (suc n) (x ∷ xs) [] older y h =
      record { before = []; source = x; behind = xs; stands = refl; image = head-eq_of_cons-eq h; same_place = refl }
  source_of (suc n) (x ∷ xs) (z ∷ newer) older y h =
      let r = source_of n xs newer older y (tail-eq_of_cons-eq h) in
      record {
        before = x ∷ r.before;
        source = r.source;
        behind = r.behind;
        stands = ap (λ (l : List A). x ∷ l) r.stands;
        image = r.image;
        same_place = ap suc r.same_place;
      }

  image_of : (n : ℕ) (before behind : List A) (x : A) → length before < n
      → (older : List B) × (take n (map f (before ++ x ∷ behind)) ≡ map f before ++ f x ∷ older)
  image_of zero before behind x low = absurd (not-suc-le-zero low)
  image_of (suc n) [] behind x low = (take n (map f behind), refl)
  image_of (suc n) (y ∷ before) behind x low =
      let r = image_of n before behind x (le_of_suc-le-suc low) in
      (r.0, ap (λ (l : List B). f y ∷ l) r.1)

module _ (own : ℕ) (t : Transaction) (h : List Transaction) (b : Books) (k : BooksOf h b) where
  from_kept : ClashingCommit own t b → ClashingVersion own t h
  unfolding kept_of
  from_kept c =
      let r = source_of kept_of most_kept h c.is.newer c.is.older c.commit (sym k.kept ∙ c.is.stands) in
      let counted = k.counted in
      let placed = c.is.counted in
      let same = r.same_place in
      record {
        version = c.version;
        with = r.source;
        is = record { newer = r.before; older = r.behind; stands = r.stands; counted = omega arith };
        after_snapshot = c.after_snapshot;
        clashes = subst (λ (d : Commit). Clash own t d.reads (keys_of d.writes)) (sym r.image) c.clashes;
      }

  to_kept : floor b.sc ≤ t.st → ClashingVersion own t h → ClashingCommit own t b
  unfolding kept_of
  to_kept kept c =
      let counted = k.counted in
      let placed = c.is.counted in
      let late = c.after_snapshot in
      let r = image_of kept_of most_kept c.is.newer c.is.older c.with (omega arith) in
      record {
        version = c.version;
        commit = kept_of c.with;
        is = record {
          newer = map kept_of c.is.newer;
          older = r.0;
          stands = k.kept ∙ ap (λ (l : List Transaction). take most_kept (map kept_of l)) c.is.stands ∙ r.1;
          counted = omega (arith, length-map c.is.newer kept_of);
        };
        after_snapshot = c.after_snapshot;
        clashes = c.clashes;
      }

snapshot_kept : (t : Transaction) (s : State) → refusal (delivery t) s ≡ none → floor s.books.sc ≤ t.st
unfolding refusal checks delivery_checks
snapshot_kept t s h =
    let k = none_applies (delivery_checks t s) h in
    ltb-false t.st (floor s.books.sc) k.1.1.1.1.1.0

-- Reason 1, of any log from opening: exactly when a transaction that the log committed under a version above st clashes.
pub reason_1_of_a_log : (es : List Event) (partitions own k : ℕ) (t : Transaction)
    → refusal (delivery t) (last es (opening partitions own k)) ≡ none
    → (step (delivery t) (last es (opening partitions own k))).answer ≡ abort_answer t (last es (opening partitions own k)) 1
    ↔ ClashingVersion (last es (opening partitions own k)).clock.own t (committed_by es (opening partitions own k))
reason_1_of_a_log es partitions own k t taken =
    let s = last es (opening partitions own k) in
    let h = committed_by es (opening partitions own k) in
    let books = log_books es partitions own k in
    Iff.trans (reason_1_exactly t s taken)
    (from_kept s.clock.own t h s.books books, to_kept s.clock.own t h s.books books (snapshot_kept t s taken))

-- Finishes laid on a history: each commit is told as the version after those that the history has.
abbrev NextVersion : List Transaction → Outcome → Type 0
NextVersion h (version v) = v ≡ suc (length h)
NextVersion h aborts = Unit {0}

abbrev Numbered : List Finish → List Transaction → Type 0
Numbered [] h = Unit {0}
Numbered (f ∷ fs) h = NextVersion h f.outcome × Numbered fs (laid f.outcome f.transaction h)

numbered_append : (fs gs : List Finish) (h : List Transaction) → Numbered fs h → Numbered gs (history fs h) → Numbered (fs ++ gs) h
unfolding history
numbered_append [] gs h m n = n
numbered_append (f ∷ fs) gs h m n = (m.0, numbered_append fs gs (laid f.outcome f.transaction h) m.1 n)

finish_numbered : (c : Clock) (e : Entry) (b : Books) (h : List Transaction) → BooksOf h b → NextVersion h (finish c e b).outcome
unfolding finish
finish_numbered c e b h k = let counted = k.counted in split (commits c e) (λ q. rw q (omega arith)) (λ q. rw q tt)

close_numbered : (c : Clock) (es : List Entry) (b : Books) (h : List Transaction) → BooksOf h b → Numbered (close c es b).finishes h
close_numbered c [] b h k = rw (close_nil c b) tt
close_numbered c (e ∷ es) b h k =
    split (ready c e)
    (λ q. rw (close_ready c e es b q) (
      finish_numbered c e b h k,
      close_numbered c es (books_after c e b) (laid (finish c e b).outcome (finish c e b).transaction h) (finish_books c e b h k),
    ))
    (λ q. rw (close_rest c e es b q) tt)

log_numbered : (es : List Event) (s : State) (h : List Transaction) → BooksOf h s.books → Numbered (finishes es s) h
unfolding finishes closing
log_numbered [] s h k = tt
log_numbered (e ∷ es) s h k =
    numbered_append (step e s).finishes (finishes es (step e s).next) h
    (refused_or (refusal e s)
    (λ q. rw (step_accepted e s q)
    (accepted_closes (λ r. Numbered r.finishes h) e s (λ a c waiting. close_numbered c waiting s.books h k) (λ a. tt)))
    (λ n q. rw (step_refused e s q) tt))
    (log_numbered es (step e s).next (history (step e s).finishes h) (step_books e s h k))

-- A history only grows.
still_there : (fs : List Finish) (h : List Transaction) (v : ℕ) (t : Transaction) → CommittedAs h v t → CommittedAs (history fs h) v t
unfolding history
still_there [] h v t c = c
still_there (f ∷ fs) h v t c = still_there fs (laid f.outcome f.transaction h) v t (one f.outcome f.transaction)
  where
    one : (o : Outcome) (u : Transaction) → CommittedAs (laid o u h) v t
    one (version w) u =
        let counted = c.counted in
        record { newer = u ∷ c.newer; older = c.older; stands = ap (λ (l : List Transaction). u ∷ l) c.stands; counted = omega arith }
    one aborts u = c

told_as : (before after : List Finish) (f : Finish) (v : ℕ) (h : List Transaction) → f.outcome ≡ version v → Numbered (before ++ f ∷ after) h
    → CommittedAs (history (before ++ f ∷ after) h) v f.transaction
unfolding history
told_as [] after f v h told n =
    let next : v ≡ suc (length h) = rw told at n.0 in
    rw told (still_there after (f.transaction ∷ h) v f.transaction (record { newer = []; older = h; stands = refl; counted = omega arith }))
told_as (g ∷ before) after f v h told n = told_as before after f v (laid g.outcome g.transaction h) told n.1

-- "A commit raises SC by 1, and that is its version.": of any log from opening, a finish that is told as version v is the v-th that the log committed.
pub told_version_committed : (es : List Event) (partitions own k : ℕ) (before after : List Finish) (f : Finish) (v : ℕ)
    → finishes es (opening partitions own k) ≡ before ++ f ∷ after → f.outcome ≡ version v
    → CommittedAs (committed_by es (opening partitions own k)) v f.transaction
told_version_committed es partitions own k before after f v stands told =
    rw stands
    (told_as before after f v [] told (rw stands at (log_numbered es (opening partitions own k) [] (opening_books partitions own k))))
