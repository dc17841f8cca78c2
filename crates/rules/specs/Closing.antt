-- 01, "What an event does": Closing. Ready heads are taken off; a commit raises SC and is kept.
use Rattle.std.specs.Prelude.{ℕ, ◌+◌, Bool, not, cond, ◌&&◌, ◌||◌, List, [], ◌∷◌, leb, ℤ, take, drop, set}
use Rattle.rules.specs.Sizes.{most_kept}
use Rattle.rules.specs.Partitions.{any_outstanding, every_vote_yes}
use Rattle.rules.specs.Ledger.{Write, Transaction, Entry, Commit, Clock, Books, is_local}

-- "A local head is ready. A global head is ready when DC >= rt and no vote is outstanding."
unfoldable pub ready : Clock → Entry → Bool
ready c e =
    is_local c.own e.transaction
    || (leb e.rt c.dc && not (any_outstanding c.own e.transaction.partitions e.heard))

-- "A local head commits. A global head commits if every vote was yes, otherwise it aborts and writes nothing."
unfoldable pub commits : Clock → Entry → Bool
commits c e = is_local c.own e.transaction || every_vote_yes c.own e.transaction.partitions e.heard

-- Values with a list of writes in them.
unfoldable pub written : List Write → List ℤ → List ℤ
written [] values = values
written (w ∷ ws) values = set (written ws values) w.key w.value

-- Values with the writes of commits in them, the older under the newer.
unfoldable pub folded : List Commit → List ℤ → List ℤ
folded [] values = values
folded (c ∷ cs) values = written c.writes (folded cs values)

-- "The commit's reads and writes are kept"
unfoldable pub kept_of : Transaction → Commit
kept_of t = record { identity = t.identity; reads = t.reads; writes = t.writes }

-- "A commit raises SC by 1, and that is its version. The commit's reads and writes are kept; one older than the newest 64 is folded into the values at the floor."
unfoldable pub committed : Transaction → Books → Books
committed t b =
    record {
      sc = b.sc + 1;
      kept = take most_kept (kept_of t ∷ b.kept);
      values = folded (drop most_kept (kept_of t ∷ b.kept)) b.values;
    }

-- How a transaction ended: committed under a version, or aborted.
pub data Outcome : Type 0 where
  version : ℕ → Outcome
  aborts : Outcome

-- What a finish tells: of which transaction, and how it ended.
pub record Finish : Type 0 where
  pub transaction : Transaction
  pub outcome : Outcome

-- The finish of a head that is taken off: "A global head commits if every vote was yes, otherwise it aborts [..] A commit raises SC by 1, and that is
-- its version."
unfoldable pub finish : Clock → Entry → Books → Finish
finish c e b = record { transaction = e.transaction; outcome = cond (commits c e) (version (b.sc + 1)) aborts }

-- "A local head commits. A global head commits if every vote was yes, otherwise it aborts and writes nothing.": the books after it.
unfoldable pub books_after : Clock → Entry → Books → Books
books_after c e b = cond (commits c e) (committed e.transaction b) b

-- What closing leaves: the finishes in their order, the list, the books.
pub record Closed : Type 0 where
  pub finishes : List Finish
  pub waiting : List Entry
  pub books : Books

abbrev pub finish_first : Finish → Closed → Closed
finish_first f r = record { finishes = f ∷ r.finishes; waiting = r.waiting; books = r.books }

-- "while the head of the list is ready it is taken off, and the next head is looked at", over any test of readiness, books after and finish.
module _ (is_ready : Entry → Bool) (after : Entry → Books → Books) (told : Entry → Books → Finish) where
  unfoldable pub close_with : List Entry → Books → Closed
  close_with [] b = record { finishes = []; waiting = []; books = b }
  close_with (e ∷ es) b =
      cond (is_ready e) (finish_first (told e b) (close_with es (after e b))) (record { finishes = []; waiting = e ∷ es; books = b })

-- "Closing."
unfoldable pub close : Clock → List Entry → Books → Closed
close c = close_with (ready c) (books_after c) (finish c)
