-- Entries that hold all the votes that they will ever get. Closing such a list is closing the list as it is, followed by closing what is left of it.
use Rattle.std.specs.Prelude.{ℕ, false, ◌&&◌, List, [], ◌∷◌, ◌++◌, map, ◌≡◌, leb}
use Rattle.std.proofs.Math.Bool.{true, not}
use Rattle.std.proofs.Math.Path.{sym}
use Rattle.std.proofs.Common.{ap}
use borrow.Author.Tests.{not-true, not-false}
use Rattle.rules.specs.Partitions.{Ballot, aye, nay, Heard, names, other, heard_from, outstanding, any_outstanding, every_vote_yes, every_partition}
use Rattle.rules.specs.Ledger.{Entry, Clock, Books, is_local}
use Rattle.rules.specs.Closing.{ready, commits, finish, books_after, close, Closed, Finish, finish_first}
use Rattle.laws.specs.Tests.{split, and_left, and_right, or_left, any_weaken}
use Rattle.claims.specs.Steps.{close_nil, close_ready, close_rest}
use Rattle.laws.specs.Each.{Each, all_same_where}
use Rattle.claims.specs.Heads.{AtRest}
use Rattle.claims.specs.Gather.{said}

-- The votes heard are some of those of g, and g has no others of the same partitions.
abbrev pub Within : Heard → Heard → Type 0
Within h g = (p : ℕ) → heard_from h p ≡ true → (b : Ballot) → names (said b h) p ≡ names (said b g) p

module _ (own set : ℕ) (h g : Heard) (within : Within h g) where
  outstanding_within : (p : ℕ) → outstanding own set h p ≡ false → outstanding own set g p ≡ false
  unfolding outstanding heard_from
  outstanding_within p q =
      split (other own set p)
      (λ o. let from : heard_from h p ≡ true = not-false (heard_from h p) (rw o at q) in
      rw (o, ← (within p from aye), ← (within p from nay)) (rw o at q))
      (λ o. rw o)

  pub none_outstanding_within : any_outstanding own set h ≡ false → any_outstanding own set g ≡ false
  unfolding any_outstanding
  none_outstanding_within q = any_weaken (outstanding own set h) (outstanding own set g) outstanding_within every_partition q

  no_within : (p : ℕ) → outstanding own set h p ≡ false → not (other own set p && names h.nays p) ≡ not (other own set p && names g.nays p)
  unfolding outstanding
  no_within p q =
      split (other own set p)
      (λ o. rw (o, within p (not-false (heard_from h p) (rw o at q)) nay))
      (λ o. rw o)

  pub every_vote_yes_within : any_outstanding own set h ≡ false → every_vote_yes own set g ≡ every_vote_yes own set h
  unfolding any_outstanding every_vote_yes
  every_vote_yes_within q =
      sym (all_same_where (λ p. not (other own set p && names h.nays p)) (λ p. not (other own set p && names g.nays p))
      (outstanding own set h) no_within every_partition q)

-- The entry with all votes on its identity.
unfoldable pub fill : (ℕ → Heard) → Entry → Entry
fill w e = record { transaction = e.transaction; rt = e.rt; heard = w e.transaction.identity }

abbrev pub Under : (ℕ → Heard) → Entry → Type 0
Under w e = Within e.heard (w e.transaction.identity)

-- A ready head is ready when filled, and ends in the same way.
module _ (w : ℕ → Heard) (c : Clock) (e : Entry) (under : Under w e) (is_ready : ready c e ≡ true) where
  none_outstanding : is_local c.own e.transaction ≡ false → any_outstanding c.own e.transaction.partitions e.heard ≡ false
  unfolding ready
  none_outstanding q =
      not-true (any_outstanding c.own e.transaction.partitions e.heard)
      (and_right (leb e.rt c.dc) (not (any_outstanding c.own e.transaction.partitions e.heard)) (rw q at is_ready))

  pub ready_fill : ready c (fill w e) ≡ true
  unfolding ready fill
  ready_fill =
      split (is_local c.own e.transaction)
      (λ q. rw q)
      (λ q. rw (
        q,
        none_outstanding_within c.own e.transaction.partitions e.heard (w e.transaction.identity) under (none_outstanding q),
        and_left (leb e.rt c.dc) (not (any_outstanding c.own e.transaction.partitions e.heard)) (rw q at is_ready),
      ))

  pub commits_fill : commits c (fill w e) ≡ commits c e
  unfolding commits fill
  commits_fill =
      split (is_local c.own e.transaction)
      (λ q. rw q)
      (λ q. rw (q, every_vote_yes_within c.own e.transaction.partitions e.heard (w e.transaction.identity) under (none_outstanding q)))

  pub finish_fill : (b : Books) → finish c (fill w e) b ≡ finish c e b
  unfolding finish fill
  finish_fill b = rw commits_fill

  pub books_fill : (b : Books) → books_after c (fill w e) b ≡ books_after c e b
  unfolding books_after fill
  books_fill b = rw commits_fill

-- What finished earlier, and what closing gave after it.
abbrev pub following : List Finish → Closed → Closed
following fs r = record { finishes = fs ++ r.finishes; waiting = r.waiting; books = r.books }

-- The engine lags behind: with all votes in hand, closing gives what it gives without them, and then what is owed.
pub lag : (w : ℕ → Heard) (c : Clock) (es : List Entry) (b : Books) → Each (Under w) es
    → close c (map (fill w) es) b ≡ following (close c es b).finishes (close c (map (fill w) (close c es b).waiting) (close c es b).books)
lag w c [] b h = rw (close_nil c b, close_nil c b)
lag w c (e ∷ es) b h =
    split (ready c e)
    (λ q. rw (close_ready c e es b q, close_ready c (fill w e) (map (fill w) es) b (ready_fill w c e h.0 q), finish_fill w c e h.0 q b, books_fill w c e h.0 q b)
    (ap (finish_first (finish c e b)) (lag w c es (books_after c e b) h.1)))
    (λ q. rw (close_rest c e es b q))

-- Closing leaves a list at rest as it is.
pub resting_stays : (c : Clock) (es : List Entry) (b : Books) → AtRest c es → close c es b ≡ record { finishes = []; waiting = es; books = b }
resting_stays c [] b h = close_nil c b
resting_stays c (e ∷ es) b h = close_rest c e es b h

-- An entry whose threshold is reached has all its votes.
abbrev pub Timely : (ℕ → Heard) → Clock → Entry → Type 0
Timely w c e = leb e.rt c.dc ≡ true → w e.transaction.identity ≡ e.heard

-- If all are timely, a list at rest is at rest when filled.
unready_fill : (w : ℕ → Heard) (c : Clock) (e : Entry) → Timely w c e → ready c e ≡ false → ready c (fill w e) ≡ false
unfolding ready fill
unready_fill w c e timely h =
    split (leb e.rt c.dc)
    (λ q. rw (timely q) h)
    (λ q. rw (
      q,
      or_left (is_local c.own e.transaction)
          (leb e.rt c.dc && not (any_outstanding c.own e.transaction.partitions e.heard)) h,
    ))

pub resting_fill : (w : ℕ → Heard) (c : Clock) (es : List Entry) → Each (Timely w c) es → AtRest c es → AtRest c (map (fill w) es)
resting_fill w c [] t h = tt
resting_fill w c (e ∷ es) t h = unready_fill w c e t.0 h
