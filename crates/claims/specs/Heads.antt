-- Closing in 01's words: when a head is ready, when it commits, and that closing leaves a list at rest.
use Rattle.std.specs.Prelude.{ℕ, ◌≤◌, ◌<◌, true, false, not, ◌&&◌, List, [], ◌∷◌, ◌++◌, map, ◌↔◌, ◌⊎◌, ◌≡◌, refl, leb}
use Rattle.std.specs.List.{list_all}
use Rattle.std.proofs.Common.{inl, inr, ⊎_elim, ap, leb-true, le-leb}
use Rattle.std.proofs.lemmas.Bool.{not-true, not-false}
use Rattle.rules.specs.Partitions.{names, other, Heard, heard_from, outstanding, any_outstanding, every_vote_yes}
use Rattle.rules.specs.Ledger.{Transaction, Entry, Clock, Books, State, is_local, opening}
use Rattle.rules.specs.Closing.{ready, commits, close, finish, books_after, Finish}
use Rattle.rules.specs.Events.{Event, accepted, closing}
use Rattle.rules.specs.Logs.{last}
use Rattle.laws.specs.Tests.{split, never, and_left, and_right, and_both, or_cases, or_first, or_second}
use Rattle.laws.specs.Partitions.{every_partition_passes, no_partition_passes}
use Rattle.claims.specs.Steps.{close_nil, close_ready, close_rest, accepted_closes, step_keeps, last_keeps}

-- "no vote is outstanding": every other involved partition has been heard.
abbrev pub AllHeard : ℕ → ℕ → Heard → Type 0
AllHeard own set h = (p : ℕ) → p < 8 → other own set p ≡ true → heard_from h p ≡ true

none_outstanding_exactly : (own set : ℕ) (h : Heard) → any_outstanding own set h ≡ false ↔ AllHeard own set h
unfolding any_outstanding outstanding
none_outstanding_exactly own set h = (
  λ q p low o. heard p o ((no_partition_passes (outstanding own set h)).0 q p low),
  λ k. (no_partition_passes (outstanding own set h)).1 (λ p low. split (other own set p) (λ o. rw (o, k p low o)) (λ o. rw o)),
)
  where
    heard : (p : ℕ) → other own set p ≡ true → outstanding own set h p ≡ false → heard_from h p ≡ true
    heard p o n = not-false (heard_from h p) (rw o at n)

-- "A local head is ready. A global head is ready when DC >= rt and no vote is outstanding."
pub ready_exactly : (c : Clock) (e : Entry) → ready c e ≡ true
    ↔ ((is_local c.own e.transaction ≡ true) ⊎ ((e.rt ≤ c.dc) × AllHeard c.own e.transaction.partitions e.heard))
unfolding ready
ready_exactly c e =
    let l = is_local c.own e.transaction in
    let d = leb e.rt c.dc in
    let o = any_outstanding c.own e.transaction.partitions e.heard in
    let exactly = none_outstanding_exactly c.own e.transaction.partitions e.heard in (
      λ h. ⊎_elim inl (λ q. inr (leb-true e.rt c.dc (and_left d (not o) q), exactly.0 (not-true o (and_right d (not o) q))))
          (or_cases l (d && not o) h),
      ⊎_elim (λ q. or_first l (d && not o) q)
          (λ q. or_second l (d && not o) (and_both d (not o) (le-leb e.rt c.dc q.0) (rw (exactly.1 q.1)))),
    )

-- "if every vote was yes": no other involved partition said no
abbrev pub NoneSaidNo : ℕ → ℕ → Heard → Type 0
NoneSaidNo own set h = (p : ℕ) → p < 8 → other own set p ≡ true → names h.nays p ≡ false

every_vote_yes_exactly : (own set : ℕ) (h : Heard) → every_vote_yes own set h ≡ true ↔ NoneSaidNo own set h
unfolding every_vote_yes
every_vote_yes_exactly own set h = (
  λ q p low o. said p o ((every_partition_passes (λ r. not (other own set r && names h.nays r))).0 q p low),
  λ k. (every_partition_passes (λ r. not (other own set r && names h.nays r))).1
      (λ p low. split (other own set p) (λ o. rw (o, k p low o)) (λ o. rw o)),
)
  where
    said : (p : ℕ) → other own set p ≡ true → not (other own set p && names h.nays p) ≡ true → names h.nays p ≡ false
    said p o n = not-true (names h.nays p) (rw o at n)

-- "A local head commits. A global head commits if every vote was yes, otherwise it aborts"
pub commits_exactly : (c : Clock) (e : Entry) → commits c e ≡ true
    ↔ ((is_local c.own e.transaction ≡ true) ⊎ NoneSaidNo c.own e.transaction.partitions e.heard)
unfolding commits
commits_exactly c e =
    let l = is_local c.own e.transaction in
    let y = every_vote_yes c.own e.transaction.partitions e.heard in
    let exactly = every_vote_yes_exactly c.own e.transaction.partitions e.heard in
    (λ h. ⊎_elim inl (λ q. inr (exactly.0 q)) (or_cases l y h), ⊎_elim (λ q. or_first l y q) (λ k. or_second l y (exactly.1 k)))

-- So a ready global head that commits has a yes of every other involved partition.
pub ready_commit_all_yes : (c : Clock) (e : Entry) → ready c e ≡ true → is_local c.own e.transaction ≡ false → commits c e ≡ true
    → (p : ℕ) → p < 8 → other c.own e.transaction.partitions p ≡ true → names e.heard.ayes p ≡ true
unfolding heard_from
ready_commit_all_yes c e r l k p low o =
    ⊎_elim (λ q. never (is_local c.own e.transaction) q l)
    (λ q. ⊎_elim (λ n. never (is_local c.own e.transaction) n l)
    (λ n. ⊎_elim (λ a. a) (λ b. never (names e.heard.nays p) b (n p low o))
    (or_cases (names e.heard.ayes p) (names e.heard.nays p) (q.1 p low o)))
    ((commits_exactly c e).0 k))
    ((ready_exactly c e).0 r)

-- "every vote was yes": each other involved partition said yes, and none of them said no too.
abbrev pub EachSaidYes : ℕ → ℕ → Heard → Type 0
EachSaidYes own set h = (p : ℕ) → p < 8 → other own set p ≡ true → (names h.ayes p ≡ true) × (names h.nays p ≡ false)

-- "A global head commits if every vote was yes, otherwise it aborts": a ready one commits exactly when every vote was yes.
pub ready_global_commits_exactly : (c : Clock) (e : Entry) → ready c e ≡ true → is_local c.own e.transaction ≡ false
    → commits c e ≡ true ↔ EachSaidYes c.own e.transaction.partitions e.heard
ready_global_commits_exactly c e r l = (
  λ k p low o. (ready_commit_all_yes c e r l k p low o, none_no k p low o),
  λ h. (commits_exactly c e).1 (inr (λ p low o. (h p low o).1)),
)
  where
    none_no : commits c e ≡ true → NoneSaidNo c.own e.transaction.partitions e.heard
    none_no k = ⊎_elim (λ q. never (is_local c.own e.transaction) q l) (λ n. n) ((commits_exactly c e).0 k)

-- A list at rest: its head, if any, isn't ready.
abbrev pub AtRest : Clock → List Entry → Type 0
AtRest c [] = Unit {0}
AtRest c (e ∷ es) = ready c e ≡ false

-- "while the head of the list is ready it is taken off, and the next head is looked at": what is left is at rest.
pub close_rests : (c : Clock) (es : List Entry) (b : Books) → AtRest c (close c es b).waiting
close_rests c [] b = rw (close_nil c b) tt
close_rests c (e ∷ es) b =
    split (ready c e) (λ q. rw (close_ready c e es b q) (close_rests c es (books_after c e b))) (λ q. rw (close_rest c e es b q) q)

-- Those taken off: the heads in their order, each of them ready, and a finish for each.
pub record TakenOff (c : Clock) (es : List Entry) (b : Books) : Type 0 where
  pub taken : List Entry
  pub all_of_it : es ≡ taken ++ (close c es b).waiting
  pub were_ready : list_all (ready c) taken ≡ true
  pub told : map (λ (f : Finish). f.transaction) (close c es b).finishes ≡ map (λ (e : Entry). e.transaction) taken

pub close_takes : (c : Clock) (es : List Entry) (b : Books) → TakenOff c es b
unfolding finish
close_takes c [] b = record { taken = []; all_of_it = rw (close_nil c b); were_ready = refl; told = rw (close_nil c b) }
close_takes c (e ∷ es) b =
    split (ready c e)
    (λ q. let r = close_takes c es (books_after c e b) in
    record {
      taken = e ∷ r.taken;
      all_of_it = rw (close_ready c e es b q) (ap (λ (l : List Entry). e ∷ l) r.all_of_it);
      were_ready = and_both (ready c e) (list_all (ready c) r.taken) q r.were_ready;
      told = rw (close_ready c e es b q) (ap (λ (l : List Transaction). e.transaction ∷ l) r.told);
    })
    (λ q. record { taken = []; all_of_it = rw (close_rest c e es b q); were_ready = refl; told = rw (close_rest c e es b q) })

-- A state at rest; after any log from opening the state is at rest.
abbrev pub Resting : State → Type 0
Resting s = AtRest s.clock s.waiting

accepted_rests : (e : Event) (s : State) → Resting s → Resting (accepted e s).next
unfolding closing
accepted_rests e s h = accepted_closes (λ r. Resting r.next) e s (λ a c es. close_rests c es s.books) (λ a. h)

pub log_rests : (es : List Event) (partitions own k : ℕ) → Resting (last es (opening partitions own k))
unfolding opening
log_rests es partitions own k =
    last_keeps Resting (λ e s. step_keeps Resting e s (λ _. accepted_rests e s)) es (opening partitions own k) tt
