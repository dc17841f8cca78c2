-- What a log whose votes come in time gives at each place of it, for an entry that waits there.
use Rattle.std.specs.Prelude.{ℕ, ◌<◌, Bool, false, not, ◌&&◌, ◌||◌, List, ◌∷◌, ◌++◌, ◌≡◌, refl, eqb}
use Rattle.std.specs.List.{list_any}
use Rattle.std.proofs.Common.{arith, ap, ◌∙◌}
use Rattle.std.proofs.Math.Bool.{true, or-false}
use Rattle.std.proofs.lemmas.Bool.{false≢true}
use Rattle.std.proofs.Math.Logic.{inl, inr}
use Rattle.std.proofs.Math.Path.{sym}
use borrow.Author.Tests.{eqb-true, eq-eqb, leb-true}
use Rattle.rules.specs.Partitions.{Ballot, aye, nay, none_heard, other, heard_from}
use Rattle.rules.specs.Ledger.{Transaction, Entry, State}
use Rattle.rules.specs.Events.{Event, delivery, vote, change, read}
use Rattle.rules.specs.Refusals.{is_for, step}
use Rattle.rules.specs.Logs.{last}
use Rattle.laws.specs.Tests.{split, never, and_left, and_right, or_cases, or_first}
use Rattle.laws.specs.Each.{Found, found_place, two_places, place_in_first, place_in_second, places_in_both}
use Rattle.claims.specs.Gather.{gather, votes_of, gather_append, gather_none, is_on, names_cast, has_vote_append}
use Rattle.claims.specs.Filled.{Within, Timely}
use Rattle.claims.specs.Timing.{same_ballot, is_vote, has_vote, is_waiting, threshold, Timed}

-- Where a waiting entry comes from: a delivery before, which gave it its threshold, and the votes on it since.
pub record Entered (s : State) (before : List Event) (e : Entry) : Type 0 where
  pub earlier : List Event
  pub between : List Event
  pub stands : before ≡ earlier ++ delivery e.transaction ∷ between
  pub waited : is_waiting (step (delivery e.transaction) (last earlier s)).answer ≡ true
  pub rises : e.rt ≡ threshold (last earlier s)
  pub has : e.heard ≡ votes_of before e.transaction.identity

-- The vote that a test found.
same_ballot_true : (b c : Ballot) → same_ballot b c ≡ true → b ≡ c
same_ballot_true aye aye h = refl
same_ballot_true aye nay h = absurd (false≢true h)
same_ballot_true nay aye h = absurd (false≢true h)
same_ballot_true nay nay h = refl

is_vote_true : (i p : ℕ) (b : Ballot) (e : Event) → is_vote i p b e ≡ true → e ≡ vote i p b
unfolding is_vote
is_vote_true i p b (delivery t) h = absurd (false≢true h)
is_vote_true i p b (vote j q c) h =
    let both : (eqb i j && eqb p q) ≡ true = and_left (eqb i j && eqb p q) (same_ballot b c) h in
    let one : i ≡ j = eqb-true i j (and_left (eqb i j) (eqb p q) both) in
    let two : p ≡ q = eqb-true p q (and_right (eqb i j) (eqb p q) both) in
    let three : b ≡ c = same_ballot_true b c (and_right (eqb i j && eqb p q) (same_ballot b c) h) in
    cc
is_vote_true i p b (change k) h = absurd (false≢true h)
is_vote_true i p b (read key st) h = absurd (false≢true h)

is_vote_itself : (i p : ℕ) (b : Ballot) → is_vote i p b (vote i p b) ≡ true
unfolding is_vote
is_vote_itself i p aye = rw (eq-eqb i i refl, eq-eqb p p refl)
is_vote_itself i p nay = rw (eq-eqb i i refl, eq-eqb p p refl)

is_on_true : (i : ℕ) (e : Event) → is_on i e ≡ true → (p : ℕ) × (b : Ballot) × (e ≡ vote i p b)
is_on_true i (delivery t) h = absurd (false≢true h)
is_on_true i (vote j p b) h = (p, b, ap (λ (n : ℕ). vote n p b) (sym (eqb-true i j h)))
is_on_true i (change k) h = absurd (false≢true h)
is_on_true i (read key st) h = absurd (false≢true h)

-- The place of a vote that a log has.
record Voted (i p : ℕ) (b : Ballot) (es : List Event) : Type 0 where
  pub front : List Event
  pub back : List Event
  pub stands : es ≡ front ++ vote i p b ∷ back

found_voted : (f : Event → Bool) (i p : ℕ) (b : Ballot) (es : List Event) (found : Found f es) → found.element ≡ vote i p b → Voted i p b es
found_voted f i p b es found is =
    record { front = found.front; back = found.back; stands = found.stands ∙ ap (λ (e : Event). found.front ++ e ∷ found.back) is }

has_vote_found : (i p : ℕ) (b : Ballot) (es : List Event) → has_vote i p b es ≡ true → Voted i p b es
unfolding has_vote
has_vote_found i p b es h =
    let found = found_place (is_vote i p b) es h in
    found_voted (is_vote i p b) i p b es found (is_vote_true i p b found.element found.holds)

is_on_found : (i : ℕ) (es : List Event) → list_any (is_on i) es ≡ true → (p : ℕ) × (b : Ballot) × Voted i p b es
is_on_found i es h =
    let found = found_place (is_on i) es h in
    let is = is_on_true i found.element found.holds in
    (is.0, is.1, found_voted (is_on i) i is.0 is.1 es found is.2)

module _ (s : State) (es : List Event) (timed : Timed s es) where
  -- A partition that has voted on an identity votes on it no more.
  once_said : (i p : ℕ) (b c : Ballot) (before rest : List Event) → es ≡ before ++ rest
      → has_vote i p b before ≡ true → has_vote i p c rest ≡ false
  once_said i p b c before rest cut h =
      split (has_vote i p c rest)
      (λ q. let one = has_vote_found i p b before h in
      let two = has_vote_found i p c rest q in
      absurd (timed.once one.front (one.back ++ two.front) two.back i p b c
      (places_in_both one.front (vote i p b) one.back two.front (vote i p c) two.back cut one.stands two.stands)))
      (λ q. q)

  -- What was said before is what the whole log says.
  said_before : (i p : ℕ) (b c : Ballot) (before rest : List Event) → es ≡ before ++ rest
      → has_vote i p c before ≡ true → has_vote i p b before ≡ has_vote i p b es
  said_before i p b c before rest cut h =
      rw (cut, has_vote_append i p b before rest, once_said i p c b before rest cut h, or-false (has_vote i p b before))

  pub votes_within : (i : ℕ) (before rest : List Event) → es ≡ before ++ rest → Within (votes_of before i) (votes_of es i)
  unfolding heard_from
  votes_within i before rest cut p h b =
      let spoke : (has_vote i p aye before || has_vote i p nay before) ≡ true = rw (names_cast i before aye p, names_cast i before nay p) at h in
      let same : has_vote i p b before ≡ has_vote i p b es =
      elim (or_cases (has_vote i p aye before) (has_vote i p nay before) spoke) [
        | inl q ↦ said_before i p b aye before rest cut q
        | inr q ↦ said_before i p b nay before rest cut q
      ] in
      names_cast i before b p ∙ same ∙ sym (names_cast i es b p)

  -- A delivery is the first event of its identity.
  none_before : (t : Transaction) (before rest : List Event) → es ≡ before ++ delivery t ∷ rest
      → (p : ℕ) (b : Ballot) → Voted t.identity p b before → ⊥
  none_before t before rest cut p b at =
      let here = place_in_first at.front (vote t.identity p b) at.back (delivery t ∷ rest) cut at.stands in
      let cast = timed.cast at.front (at.back ++ delivery t ∷ rest) t.identity p b here in
      timed.different cast.earlier (cast.between ++ vote t.identity p b ∷ at.back) rest cast.transaction t
      (places_in_both cast.earlier (delivery cast.transaction) cast.between (vote t.identity p b ∷ at.back) (delivery t) rest here cast.stands refl)
      cast.identity

  pub fresh : (t : Transaction) (before rest : List Event) → es ≡ before ++ delivery t ∷ rest → votes_of before t.identity ≡ none_heard
  fresh t before rest cut =
      split (list_any (is_on t.identity) before)
      (λ q. let on = is_on_found t.identity before q in absurd (none_before t before rest cut on.0 on.1 on.2))
      (λ q. gather_none none_heard t.identity before q)

  -- Two deliveries of one identity are one.
  same_delivery : (t u : Transaction) (ws xs ys zs before rest : List Event) → es ≡ before ++ rest
      → before ≡ ws ++ delivery t ∷ xs → before ≡ ys ++ delivery u ∷ zs → t.identity ≡ u.identity → t ≡ u
  same_delivery t u ws xs ys zs before rest cut p q same =
      elim (two_places ws ys (delivery t) (delivery u) xs zs (sym p ∙ q)) [
        | inl e ↦ cc
        | inr (inl e) ↦ absurd (timed.different ws e.0 (zs ++ rest) t u (rw e.1 at (place_in_first ys (delivery u) zs rest cut q)) same)
        | inr (inr e) ↦ absurd (timed.different ys e.0 (xs ++ rest) u t (rw e.1 at (place_in_first ws (delivery t) xs rest cut p)) (sym same))
      ]

  module _ (before : List Event) (e : Entry) (entered : Entered s before e) where
    -- At a delivery, one whose threshold is reached has all its votes.
    below : (u : Transaction) (rest : List Event) → es ≡ before ++ delivery u ∷ rest → (p : ℕ) (b : Ballot)
        → Voted e.transaction.identity p b rest → (last before s).clock.dc < e.rt
    below u rest cut p b at =
        let here : es ≡ before ++ delivery u ∷ at.front ++ vote e.transaction.identity p b ∷ at.back =
        place_in_second before (delivery u ∷ at.front) (vote e.transaction.identity p b) at.back cut (ap (λ (fs : List Event). delivery u ∷ fs) at.stands) in
        let low : (last before s).clock.dc < threshold (last entered.earlier s) =
        rw entered.stands (timed.in_time entered.earlier entered.between at.front at.back e.transaction u p b (rw entered.stands at here) entered.waited) in
        rw entered.rises low

    pub timely : (u : Transaction) (rest : List Event) → es ≡ before ++ delivery u ∷ rest → Timely (votes_of es) (last before s).clock e
    unfolding gather
    timely u rest cut reached =
        split (list_any (is_on e.transaction.identity) rest)
        (λ q. let on = is_on_found e.transaction.identity rest q in
        let low = below u rest cut on.0 on.1 on.2 in
        let high = leb-true e.rt (last before s).clock.dc reached in
        absurd (omega arith))
        (λ q. rw (cut, gather_append none_heard e.transaction.identity before (delivery u ∷ rest), ← entered.has)
        (gather_none e.heard e.transaction.identity rest q))

    -- A vote on it is of another involved partition, from which none was heard.
    module _ (i p : ℕ) (b : Ballot) (rest : List Event) (cut : es ≡ before ++ vote i p b ∷ rest) where
      pub involved : (is_for i e && not (other s.clock.own e.transaction.partitions p)) ≡ false
      involved =
          split (is_for i e)
          (λ q. let cast = timed.cast before rest i p b cut in
          let same : cast.transaction ≡ e.transaction =
          same_delivery cast.transaction e.transaction cast.earlier cast.between entered.earlier entered.between
          before (vote i p b ∷ rest) cut cast.stands entered.stands (cast.identity ∙ sym (eqb-true e.transaction.identity i q)) in
          rw (q, ← same, cast.involved))
          (λ q. rw q)

      unsaid : (c : Ballot) → has_vote i p c before ≡ false
      unfolding has_vote
      unsaid c =
          split (has_vote i p c before)
          (λ q. never (has_vote i p b (vote i p b ∷ rest)) (or_first (is_vote i p b (vote i p b)) (has_vote i p b rest) (is_vote_itself i p b))
          (once_said i p c b before (vote i p b ∷ rest) cut q))
          (λ q. q)

      pub unheard : (is_for i e && heard_from e.heard p) ≡ false
      unfolding heard_from
      unheard =
          split (is_for i e)
          (λ q. rw (q, entered.has, eqb-true e.transaction.identity i q, names_cast i before aye p, names_cast i before nay p, unsaid aye, unsaid nay))
          (λ q. rw q)
