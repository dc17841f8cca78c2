-- A test that computes, by which a log's votes come in time: what is asked of each event, given the events before it.
use Rattle.std.specs.Prelude.{ℕ, Bool, true, false, not, ◌&&◌, ◌||◌, List, [], ◌∷◌, ◌++◌, ◌≡◌, refl, eqb, ltb}
use Rattle.std.specs.List.{list_any}
use Rattle.std.proofs.lemmas.Bool.{false≢true, eqb-false, not-true}
use Rattle.std.proofs.Common.{append_assoc, append-nil, eqb-true, eq-eqb, ltb-true}
use Rattle.rules.specs.Partitions.{Ballot, other}
use Rattle.rules.specs.Ledger.{Transaction, State}
use Rattle.rules.specs.Events.{Event, delivery, vote, change, read}
use Rattle.rules.specs.Refusals.{step}
use Rattle.rules.specs.Logs.{last}
use Rattle.laws.specs.Tests.{never, and_left, and_right, any_at}
use Rattle.laws.specs.Each.{found_place}
use Rattle.claims.specs.Timing.{is_waiting, threshold, Cast, Timed}

-- A test of every event of a log, which sees the events before it.
unfoldable pub everywhere : (List Event → Event → Bool) → List Event → List Event → Bool
everywhere f before [] = true
everywhere f before (e ∷ es) = f before e && everywhere f (before ++ e ∷ []) es

everywhere_from : (f : List Event → Event → Bool) (before xs : List Event) (x : Event) (ys : List Event)
    → everywhere f before (xs ++ x ∷ ys) ≡ true → f (before ++ xs) x ≡ true
unfolding everywhere
everywhere_from f before [] x ys h =
    rw (append-nil before) (and_left (f before x) (everywhere f (before ++ x ∷ []) ys) h)
everywhere_from f before (y ∷ xs) x ys h =
    rw (append_assoc before (y ∷ []) xs) at
    (everywhere_from f (before ++ y ∷ []) xs x ys (and_right (f before y) (everywhere f (before ++ y ∷ []) (xs ++ x ∷ ys)) h))

everywhere_at : (f : List Event → Event → Bool) (es xs : List Event) (x : Event) (ys : List Event)
    → everywhere f [] es ≡ true → es ≡ xs ++ x ∷ ys → f xs x ≡ true
everywhere_at f es xs x ys h stands = everywhere_from f [] xs x ys (rw stands at h)

-- A test of deliveries; other events get the answer given first.
abbrev pub of_delivery : Bool → (Transaction → Bool) → Event → Bool
of_delivery otherwise f (delivery t) = f t
of_delivery otherwise f (vote i p b) = otherwise
of_delivery otherwise f (change k) = otherwise
of_delivery otherwise f (read key st) = otherwise

-- The delivery of an identity; one at which a partition may vote; a vote of a partition on an identity.
abbrev pub delivers : ℕ → Event → Bool
delivers i = of_delivery false (λ t. eqb t.identity i)

abbrev pub involves : ℕ → ℕ → ℕ → Event → Bool
involves own i p = of_delivery false (λ t. eqb t.identity i && other own t.partitions p)

abbrev pub votes_on : ℕ → ℕ → Event → Bool
votes_on i p (delivery t) = false
votes_on i p (vote j q b) = eqb j i && eqb q p
votes_on i p (change k) = false
votes_on i p (read key st) = false

-- If the delivery of i waits, its threshold is above dc; and so it is above the DC that any later delivery found, up to a vote on i.
abbrev pub above_dc : State → ℕ → ℕ → List Event → Event → Bool
above_dc s i dc before =
    of_delivery true
    (λ t. not (eqb t.identity i) || not (is_waiting (step (delivery t) (last before s)).answer) || ltb dc (threshold (last before s)))

abbrev pub not_reached : State → ℕ → List Event → Event → Bool
not_reached s i before = of_delivery true (λ u. everywhere (above_dc s i (last before s).clock.dc) [] before)

-- What is asked of each event.
abbrev pub is_in_time : State → List Event → Event → Bool
is_in_time s before (delivery t) = not (list_any (delivers t.identity) before)
is_in_time s before (vote i p b) =
    list_any (involves s.clock.own i p) before && (not (list_any (votes_on i p) before) && everywhere (not_reached s i) [] before)
is_in_time s before (change k) = true
is_in_time s before (read key st) = true

abbrev pub all_in_time : State → List Event → Bool
all_in_time s es = everywhere (is_in_time s) [] es

-- The delivery at which a partition may vote.
cast_at : (own i p : ℕ) (front : List Event) (x : Event) (back before : List Event) → before ≡ front ++ x ∷ back
    → involves own i p x ≡ true → Cast own before i p
cast_at own i p front (delivery t) back before stands h =
    record {
      earlier = front;
      between = back;
      transaction = t;
      stands = stands;
      identity = eqb-true t.identity i (and_left (eqb t.identity i) (other own t.partitions p) h);
      involved = and_right (eqb t.identity i) (other own t.partitions p) h;
    }
cast_at own i p front (vote j q b) back before stands h = absurd (false≢true h)
cast_at own i p front (change k) back before stands h = absurd (false≢true h)
cast_at own i p front (read key st) back before stands h = absurd (false≢true h)

module _ (s : State) (es : List Event) (test : all_in_time s es ≡ true) where
  -- The three things asked of a vote.
  module _ (xs ys : List Event) (i p : ℕ) (b : Ballot) (stands : es ≡ xs ++ vote i p b ∷ ys) where
    asked : is_in_time s xs (vote i p b) ≡ true
    asked = everywhere_at (is_in_time s) es xs (vote i p b) ys test stands

    asked_cast : list_any (involves s.clock.own i p) xs ≡ true
    asked_cast = and_left (list_any (involves s.clock.own i p) xs) (not (list_any (votes_on i p) xs) && everywhere (not_reached s i) [] xs) asked

    asked_others : (not (list_any (votes_on i p) xs) && everywhere (not_reached s i) [] xs) ≡ true
    asked_others = and_right (list_any (involves s.clock.own i p) xs) (not (list_any (votes_on i p) xs) && everywhere (not_reached s i) [] xs) asked

    asked_once : list_any (votes_on i p) xs ≡ false
    asked_once = not-true (list_any (votes_on i p) xs) (and_left (not (list_any (votes_on i p) xs)) (everywhere (not_reached s i) [] xs) asked_others)

    asked_early : everywhere (not_reached s i) [] xs ≡ true
    asked_early = and_right (not (list_any (votes_on i p) xs)) (everywhere (not_reached s i) [] xs) asked_others

  pub in_time_timed : Timed s es
  in_time_timed =
      record {
        different = λ xs ys zs t u stands same.
            eqb-false t.identity u.identity
            (any_at (delivers u.identity) xs (delivery t) ys
            (not-true (list_any (delivers u.identity) (xs ++ delivery t ∷ ys)) (everywhere_at (is_in_time s) es (xs ++ delivery t ∷ ys) (delivery u) zs test stands)))
            same;
        cast = λ xs ys i p b stands.
            let found = found_place (involves s.clock.own i p) xs (asked_cast xs ys i p b stands) in
            cast_at s.clock.own i p found.front found.element found.back xs found.stands found.holds;
        once = λ xs ys zs i p b c stands.
            never (eqb i i && eqb p p) (rw (eq-eqb i i refl, eq-eqb p p refl))
            (any_at (votes_on i p) xs (vote i p b) ys (asked_once (xs ++ vote i p b ∷ ys) zs i p c stands));
        in_time = λ ws xs ys zs t u p b stands waited.
            let early = asked_early (ws ++ delivery t ∷ xs ++ delivery u ∷ ys) zs t.identity p b stands in
            let reached = everywhere_at (not_reached s t.identity) (ws ++ delivery t ∷ xs ++ delivery u ∷ ys) (ws ++ delivery t ∷ xs) (delivery u) ys early refl in
            let above = everywhere_at (above_dc s t.identity (last (ws ++ delivery t ∷ xs) s).clock.dc) (ws ++ delivery t ∷ xs) ws (delivery t) xs reached refl in
            ltb-true (last (ws ++ delivery t ∷ xs) s).clock.dc (threshold (last ws s))
            (rw (eq-eqb t.identity t.identity refl, waited) at above);
      }
