-- What a log's votes on an identity come to, one after the other, and that this is settled by which votes the log has.
use Rattle.std.specs.Prelude.{ℕ, Bool, true, false, cond, ◌&&◌, ◌||◌, List, [], ◌∷◌, ◌++◌, ◌≡◌, refl, eqb}
use Rattle.std.specs.List.{list_any}
use Rattle.std.proofs.Math.Bool.{or-false, or_assoc, or_comm, and-true, and-false}
use Rattle.std.proofs.Common.{sym, ap, ◌∙◌, eqb-true, eq-eqb, ne_eqb}
use Rattle.std.proofs.lemmas.Bool.{eqb-false}
use Rattle.rules.specs.Partitions.{Ballot, aye, nay, Heard, none_heard, hear, names, with_partition}
use Rattle.rules.specs.Events.{Event, delivery, vote, change, read}
use Rattle.laws.specs.Tests.{split, or_left, or_right, any_append}
use Rattle.laws.specs.Bits.{names_with, names_zero, same_bits}
use Rattle.claims.specs.Timing.{same_ballot, is_vote, has_vote}

-- The votes on identity i, stored on top of those heard.
unfoldable pub gather : Heard → ℕ → List Event → Heard
gather h i [] = h
gather h i (delivery t ∷ es) = gather h i es
gather h i (vote j p b ∷ es) = gather (cond (eqb i j) (hear p b h) h) i es
gather h i (change k ∷ es) = gather h i es
gather h i (read key st ∷ es) = gather h i es

-- All votes of a log on an identity.
abbrev pub votes_of : List Event → ℕ → Heard
votes_of es i = gather none_heard i es

-- A vote on identity i, whatever it says.
abbrev pub is_on : ℕ → Event → Bool
is_on i (delivery t) = false
is_on i (vote j p b) = eqb i j
is_on i (change k) = false
is_on i (read key st) = false

-- Who said it.
abbrev pub said : Ballot → Heard → ℕ
said aye h = h.ayes
said nay h = h.nays

-- Two logs one after the other; a log without a vote on i.
pub gather_append : (h : Heard) (i : ℕ) (es fs : List Event) → gather h i (es ++ fs) ≡ gather (gather h i es) i fs
unfolding gather
gather_append h i [] fs = refl
gather_append h i (delivery t ∷ es) fs = gather_append h i es fs
gather_append h i (vote j p b ∷ es) fs = gather_append (cond (eqb i j) (hear p b h) h) i es fs
gather_append h i (change k ∷ es) fs = gather_append h i es fs
gather_append h i (read key st ∷ es) fs = gather_append h i es fs

pub gather_none : (h : Heard) (i : ℕ) (es : List Event) → list_any (is_on i) es ≡ false → gather h i es ≡ h
unfolding gather
gather_none h i [] q = refl
gather_none h i (delivery t ∷ es) q = gather_none h i es q
gather_none h i (vote j p b ∷ es) q =
    rw (or_left (eqb i j) (list_any (is_on i) es) q) (gather_none h i es (or_right (eqb i j) (list_any (is_on i) es) q))
gather_none h i (change k ∷ es) q = gather_none h i es q
gather_none h i (read key st ∷ es) q = gather_none h i es q

-- Who said what: those of before, and those whose vote the log has.
eqb_swap : (a b : ℕ) → eqb a b ≡ eqb b a
eqb_swap a b =
    split (eqb a b)
    (λ q. q ∙ sym (eq-eqb b a (sym (eqb-true a b q))))
    (λ q. q ∙ sym (ne_eqb b a (λ e. eqb-false a b q (sym e))))

hear_one_more : (p q set : ℕ) → names (with_partition q set) p ≡ (names set p || (eqb p q && true))
hear_one_more p q set =
    names_with q set p ∙ or_comm (eqb q p) (names set p) ∙ ap (λ (t : Bool). names set p || t) (eqb_swap q p ∙ sym (and-true (eqb p q)))

hear_no_more : (p q set : ℕ) → names set p ≡ (names set p || (eqb p q && false))
hear_no_more p q set = rw (and-false (eqb p q), or-false (names set p))

hear_names : (h : Heard) (b c : Ballot) (p q : ℕ) → names (said b (hear q c h)) p ≡ (names (said b h) p || (eqb p q && same_ballot b c))
unfolding hear
hear_names h aye aye p q = hear_one_more p q h.ayes
hear_names h aye nay p q = hear_no_more p q h.ayes
hear_names h nay aye p q = hear_no_more p q h.nays
hear_names h nay nay p q = hear_one_more p q h.nays

heard_names : (h : Heard) (i j : ℕ) (b c : Ballot) (p q : ℕ)
    → names (said b (cond (eqb i j) (hear q c h) h)) p ≡ (names (said b h) p || is_vote i p b (vote j q c))
unfolding is_vote
heard_names h i j b c p q =
    split (eqb i j) (λ e. rw e (hear_names h b c p q)) (λ e. rw (e, or-false (names (said b h) p)))

gather_names : (h : Heard) (i : ℕ) (es : List Event) (b : Ballot) (p : ℕ)
    → names (said b (gather h i es)) p ≡ (names (said b h) p || has_vote i p b es)
unfolding gather has_vote is_vote
gather_names h i [] b p = sym (or-false (names (said b h) p))
gather_names h i (delivery t ∷ es) b p = gather_names h i es b p
gather_names h i (vote j q c ∷ es) b p =
    gather_names (cond (eqb i j) (hear q c h) h) i es b p
    ∙ ap (λ (t : Bool). t || has_vote i p b es) (heard_names h i j b c p q)
    ∙ or_assoc (names (said b h) p) (is_vote i p b (vote j q c)) (has_vote i p b es)
gather_names h i (change k ∷ es) b p = gather_names h i es b p
gather_names h i (read key st ∷ es) b p = gather_names h i es b p

-- From nothing heard: those whose vote the log has.
pub names_cast : (i : ℕ) (es : List Event) (b : Ballot) (p : ℕ) → names (said b (votes_of es i)) p ≡ has_vote i p b es
names_cast i es aye p = gather_names none_heard i es aye p ∙ rw (names_zero p)
names_cast i es nay p = gather_names none_heard i es nay p ∙ rw (names_zero p)

pub has_vote_append : (i p : ℕ) (b : Ballot) (es fs : List Event) → has_vote i p b (es ++ fs) ≡ (has_vote i p b es || has_vote i p b fs)
unfolding has_vote
has_vote_append i p b es fs = any_append (is_vote i p b) es fs

-- Two logs that have the same votes on i come to the same.
same_heard : (g h : Heard) → g.ayes ≡ h.ayes → g.nays ≡ h.nays → g ≡ h
same_heard g h p q = λ i. record { ayes = p i; nays = q i }

pub same_votes_of : (i : ℕ) (es fs : List Event) → ((p : ℕ) (b : Ballot) → has_vote i p b es ≡ has_vote i p b fs) → votes_of es i ≡ votes_of fs i
same_votes_of i es fs same =
    let agree : (b : Ballot) → said b (votes_of es i) ≡ said b (votes_of fs i) = λ b.
    same_bits (said b (votes_of es i)) (said b (votes_of fs i)) (λ p. names_cast i es b p ∙ same p b ∙ sym (names_cast i fs b p)) in
    same_heard (votes_of es i) (votes_of fs i) (agree aye) (agree nay)
