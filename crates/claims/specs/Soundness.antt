-- 01: "Opening gives a sound state and every event keeps one." An accepted newcomer is good, a vote that is taken comes from another involved
-- partition, and a change keeps k in its range; joining and closing are in SoundKept.
use Rattle.std.specs.Prelude.{ℕ, ◌+◌, ◌^◌, ◌<◌, Bool, true, false, not, ◌&&◌, ◌||◌, List, [], ◌∷◌, map, ◌≡◌, refl, eqb, pos, length}
use Rattle.std.specs.List.{list_any, list_all}
use Rattle.std.proofs.Math.Option.{none}
use Rattle.std.proofs.Common.{ap, ◌∙◌, arith, leb-false, ltb-false, eqb-true}
use Rattle.std.proofs.lemmas.List.{length-map, length-replicate}
use Rattle.std.proofs.lemmas.Bool.{lt-leb, eqb-false, not-true, not-false}
use Rattle.rules.specs.Sizes.{keys, most_partitions, most_waiting, most_k, most_dc}
use Rattle.rules.specs.Partitions.{names, with_partition, beyond, bad_set, every_partition, other, Ballot, aye, nay, Heard, none_heard, hear, from_others}
use Rattle.rules.specs.Keys.{bad_keys, too_many, good_set}
use Rattle.rules.specs.Ledger.{Transaction, Entry, Clock, State, keys_of, opening, sizes_fit}
use Rattle.rules.specs.Delivery.{Fate, ticked, entered, fate, joined}
use Rattle.rules.specs.Events.{Event, delivery, vote, change, read, closing, deliver_at, deliver_with, with_vote, take_vote, with_k, take_change, take_read, accepted}
use Rattle.rules.specs.Soundness.{identities, different, good_entry, sound}
use Rattle.rules.specs.Refusals.{is_for, waits_for, delivery_checks, vote_checks, change_checks, checks, refusal, step}
use Rattle.rules.specs.Logs.{last}
use Rattle.laws.specs.Tests.{split, and_left, and_right, and_both, or_left, or_right, or_second, all_weaken}
use Rattle.claims.specs.Steps.{step_keeps, last_keeps}
use Rattle.laws.specs.Bits.{names_with, names_within, with_below}
use Rattle.claims.specs.Refused.{NoneApplies, none_applies}
use Rattle.claims.specs.SoundParts.{Sizes, sizes_facts, Sound, sound_facts, sound_test, GoodEntry, entry_facts, entry_test, entry_again}
use Rattle.claims.specs.SoundKept.{Room, tick_sound, join_sound, close_sound}

abbrev pub Holds : State → Type 0
Holds s = Sound s.clock s.waiting s.books

-- A list of keys that neither 2 nor 3 refuses is within its limits.
taken_set : (xs : List ℕ) → too_many xs ≡ false → bad_keys xs ≡ false → good_set xs ≡ true
unfolding good_set
taken_set xs few good = and_both (not (too_many xs)) (not (bad_keys xs)) (ap not few) (ap not good)

-- An empty set of votes holds none but those of other involved partitions.
none_from_others : (own set : ℕ) → from_others own set 0 ≡ true
unfolding from_others names
none_from_others own set = refl

-- What the checks leave of a delivery that is taken.
record Taken (c : Clock) (t : Transaction) (s : State) : Type 0 where
  dc_open : s.clock.dc < most_dc
  room : Room c s.waiting s.books
  new : list_any (is_for (entered c t none_heard).transaction.identity) s.waiting ≡ false
  good : good_entry c.partitions c.own c.dc (entered c t none_heard) ≡ true

taken : (t : Transaction) (s : State) → refusal (delivery t) s ≡ none → Holds s → Taken (ticked s.clock) t s
unfolding refusal checks delivery_checks entered ticked
taken t s q h =
    let not_met : NoneApplies (delivery_checks t s) = none_applies (delivery_checks t s) q in
    let few = not_met.1.0 in
    let good = not_met.1.1.0 in
    let identity = not_met.1.1.1.0 in
    let list_open = leb-false most_waiting (length s.waiting) not_met.1.1.1.1.1.1.0 in
    let not_last = eqb-false s.clock.dc most_dc not_met.1.1.1.1.1.1.1.0 in
    record {
      dc_open = omega (arith, h.dc_fits);
      room = record { not_full = list_open; one_more = omega (arith, h.sum_fits) };
      new = or_right (eqb t.identity 0) (waits_for t.identity s) identity;
      good =
          entry_test s.clock.partitions s.clock.own (s.clock.dc + 1) (entered (ticked s.clock) t none_heard)
          record {
            reads_good =
                taken_set t.reads (or_left (too_many t.reads) (too_many (keys_of t.writes)) few)
                (or_left (bad_keys t.reads) (bad_keys (keys_of t.writes)) good);
            writes_good =
                taken_set (keys_of t.writes) (or_right (too_many t.reads) (too_many (keys_of t.writes)) few)
                (or_right (bad_keys t.reads) (bad_keys (keys_of t.writes)) good);
            nonzero = or_left (eqb t.identity 0) (waits_for t.identity s) identity;
            set_good = not_met.0;
            ayes_involved = none_from_others s.clock.own t.partitions;
            nays_involved = none_from_others s.clock.own t.partitions;
            rt_near = omega (arith, h.sizes.k_fits);
          };
    }

-- Before the closing that follows a delivery, a vote or a change, the state is sound too.
pub joined_sound : (t : Transaction) (s : State) (f : Fate) → refusal (delivery t) s ≡ none → Holds s
    → Sound (ticked s.clock) (joined f (entered (ticked s.clock) t none_heard) s.waiting) s.books
joined_sound t s f q h =
    let c : Clock = ticked s.clock in
    let ok : Taken c t s = taken t s q h in
    join_sound c f (entered c t none_heard) s.waiting s.books ok.room ok.new ok.good
    (tick_sound s.clock s.waiting s.books ok.dc_open h)

delivery_sound : (t : Transaction) (s : State) → refusal (delivery t) s ≡ none → Holds s → Holds (deliver_with none_heard t s).next
unfolding deliver_with deliver_at closing
delivery_sound t s q h =
    close_sound (ticked s.clock) _ s.books (joined_sound t s (fate (ticked s.clock) t s.waiting s.books) q h)

-- A vote of another involved partition joins votes of such.
involved_with : (own set p q voters : ℕ) → other own set p ≡ true → (not (names voters q) || other own set q) ≡ true
    → (not (names (with_partition p voters) q) || other own set q) ≡ true
involved_with own set p q voters involved h =
    split (eqb p q)
    (λ same. or_second (not (names (with_partition p voters) q)) (other own set q) (rw (eqb-true p q same) at involved))
    (λ unlike. rw (names_with p voters q, unlike) h)

others_with : (own set p voters : ℕ) → p < most_partitions → other own set p ≡ true → from_others own set voters ≡ true
    → from_others own set (with_partition p voters) ≡ true
unfolding from_others
others_with own set p voters l involved h =
    let few : voters < 2 ^ most_partitions = leb-false (2 ^ most_partitions) voters (not-true (beyond most_partitions voters) (and_left _ _ h)) in
    and_both (not (beyond most_partitions (with_partition p voters)))
    (list_all (λ q. not (names (with_partition p voters) q) || other own set q) every_partition)
    (ap not (lt-leb (2 ^ most_partitions) (with_partition p voters) (with_below most_partitions p voters l few)))
    (all_weaken (λ q. not (names voters q) || other own set q) (λ q. not (names (with_partition p voters) q) || other own set q)
    (λ q. involved_with own set p q voters involved) every_partition
    (and_right (not (beyond most_partitions voters)) (list_all (λ q. not (names voters q) || other own set q) every_partition) h))

-- The entry of the vote's identity with the vote, and any other entry as it was.
abbrev pub hearing : ℕ → Ballot → Entry → Entry
hearing p b e = record { transaction = e.transaction; rt = e.rt; heard = hear p b e.heard }

pub with_vote_heard : (i p : ℕ) (b : Ballot) (e : Entry) → is_for i e ≡ true → with_vote i p b e ≡ hearing p b e
unfolding with_vote
with_vote_heard i p b e q = rw q

pub with_vote_other : (i p : ℕ) (b : Ballot) (e : Entry) → is_for i e ≡ false → with_vote i p b e ≡ e
unfolding with_vote
with_vote_other i p b e q = rw q

-- An involved partition of a good set is one of the eight.
opened : (partitions own k set p : ℕ) → Sizes partitions own k → bad_set partitions own set ≡ false → other own set p ≡ true → p < most_partitions
unfolding bad_set other
opened partitions own k set p sizes good involved =
    let within : set < 2 ^ partitions =
    leb-false (2 ^ partitions) set (or_right (not (names set own)) (beyond partitions set) good) in
    let named : names set p ≡ true = and_left (names set p) (not (eqb p own)) involved in
    let below : p < partitions = names_within partitions set p within named in
    omega arith

-- Storing the vote of such a partition keeps "stored votes come from other involved partitions".
hear_involved : (own set p : ℕ) (b : Ballot) (votes : Heard) → p < most_partitions → other own set p ≡ true
    → from_others own set votes.ayes ≡ true → from_others own set votes.nays ≡ true
    → (from_others own set (hear p b votes).ayes ≡ true) × (from_others own set (hear p b votes).nays ≡ true)
unfolding hear
hear_involved own set p aye votes l involved ayes nays = (others_with own set p votes.ayes l involved ayes, nays)
hear_involved own set p nay votes l involved ayes nays = (ayes, others_with own set p votes.nays l involved nays)

hearing_good : (partitions own k dc p : ℕ) (b : Ballot) (e : Entry) → Sizes partitions own k → other own e.transaction.partitions p ≡ true
    → good_entry partitions own dc e ≡ true → good_entry partitions own dc (hearing p b e) ≡ true
hearing_good partitions own k dc p b e sizes involved h =
    let set : ℕ = e.transaction.partitions in
    let g : GoodEntry partitions own dc e = entry_facts partitions own dc e h in
    let one_of_eight : p < most_partitions = opened partitions own k set p sizes g.set_good involved in
    let both = hear_involved own set p b e.heard one_of_eight involved g.ayes_involved g.nays_involved in
    entry_again partitions own dc dc e.rt (hear p b e.heard) e h both.0 both.1 g.rt_near

-- "from our own partition, or one not involved", of one entry
abbrev uninvolved : ℕ → ℕ → ℕ → Entry → Bool
uninvolved i p own e = is_for i e && not (other own e.transaction.partitions p)

vote_good : (partitions own k dc i p : ℕ) (b : Ballot) (e : Entry) → Sizes partitions own k → good_entry partitions own dc e ≡ true
    → uninvolved i p own e ≡ false → good_entry partitions own dc (with_vote i p b e) ≡ true
vote_good partitions own k dc i p b e sizes h involved =
    split (is_for i e)
    (λ q.
    rw (with_vote_heard i p b e q)
    (hearing_good partitions own k dc p b e sizes (not-false (other own e.transaction.partitions p) (rw q at involved)) h))
    (λ q. rw (with_vote_other i p b e q) h)

-- A test of each element is kept by a map that keeps it where another test fails.
pub all_map : {A : Type 0} (f bad : A → Bool) (g : A → A) → ((x : A) → f x ≡ true → bad x ≡ false → f (g x) ≡ true)
    → (xs : List A) → list_all f xs ≡ true → list_any bad xs ≡ false → list_all f (map g xs) ≡ true
all_map f bad g keeps [] h n = refl
all_map f bad g keeps (x ∷ xs) h n =
    and_both (f (g x)) (list_all f (map g xs)) (keeps x (and_left (f x) (list_all f xs) h) (or_left (bad x) (list_any bad xs) n))
    (all_map f bad g keeps xs (and_right (f x) (list_all f xs) h) (or_right (bad x) (list_any bad xs) n))

-- A vote changes no identity.
pub identities_vote : (i p : ℕ) (b : Ballot) (es : List Entry) → identities (map (with_vote i p b) es) ≡ identities es
unfolding with_vote
identities_vote i p b [] = refl
identities_vote i p b (e ∷ es) = ap (λ l. e.transaction.identity ∷ l) (identities_vote i p b es)

pub voted_sound : (i p : ℕ) (b : Ballot) (s : State) → refusal (vote i p b) s ≡ none → Holds s
    → Sound s.clock (map (with_vote i p b) s.waiting) s.books
unfolding refusal checks vote_checks
voted_sound i p b s q h =
    let not_met : NoneApplies (vote_checks i p s) = none_applies (vote_checks i p s) q in
    record {
      sizes = h.sizes;
      dc_fits = h.dc_fits;
      list_fits = omega (arith, h.list_fits, length-map s.waiting (with_vote i p b));
      values_fit = h.values_fit;
      kept_number = h.kept_number;
      sum_fits = omega (arith, h.sum_fits, length-map s.waiting (with_vote i p b));
      kept_good = h.kept_good;
      apart = ap different (identities_vote i p b s.waiting) ∙ h.apart;
      entries_good =
          all_map (good_entry s.clock.partitions s.clock.own s.clock.dc) (uninvolved i p s.clock.own) (with_vote i p b)
          (λ e. vote_good s.clock.partitions s.clock.own s.clock.k s.clock.dc i p b e h.sizes)
          s.waiting h.entries_good not_met.1.0;
    }

vote_sound : (i p : ℕ) (b : Ballot) (s : State) → refusal (vote i p b) s ≡ none → Holds s → Holds (take_vote i p b s).next
unfolding take_vote closing
vote_sound i p b s q h = close_sound s.clock (map (with_vote i p b) s.waiting) s.books (voted_sound i p b s q h)

pub changed_sound : (k : ℕ) (s : State) → refusal (change k) s ≡ none → Holds s → Sound (with_k k s.clock) s.waiting s.books
unfolding with_k refusal checks change_checks
changed_sound k s q h =
    let not_met : NoneApplies (change_checks k) = none_applies (change_checks k) q in
    record {
      sizes =
          record {
            some_partition = h.sizes.some_partition;
            few_partitions = h.sizes.few_partitions;
            own_opened = h.sizes.own_opened;
            k_fits = ltb-false most_k k not_met.0;
          };
      dc_fits = h.dc_fits;
      list_fits = h.list_fits;
      values_fit = h.values_fit;
      kept_number = h.kept_number;
      sum_fits = h.sum_fits;
      kept_good = h.kept_good;
      apart = h.apart;
      entries_good = h.entries_good;
    }

change_sound : (k : ℕ) (s : State) → refusal (change k) s ≡ none → Holds s → Holds (take_change k s).next
unfolding take_change closing
change_sound k s q h = close_sound (with_k k s.clock) s.waiting s.books (changed_sound k s q h)

accepted_sound : (e : Event) (s : State) → refusal e s ≡ none → Holds s → Holds (accepted e s).next
unfolding accepted take_read
accepted_sound (delivery t) s q h = delivery_sound t s q h
accepted_sound (vote i p b) s q h = vote_sound i p b s q h
accepted_sound (change k) s q h = change_sound k s q h
accepted_sound (read key st) s q h = h

-- "every event keeps one"
pub step_sound : (e : Event) (s : State) → sound s ≡ true → sound (step e s).next ≡ true
step_sound e s h = sound_test (step e s).next (step_keeps Holds e s (accepted_sound e s) (sound_facts s h))

-- "Opening gives a sound state"
pub opening_sound : (partitions own k : ℕ) → sizes_fit partitions own k ≡ true → sound (opening partitions own k) ≡ true
unfolding opening different
opening_sound partitions own k h =
    sound_test (opening partitions own k)
    record {
      sizes = sizes_facts partitions own k h;
      dc_fits = omega arith;
      list_fits = omega arith;
      values_fit = length-replicate keys (pos 0);
      kept_number = refl;
      sum_fits = omega arith;
      kept_good = refl;
      apart = refl;
      entries_good = refl;
    }

-- So every log keeps one, and after opening every state is sound.
pub last_sound : (es : List Event) (s : State) → sound s ≡ true → sound (last es s) ≡ true
last_sound = last_keeps (λ s. sound s ≡ true) step_sound

pub log_sound : (es : List Event) (partitions own k : ℕ) → sizes_fit partitions own k ≡ true → sound (last es (opening partitions own k)) ≡ true
log_sound es partitions own k h = last_sound es (opening partitions own k) (opening_sound partitions own k h)
