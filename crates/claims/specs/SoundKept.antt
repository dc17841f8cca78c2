-- What soundness asks of lists is kept when an element is put in at a place and when the head is taken off; so joining and closing keep a state sound.
use Rattle.std.specs.Prelude.{ℕ, zero, suc, ◌+◌, ◌<◌, false, not, List, [], ◌∷◌, ◌≡◌, refl, eqb, ℤ, length, drop, insert}
use Rattle.std.specs.List.{list_any, list_all}
use Rattle.std.proofs.Math.Bool.{true}
use Rattle.std.proofs.Common.{sym, ap, ◌∙◌, arith, length-set, ne_eqb}
use Rattle.std.proofs.Math.ListN.{length-take}
use Rattle.std.proofs.lemmas.Bool.{eqb-false, not-true}
use Rattle.rules.specs.Lists.{member}
use Rattle.rules.specs.Sizes.{most_waiting, most_kept, most_dc}
use Rattle.rules.specs.Ledger.{Write, Entry, Commit, Clock, Books, keys_of}
use Rattle.rules.specs.Delivery.{Fate, abort, join, ticked, joined}
use Rattle.rules.specs.Closing.{commits, written, folded, kept_of, committed, books_after, close}
use Rattle.rules.specs.Keys.{good_set}
use Rattle.rules.specs.Soundness.{good_commit, different, identities, good_entry}
use Rattle.rules.specs.Refusals.{is_for}
use Rattle.laws.specs.Inserts.{length_insert, none_insert, map_insert}
use Rattle.laws.specs.Tests.{split, and_left, and_right, and_both, or_left, or_right, or_neither, all_take, all_weaken, all_insert}
use Rattle.claims.specs.Steps.{close_keeps}
use Rattle.claims.specs.SoundParts.{Sound, GoodEntry, entry_facts, entry_again}

unlike : (a b : ℕ) → eqb a b ≡ false → eqb b a ≡ false
unlike a b h = ne_eqb b a (λ q. eqb-false a b h (sym q))

-- A number that is new to a list of different ones may be put in anywhere.
pub different_insert : (i x : ℕ) (xs : List ℕ) → member x xs ≡ false → different xs ≡ true → different (insert xs i x) ≡ true
unfolding different
different_insert zero x xs new h = and_both (not (member x xs)) (different xs) (ap not new) h
different_insert (suc i) x [] new h = refl
different_insert (suc i) x (y ∷ ys) new h =
    and_both (not (member y (insert ys i x))) (different (insert ys i x))
    (ap not
    (none_insert (eqb y) i x ys (unlike x y (or_left (eqb x y) (member x ys) new))
    (not-true (member y ys) (and_left (not (member y ys)) (different ys) h))))
    (different_insert i x ys (or_right (eqb x y) (member x ys) new) (and_right (not (member y ys)) (different ys) h))

-- An identity that no entry waits under is not among the identities.
pub new_identity : (i : ℕ) (es : List Entry) → list_any (is_for i) es ≡ false → member i (identities es) ≡ false
new_identity i [] h = refl
new_identity i (e ∷ es) h =
    or_neither (eqb i e.transaction.identity) (member i (identities es))
    (unlike e.transaction.identity i (or_left (is_for i e) (list_any (is_for i) es) h))
    (new_identity i es (or_right (is_for i e) (list_any (is_for i) es) h))

-- DC only rises, so an rt that was near enough stays so.
entry_later : (partitions own dc : ℕ) (e : Entry) → good_entry partitions own dc e ≡ true → good_entry partitions own (dc + 1) e ≡ true
entry_later partitions own dc e h =
    let g : GoodEntry partitions own dc e = entry_facts partitions own dc e h in
    entry_again partitions own dc (dc + 1) e.rt e.heard e h g.ayes_involved g.nays_involved (omega arith)

-- A newcomer finds room: the list isn't full, and with it SC plus waiting is still at most DC.
pub record Room (c : Clock) (waiting : List Entry) (b : Books) : Type 0 where
  pub not_full : length waiting < most_waiting
  pub one_more : b.sc + length waiting < c.dc

pub tick_sound : (c : Clock) (waiting : List Entry) (b : Books) → c.dc < most_dc → Sound c waiting b → Sound (ticked c) waiting b
unfolding ticked
tick_sound c waiting b l h =
    record {
      sizes = h.sizes;
      dc_fits = omega arith;
      list_fits = h.list_fits;
      values_fit = h.values_fit;
      kept_number = h.kept_number;
      sum_fits = omega arith;
      kept_good = h.kept_good;
      apart = h.apart;
      entries_good =
          all_weaken (good_entry c.partitions c.own c.dc) (good_entry c.partitions c.own (c.dc + 1))
          (entry_later c.partitions c.own c.dc) waiting h.entries_good;
    }

-- A good newcomer under a new identity joins at any place.
insert_sound : (c : Clock) (i : ℕ) (e : Entry) (waiting : List Entry) (b : Books) → Room c waiting b
    → list_any (is_for e.transaction.identity) waiting ≡ false → good_entry c.partitions c.own c.dc e ≡ true
    → Sound c waiting b → Sound c (insert waiting i e) b
insert_sound c i e waiting b room new good h =
    record {
      sizes = h.sizes;
      dc_fits = h.dc_fits;
      list_fits = omega (arith, length_insert i e waiting);
      values_fit = h.values_fit;
      kept_number = h.kept_number;
      sum_fits = omega (arith, length_insert i e waiting);
      kept_good = h.kept_good;
      apart =
          ap different (map_insert (λ (x : Entry). x.transaction.identity) i e waiting)
          ∙ different_insert i e.transaction.identity (identities waiting)
          (new_identity e.transaction.identity waiting new) h.apart;
      entries_good = all_insert (good_entry c.partitions c.own c.dc) i e waiting good h.entries_good;
    }

pub join_sound : (c : Clock) (f : Fate) (e : Entry) (waiting : List Entry) (b : Books) → Room c waiting b
    → list_any (is_for e.transaction.identity) waiting ≡ false → good_entry c.partitions c.own c.dc e ≡ true
    → Sound c waiting b → Sound c (joined f e waiting) b
unfolding joined
join_sound c (abort reason) e waiting b room new good h = h
join_sound c (join i) e waiting b room new good h = insert_sound c i e waiting b room new good h

-- Writing keeps the number of values.
pub length_written : (ws : List Write) (values : List ℤ) → length (written ws values) ≡ length values
unfolding written
length_written [] values = refl
length_written (w ∷ ws) values = length-set (written ws values) w.key w.value ∙ length_written ws values

pub length_folded : (cs : List Commit) (values : List ℤ) → length (folded cs values) ≡ length values
unfolding folded
length_folded [] values = refl
length_folded (c ∷ cs) values = length_written c.writes (folded cs values) ∙ length_folded cs values

-- The head's transaction becomes a good commit.
kept_of_good : (partitions own dc : ℕ) (e : Entry) → good_entry partitions own dc e ≡ true → good_commit (kept_of e.transaction) ≡ true
unfolding good_commit kept_of
kept_of_good partitions own dc e h =
    let g : GoodEntry partitions own dc e = entry_facts partitions own dc e h in
    and_both (good_set e.transaction.reads) (good_set (keys_of e.transaction.writes)) g.reads_good g.writes_good

module _ (c : Clock) (e : Entry) (es : List Entry) (b : Books) (h : Sound c (e ∷ es) b) where
  -- The head is taken off and writes nothing.
  abort_off_sound : Sound c es b
  unfolding different
  abort_off_sound =
      record {
        sizes = h.sizes;
        dc_fits = h.dc_fits;
        list_fits = omega arith;
        values_fit = h.values_fit;
        kept_number = h.kept_number;
        sum_fits = omega arith;
        kept_good = h.kept_good;
        apart = and_right (not (member e.transaction.identity (identities es))) (different (identities es)) h.apart;
        entries_good =
            and_right (good_entry c.partitions c.own c.dc e) (list_all (good_entry c.partitions c.own c.dc) es) h.entries_good;
      }

  -- The head is taken off and commits.
  commit_off_sound : Sound c es (committed e.transaction b)
  unfolding committed
  commit_off_sound =
      let rest : Sound c es b = abort_off_sound in
      let head_good : good_entry c.partitions c.own c.dc e ≡ true =
      and_left (good_entry c.partitions c.own c.dc e) (list_all (good_entry c.partitions c.own c.dc) es) h.entries_good in
      record {
        sizes = h.sizes;
        dc_fits = h.dc_fits;
        list_fits = rest.list_fits;
        values_fit = length_folded (drop most_kept (kept_of e.transaction ∷ b.kept)) b.values ∙ h.values_fit;
        kept_number = omega (arith, length-take most_kept (kept_of e.transaction ∷ b.kept));
        sum_fits = omega arith;
        kept_good =
            all_take good_commit most_kept (kept_of e.transaction ∷ b.kept)
            (and_both (good_commit (kept_of e.transaction)) (list_all good_commit b.kept)
            (kept_of_good c.partitions c.own c.dc e head_good) h.kept_good);
        apart = rest.apart;
        entries_good = rest.entries_good;
      }

  pub off_sound : Sound c es (books_after c e b)
  unfolding books_after
  off_sound = split (commits c e) (λ q. rw q commit_off_sound) (λ q. rw q abort_off_sound)

pub close_sound : (c : Clock) (waiting : List Entry) (b : Books) → Sound c waiting b
    → Sound c (close c waiting b).waiting (close c waiting b).books
close_sound c = close_keeps c (Sound c) (λ e es b q h. off_sound c e es b h)
