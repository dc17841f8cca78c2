-- A vote stored: one partition more in the row's ayes or nays. The waiting list then has it in the entry of that identity; the length, the counters
-- and the kept rows see nothing of it.
use Rattle.std.specs.Prelude.{ℕ, zero, suc, ◌+◌, ◌≤◌, ◌<◌, Bool, true, false, not, ◌≡◌, eqb, leb, ℤ, pos, length, set, take, drop}
use mathlib.Core.List.{List, [], ◌∷◌, map}
use Rattle.std.proofs.Math.Path.{refl, ap}
use Rattle.std.proofs.Common.{sym, ◌∙◌, subst, arith, eq-eqb, ne_eqb, leb-true, leb-false, length-set, get_or-set_same, get_or-set_other}
use Rattle.std.proofs.lemmas.Bool.{eqb-false, not-true}
use Rattle.std.proofs.Math.ListN.{get_or}
use Rattle.std.proofs.Math.Seq.{take-set-lt}
use Rattle.std.proofs.lemmas.List.{drop-set-add}
use Rattle.rules.specs.Lists.{member}
use Rattle.rules.specs.Partitions.{with_partition, Ballot, aye, nay, hear}
use Rattle.rules.specs.Ledger.{Entry}
use Rattle.rules.specs.Soundness.{different, identities}
use Rattle.rules.specs.Events.{with_vote}
use Rattle.laws.specs.Tests.{split, and_left, and_right, or_left, or_right}
use Rattle.laws.specs.Cuts.{cut, set_put, length_cut, get_or_cut, cut_put_below, cut_put_above}
use Rattle.laws.specs.Tabs.{tab, tab_as, tab_same, map_tab}
use Rattle.claims.specs.Soundness.{hearing, with_vote_heard, with_vote_other}
use Rattle.tables.specs.Layout.{book_words, waiting_row, waiting_amounts}
use Rattle.tables.specs.Rows.{row_reads, row_writes, row_transaction, row_entry}
use Rattle.tables.specs.View.{waiting_words, entry_at, waiting_view}

-- Those who said yes stand in word 4 of a row, those who said no in word 5.
unfoldable pub voted_book : List ℕ → ℕ → ℕ → Bool → List ℕ
voted_book book i p true = set book (waiting_row i + 4) (with_partition p (get_or book (waiting_row i + 4) 0))
voted_book book i p false = set book (waiting_row i + 5) (with_partition p (get_or book (waiting_row i + 5) 0))

abbrev pub ballot : Bool → Ballot
ballot true = aye
ballot false = nay

-- Which word of the row, and what is stored there.
word : Bool → ℕ
word true = 4
word false = 5

word_high : (agrees : Bool) → word agrees < 6
unfolding word
word_high true = omega arith
word_high false = omega arith

abbrev stored : List ℕ → ℕ → ℕ → Bool → ℕ
stored book i p agrees = with_partition p (get_or book (waiting_row i + word agrees) 0)

one_store : (book : List ℕ) (i p : ℕ) (agrees : Bool) → voted_book book i p agrees ≡ set book (waiting_row i + word agrees) (stored book i p agrees)
unfolding voted_book word
one_store book i p true = refl
one_store book i p false = refl

-- A part of a table with one word stored: in it, behind it, in front of it.
cut_set : (o n k x v : ℕ) (l : List ℕ) → x ≡ o + k → k < n → cut o n (set l x v) ≡ set (cut o n l) k v
unfolding cut
cut_set o n k x v l e low =
    ap (λ (y : ℕ). take n (drop o (set l y v))) e ∙ (ap (take n) (drop-set-add o l k v) ∙ take-set-lt n (drop o l) k v low)

cut_set_behind : (o n x v : ℕ) (l : List ℕ) → o + n ≤ x → x < length l → cut o n (set l x v) ≡ cut o n l
cut_set_behind o n x v l apart low = ap (cut o n) (set_put l x v low) ∙ cut_put_below o n l x (v ∷ []) apart (omega arith)

cut_set_front : (o n x v : ℕ) (l : List ℕ) → x < o → x < length l → cut o n (set l x v) ≡ cut o n l
cut_set_front o n x v l apart low = ap (cut o n) (set_put l x v low) ∙ cut_put_above o n l x (v ∷ []) (omega arith) (omega arith)

-- A row with another word 4 or 5 says the same but for the votes.
module _ (w : List ℕ) (a : List ℤ) (k v : ℕ) (low : 3 < k) (high : k < 6) where
  other_word : (j : ℕ) → (j ≡ k → ⊥) → get_or (set w k v) j 0 ≡ get_or w j 0
  other_word j apart = get_or-set_other w k j v 0 apart

  vote_reads : row_reads (set w k v) ≡ row_reads w
  unfolding row_reads
  vote_reads =
      tab_as (get_or (set w k v) 6 0) (get_or w 6 0) (λ j. get_or (set w k v) (8 + j) 0) (λ j. get_or w (8 + j) 0) (other_word 6 (λ e. omega arith))
      (λ j. other_word (8 + j) (λ e. omega arith))

  vote_writes : row_writes (set w k v) a ≡ row_writes w a
  unfolding row_writes
  vote_writes =
      tab_as (get_or (set w k v) 7 0) (get_or w 7 0) (λ j. record { key = get_or (set w k v) (16 + j) 0; value = get_or a j (pos 0) })
      (λ j. record { key = get_or w (16 + j) 0; value = get_or a j (pos 0) }) (other_word 7 (λ e. omega arith))
      (λ j i. record { key = other_word (16 + j) (λ e. omega arith) i; value = get_or a j (pos 0) })

  vote_transaction : row_transaction (set w k v) a ≡ row_transaction w a
  unfolding row_transaction
  vote_transaction =
      λ i. record {
        identity = other_word 0 (λ e. omega arith) i;
        partitions = other_word 1 (λ e. omega arith) i;
        st = other_word 2 (λ e. omega arith) i;
        reads = vote_reads i;
        writes = vote_writes i;
      }

aye_row : (w : List ℕ) (a : List ℤ) (p : ℕ) → length w ≡ 24 → row_entry (set w 4 (with_partition p (get_or w 4 0))) a ≡ hearing p aye (row_entry w a)
unfolding row_entry hear
aye_row w a p long =
    let v = with_partition p (get_or w 4 0) in
    λ i. record {
      transaction = vote_transaction w a 4 v (omega arith) (omega arith) i;
      rt = get_or-set_other w 4 3 v 0 (λ e. omega arith) i;
      heard = record { ayes = get_or-set_same w 4 v 0 (omega arith) i; nays = get_or-set_other w 4 5 v 0 (λ e. omega arith) i };
    }

nay_row : (w : List ℕ) (a : List ℤ) (p : ℕ) → length w ≡ 24 → row_entry (set w 5 (with_partition p (get_or w 5 0))) a ≡ hearing p nay (row_entry w a)
unfolding row_entry hear
nay_row w a p long =
    let v = with_partition p (get_or w 5 0) in
    λ i. record {
      transaction = vote_transaction w a 5 v (omega arith) (omega arith) i;
      rt = get_or-set_other w 5 3 v 0 (λ e. omega arith) i;
      heard = record { ayes = get_or-set_other w 5 4 v 0 (λ e. omega arith) i; nays = get_or-set_same w 5 v 0 (omega arith) i };
    }

vote_row : (w : List ℕ) (a : List ℤ) (p : ℕ) (agrees : Bool) → length w ≡ 24
    → row_entry (set w (word agrees) (with_partition p (get_or w (word agrees) 0))) a ≡ hearing p (ballot agrees) (row_entry w a)
unfolding word
vote_row w a p true long = aye_row w a p long
vote_row w a p false long = nay_row w a p long

-- Of different numbers, those at two places differ.
not_member_tab : (x n : ℕ) (f : ℕ → ℕ) (j : ℕ) → member x (tab n f) ≡ false → j < n → eqb x (f j) ≡ false
unfolding tab
not_member_tab x zero f j h low = absurd (omega arith)
not_member_tab x (suc n) f zero h low = or_left (eqb x (f 0)) (member x (tab n (λ j. f (suc j)))) h
not_member_tab x (suc n) f (suc j) h low =
    not_member_tab x n (λ j. f (suc j)) j (or_right (eqb x (f 0)) (member x (tab n (λ j. f (suc j)))) h) (omega arith)

different_tab : (n : ℕ) (f : ℕ → ℕ) (i j : ℕ) → different (tab n f) ≡ true → i < j → j < n → f i ≡ f j → ⊥
unfolding tab different
different_tab zero f i j h less low = absurd (omega arith)
different_tab (suc n) f zero zero h less low = absurd (omega arith)
different_tab (suc n) f zero (suc j) h less low =
    let rest = tab n (λ j. f (suc j)) in
    eqb-false (f 0) (f (suc j))
    (not_member_tab (f 0) n (λ j. f (suc j)) j (not-true (member (f 0) rest) (and_left (not (member (f 0) rest)) (different rest) h)) (omega arith))
different_tab (suc n) f (suc i) zero h less low = absurd (omega arith)
different_tab (suc n) f (suc i) (suc j) h less low =
    let rest = tab n (λ j. f (suc j)) in
    different_tab n (λ j. f (suc j)) i j (and_right (not (member (f 0) rest)) (different rest) h) (omega arith) (omega arith)

pub voted_length : (book : List ℕ) (i p : ℕ) (agrees : Bool) → length (voted_book book i p agrees) ≡ length book
voted_length book i p agrees =
    ap length (one_store book i p agrees) ∙ length-set book (waiting_row i + word agrees) (stored book i p agrees)

pub voted_counter : (book : List ℕ) (i p : ℕ) (agrees : Bool) (x : ℕ) → x < 6 → get_or (voted_book book i p agrees) x 0 ≡ get_or book x 0
voted_counter book i p agrees x low =
    ap (λ (l : List ℕ). get_or l x 0) (one_store book i p agrees)
    ∙ get_or-set_other book (waiting_row i + word agrees) x (stored book i p agrees) 0 (λ e. omega arith)

module _ (book : List ℕ) (sums : List ℤ) (i p : ℕ) (agrees : Bool) (long : book_words ≤ length book) (few : i < 32) where
  pub voted_kept : (x n : ℕ) → 774 ≤ x → cut x n (voted_book book i p agrees) ≡ cut x n book
  voted_kept x n high =
      let k = word_high agrees in
      ap (cut x n) (one_store book i p agrees)
      ∙ cut_set_front x n (waiting_row i + word agrees) (stored book i p agrees) book (omega arith) (omega arith)

  -- the row of the vote; the rows before it, and those behind it
  voted_here : entry_at (voted_book book i p agrees) sums i ≡ hearing p (ballot agrees) (entry_at book sums i)
  unfolding entry_at waiting_words
  voted_here =
      let k = word_high agrees in
      let w = cut (waiting_row i) 24 book in
      let a = cut (waiting_amounts i) 8 sums in
      let before = ap (with_partition p) (sym (get_or_cut (waiting_row i) 24 book (word agrees) 0 (omega arith))) in
      ap (λ (l : List ℕ). row_entry (cut (waiting_row i) 24 l) a) (one_store book i p agrees)
      ∙ (ap (λ (r : List ℕ). row_entry r a)
      (cut_set (waiting_row i) 24 (word agrees) (waiting_row i + word agrees) (stored book i p agrees) book refl (omega arith)
      ∙ ap (set w (word agrees)) before)
      ∙ vote_row w a p agrees (length_cut (waiting_row i) 24 book (omega arith)))

  voted_before : (j : ℕ) → j < i → entry_at (voted_book book i p agrees) sums j ≡ entry_at book sums j
  unfolding entry_at waiting_words
  voted_before j apart =
      let k = word_high agrees in
      ap (λ (r : List ℕ). row_entry r (cut (waiting_amounts j) 8 sums))
      (ap (cut (waiting_row j) 24) (one_store book i p agrees)
      ∙ cut_set_behind (waiting_row j) 24 (waiting_row i + word agrees) (stored book i p agrees) book (omega arith) (omega arith))

  voted_behind : (j : ℕ) → i < j → entry_at (voted_book book i p agrees) sums j ≡ entry_at book sums j
  unfolding entry_at waiting_words
  voted_behind j apart =
      let k = word_high agrees in
      ap (λ (r : List ℕ). row_entry r (cut (waiting_amounts j) 8 sums))
      (ap (cut (waiting_row j) 24) (one_store book i p agrees)
      ∙ cut_set_front (waiting_row j) 24 (waiting_row i + word agrees) (stored book i p agrees) book (omega arith) (omega arith))

-- The waiting list with the vote in the entry of the row's identity.
pub voted_waiting : (book : List ℕ) (sums : List ℤ) (n i p : ℕ) (agrees : Bool) → book_words ≤ length book → i < n → n ≤ 32
    → different (identities (waiting_view n book sums)) ≡ true
    → waiting_view n (voted_book book i p agrees) sums
    ≡ map (with_vote (entry_at book sums i).transaction.identity p (ballot agrees)) (waiting_view n book sums)
unfolding waiting_view
voted_waiting book sums n i p agrees long low few apart =
    tab_same n (entry_at (voted_book book i p agrees) sums) (λ j. voted (entry_at book sums j)) each ∙ sym (map_tab voted n (entry_at book sums))
  where
    identity : ℕ → ℕ
    identity j = (entry_at book sums j).transaction.identity

    voted : Entry → Entry
    voted = with_vote (identity i) p (ballot agrees)

    unlike : different (tab n identity) ≡ true
    unlike = subst (λ (l : List ℕ). different l ≡ true) (map_tab (λ (e : Entry). e.transaction.identity) n (entry_at book sums)) apart

    other : (j : ℕ) → (identity j ≡ identity i → ⊥) → entry_at book sums j ≡ voted (entry_at book sums j)
    other j differs = sym (with_vote_other (identity i) p (ballot agrees) (entry_at book sums j) (ne_eqb (identity j) (identity i) differs))

    here : entry_at (voted_book book i p agrees) sums i ≡ voted (entry_at book sums i)
    here =
        voted_here book sums i p agrees long (omega arith)
        ∙ sym (with_vote_heard (identity i) p (ballot agrees) (entry_at book sums i) (eq-eqb (identity i) (identity i) refl))

    each : (j : ℕ) → j < n → entry_at (voted_book book i p agrees) sums j ≡ voted (entry_at book sums j)
    each j below =
        split (leb i j)
        (λ q. let least = leb-true i j q in
        split (leb j i)
        (λ r. let most = leb-true j i r in
        let same : i ≡ j = omega arith in
        subst (λ (k : ℕ). entry_at (voted_book book i p agrees) sums k ≡ voted (entry_at book sums k)) same here)
        (λ r. let more = leb-false j i r in
        voted_behind book sums i p agrees long (omega arith) j more ∙ other j (λ e. different_tab n identity i j unlike more below (sym e))))
        (λ q. let less = leb-false i j q in
        voted_before book sums i p agrees long (omega arith) j less ∙ other j (different_tab n identity j i unlike less low))
