-- A vote's numbers, 9 to 11, on the words of one row. The rules ask every waiting entry of the identity; identities differ, so that is one row.
use Prim.Native.Nat.{ℕ, zero, suc, ◌+◌, ◌<◌}
use Rattle.std.specs.Prelude.{Bool, true, false, cond, ◌&&◌, ◌||◌, ◌≡◌, eqb, leb, ℤ}
use Rattle.std.specs.List.{list_any}
use Rattle.std.proofs.Math.Bool.{not}
use mathlib.Core.List.{List}
use Rattle.std.proofs.Math.Path.{refl, subst}
use Rattle.std.proofs.Common.{sym, ◌∙◌, arith}
use borrow.Author.Tests.{eq-eqb, ne_eqb, eqb-false, le-leb, lt-leb, ltb-false, not-true}
use Rattle.std.proofs.Math.ListN.{get_or}
use Rattle.rules.specs.Lists.{member}
use Rattle.rules.specs.Partitions.{Ballot, names, other, heard_from}
use Rattle.rules.specs.Ledger.{Entry}
use Rattle.rules.specs.Soundness.{sound, different}
use Rattle.rules.specs.Events.{vote}
use Rattle.rules.specs.Refusals.{is_for, waits_for, refusal, checks, vote_checks}
use Rattle.laws.specs.Tests.{split, never, and_left, and_right, or_left, or_right, or_first, or_second}
use Rattle.laws.specs.Cuts.{get_or_cut}
use Rattle.laws.specs.Tabs.{tab, map_tab}
use Rattle.tables.specs.Layout.{waiting_row, own_at, waiting_at}
use Rattle.tables.specs.Rows.{row_transaction, row_entry}
use Rattle.tables.specs.View.{waiting_words, entry_at, waiting_view, clock_view, view}
use Rattle.checking.specs.SoundTables.{sound_tables}
use Rattle.refusing.specs.Operands.{number_of, index_of, waiting_identities}
use Rattle.refusing.specs.Indexed.{row_of}
use Rattle.refusing.specs.Seeking.{waits_below}
use Rattle.refusing.specs.Chains.{first_chain}

-- Among values that are told apart by a number, a test of those that have a number is the test of the one that has it.
module _ {A : Type 0} (number : A → ℕ) (t : A → Bool) (x : ℕ) where
  any_missing : (n : ℕ) (g : ℕ → A) → member x (tab n (λ j. number (g j))) ≡ false → list_any (λ a. eqb (number a) x && t a) (tab n g) ≡ false
  unfolding tab
  any_missing zero g h = refl
  any_missing (suc n) g h =
      let rest = tab n (λ j. number (g (suc j))) in
      let unlike = eqb-false x (number (g 0)) (or_left (eqb x (number (g 0))) (member x rest) h) in
      rw (ne_eqb (number (g 0)) x (λ e. unlike (sym e))) (any_missing n (λ j. g (suc j)) (or_right (eqb x (number (g 0))) (member x rest) h))

  member_tab : (n : ℕ) (f : ℕ → ℕ) (i : ℕ) → i < n → f i ≡ x → member x (tab n f) ≡ true
  unfolding tab
  member_tab zero f i low e = absurd (omega arith)
  member_tab (suc n) f zero low e = or_first (eqb x (f 0)) (member x (tab n (λ j. f (suc j)))) (eq-eqb x (f 0) (sym e))
  member_tab (suc n) f (suc i) low e =
      or_second (eqb x (f 0)) (member x (tab n (λ j. f (suc j)))) (member_tab n (λ j. f (suc j)) i (omega arith) e)

  pub any_only : (n : ℕ) (g : ℕ → A) (i : ℕ) → different (tab n (λ j. number (g j))) ≡ true → i < n → number (g i) ≡ x
      → list_any (λ a. eqb (number a) x && t a) (tab n g) ≡ t (g i)
  unfolding tab different
  any_only zero g i apart low e = absurd (omega arith)
  any_only (suc n) g zero apart low e =
      let rest = tab n (λ j. number (g (suc j))) in
      let alone = not-true (member (number (g 0)) rest) (and_left (not (member (number (g 0)) rest)) (different rest) apart) in
      rw (eq-eqb (number (g 0)) x e, any_missing n (λ j. g (suc j)) (rw e at alone)) (split (t (g 0)) (λ q. rw q) (λ q. rw q))
  any_only (suc n) g (suc i) apart low e =
      let rest = tab n (λ j. number (g (suc j))) in
      let alone = not-true (member (number (g 0)) rest) (and_left (not (member (number (g 0)) rest)) (different rest) apart) in
      let there = member_tab n (λ j. number (g (suc j))) i (omega arith) e in
      let other : number (g 0) ≡ x → ⊥ = λ q. never (member x rest) there (subst (λ (y : ℕ). member y rest ≡ false) q alone) in
      rw (ne_eqb (number (g 0)) x other)
      (any_only n (λ j. g (suc j)) i (and_right (not (member (number (g 0)) rest)) (different rest) apart) (omega arith) e)

-- The numbers of a row that was found, or of none.
unfoldable pub row_number : ℕ → ℕ → List ℕ → ℕ
row_number i p book =
    cond (leb (get_or book waiting_at 0) i) 9
    (cond (not (other (get_or book own_at 0) (get_or book (waiting_row i + 1) 0) p)) 10
    (cond (names (get_or book (waiting_row i + 4) 0) p || names (get_or book (waiting_row i + 5) 0) p) 11 0))

unfoldable pub vote_words : ℕ → ℕ → List ℕ → ℕ
vote_words identity p book = row_number (index_of identity (waiting_identities book)) p book

-- They are the rules'.
module _ (book : List ℕ) (sums : List ℤ) where
  pub word : (i j : ℕ) → j < 24 → get_or (waiting_words book i) j 0 ≡ get_or book (waiting_row i + j) 0
  unfolding waiting_words
  word i j low = get_or_cut (waiting_row i) 24 book j 0 low

  entry_set : (i : ℕ) → (entry_at book sums i).transaction.partitions ≡ get_or book (waiting_row i + 1) 0
  unfolding entry_at row_entry row_transaction
  entry_set i = word i 1 (omega arith)

  entry_heard : (i p : ℕ) → heard_from (entry_at book sums i).heard p
      ≡ (names (get_or book (waiting_row i + 4) 0) p || names (get_or book (waiting_row i + 5) 0) p)
  unfolding entry_at row_entry heard_from
  entry_heard i p = rw (word i 4 (omega arith), word i 5 (omega arith))

  module _ (whole : sound (view book sums) ≡ true) (x p i : ℕ) (low : i < get_or book waiting_at 0) (its : (entry_at book sums i).transaction.identity ≡ x) where
    asked : (t : Entry → Bool) → list_any (λ e. is_for x e && t e) (waiting_view (get_or book waiting_at 0) book sums) ≡ t (entry_at book sums i)
    unfolding waiting_view
    asked t =
        let n = get_or book waiting_at 0 in
        let unlike = subst (λ (l : List ℕ). different l ≡ true) (map_tab (λ (e : Entry). e.transaction.identity) n (entry_at book sums))
        (sound_tables book sums whole).state.apart in
        any_only (λ (e : Entry). e.transaction.identity) t x n (entry_at book sums) i unlike low its

  pub vote_same : sound (view book sums) ≡ true → (x p : ℕ) (b : Ballot) → vote_words x p book ≡ number_of (refusal (vote x p b) (view book sums))
  unfolding refusal checks vote_checks vote_words row_number view clock_view
  vote_same whole x p b =
      let n = get_or book waiting_at 0 in
      let i = index_of x (waiting_identities book) in
      split (waits_for x (view book sums))
      (λ q.
      let r = row_of x book sums q in
      rw (
        first_chain (vote_checks x p (view book sums)),
        q,
        lt-leb n i r.below,
        asked whole x p i r.below r.its (λ e. not (other (get_or book own_at 0) e.transaction.partitions p)),
        asked whole x p i r.below r.its (λ e. heard_from e.heard p),
        entry_set i,
        entry_heard i p,
      ))
      (λ q.
      let past = ltb-false i n (sym (waits_below x book sums) ∙ q) in
      rw (first_chain (vote_checks x p (view book sums)), q, le-leb n i past))
