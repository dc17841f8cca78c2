-- The tests of a newcomer on rows of words: a clash, a row that may not stand before it, a row that may be passed. Each is the rules' test of the
-- entry or commit that the row holds.
use Prim.Native.Nat.{ℕ, zero, suc, ◌-◌, ◌≤◌, min}
use Rattle.std.specs.Prelude.{Bool, not, List, ◌≡◌, eqb, leb, ℤ, get_or}
use Rattle.std.specs.List.{list_any, list_all}
use Rattle.std.proofs.Math.Bool.{◌&&◌, ◌||◌}
use Rattle.std.proofs.Math.Path.{refl, ap, ap₂}
use Rattle.std.proofs.Common.{◌∙◌, arith}
use Rattle.rules.specs.Sizes.{most_kept}
use Rattle.rules.specs.Partitions.{only, any_outstanding, every_vote_yes}
use Rattle.rules.specs.Keys.{meet}
use Rattle.rules.specs.Ledger.{Transaction, Clock, keys_of, is_local}
use Rattle.rules.specs.Place.{place}
use Rattle.rules.specs.Delivery.{clash, clash_commit, clash_entry, commits_after, blocks, passes}
use Rattle.rules.specs.Closing.{ready, commits}
use Rattle.laws.specs.Tabs.{tab, take_tab}
use Rattle.tables.specs.Rows.{row_reads, row_keys, row_transaction, row_entry, row_commit, row_writes_keys}
use Rattle.tables.specs.View.{waiting_words, kept_words, entry_at, commit_at, waiting_view, kept_view, books_view}

-- "it read a key that the commit wrote; for a global one also, it writes a key that the commit read"
unfoldable pub row_clash : Bool → List ℕ → List ℕ → List ℕ → Bool
row_clash global reads keys w = meet reads (row_keys w) || (global && meet keys (row_reads w))

-- "writes a key it reads"
unfoldable pub row_blocks : List ℕ → List ℕ → Bool
row_blocks reads w = meet reads (row_keys w)

-- "is global, has DC <= rt, and has read no key that it writes"
unfoldable pub row_passes : ℕ → ℕ → List ℕ → List ℕ → Bool
row_passes own dc keys w = not (eqb (get_or w 1 0) (only own)) && leb dc (get_or w 3 0) && not (meet (row_reads w) keys)

-- The head's two tests, on its words.
unfoldable pub row_ready : ℕ → ℕ → List ℕ → Bool
row_ready own dc w =
    eqb (get_or w 1 0) (only own)
    || (leb (get_or w 3 0) dc && not (any_outstanding own (get_or w 1 0) (record { ayes = get_or w 4 0; nays = get_or w 5 0 })))

unfoldable pub row_commits : ℕ → List ℕ → Bool
row_commits own w =
    eqb (get_or w 1 0) (only own) || every_vote_yes own (get_or w 1 0) (record { ayes = get_or w 4 0; nays = get_or w 5 0 })

pub ready_row : (c : Clock) (w : List ℕ) (a : List ℤ) → ready c (row_entry w a) ≡ row_ready c.own c.dc w
unfolding ready is_local row_entry row_transaction row_ready
ready_row c w a = refl

pub commits_row : (c : Clock) (w : List ℕ) (a : List ℤ) → commits c (row_entry w a) ≡ row_commits c.own w
unfolding commits is_local row_entry row_transaction row_commits
commits_row c w a = refl

module _ (own : ℕ) (t : Transaction) (w : List ℕ) (a : List ℤ) where
  pub clash_entry_row : clash_entry own t (row_entry w a) ≡ row_clash (not (is_local own t)) t.reads (keys_of t.writes) w
  unfolding clash_entry clash row_entry row_transaction row_clash
  clash_entry_row = rw (row_writes_keys w a)

  pub clash_commit_row : clash_commit own t (row_commit w a) ≡ row_clash (not (is_local own t)) t.reads (keys_of t.writes) w
  unfolding clash_commit clash row_commit row_clash
  clash_commit_row = rw (row_writes_keys w a)

  pub blocks_row : blocks t (row_entry w a) ≡ row_blocks t.reads w
  unfolding blocks row_entry row_transaction row_blocks
  blocks_row = rw (row_writes_keys w a)

pub passes_row : (c : Clock) (t : Transaction) (w : List ℕ) (a : List ℤ) → passes c t (row_entry w a) ≡ row_passes c.own c.dc (keys_of t.writes) w
unfolding passes is_local row_entry row_transaction row_passes
passes_row c t w a = refl

-- A test of each of a function's first values, and another test of another's: the same where they agree.
module _ {A B : Type 0} where
  pub any_tab_same : (n : ℕ) (f : A → Bool) (g : ℕ → A) (h : B → Bool) (k : ℕ → B) → ((i : ℕ) → f (g i) ≡ h (k i)) → list_any f (tab n g) ≡ list_any h (tab n k)
  unfolding tab
  any_tab_same zero f g h k same = refl
  any_tab_same (suc n) f g h k same = ap₂ ◌||◌ (same 0) (any_tab_same n f (λ i. g (suc i)) h (λ i. k (suc i)) (λ i. same (suc i)))

  pub all_tab_same : (n : ℕ) (f : A → Bool) (g : ℕ → A) (h : B → Bool) (k : ℕ → B) → ((i : ℕ) → f (g i) ≡ h (k i)) → list_all f (tab n g) ≡ list_all h (tab n k)
  unfolding tab
  all_tab_same zero f g h k same = refl
  all_tab_same (suc n) f g h k same = ap₂ ◌&&◌ (same 0) (all_tab_same n f (λ i. g (suc i)) h (λ i. k (suc i)) (λ i. same (suc i)))

  pub place_tab_same : (n : ℕ) (b p : A → Bool) (g : ℕ → A) (b' p' : B → Bool) (k : ℕ → B) → ((i : ℕ) → b (g i) ≡ b' (k i)) → ((i : ℕ) → p (g i) ≡ p' (k i))
      → place b p (tab n g) ≡ place b' p' (tab n k)
  unfolding tab place
  place_tab_same zero b p g b' p' k same_b same_p = refl
  place_tab_same (suc n) b p g b' p' k same_b same_p =
      rw (
        same_p 0,
        all_tab_same n p (λ i. g (suc i)) p' (λ i. k (suc i)) (λ i. same_p (suc i)),
        same_b 0,
        place_tab_same n b p (λ i. g (suc i)) b' p' (λ i. k (suc i)) (λ i. same_b (suc i)) (λ i. same_p (suc i)),
      )

-- The rules' tests of the lists that the tables hold, on rows.
module _ (t : Transaction) (book : List ℕ) (sums : List ℤ) where
  pub waiting_clash : (own n : ℕ) → list_any (clash_entry own t) (waiting_view n book sums)
      ≡ list_any (row_clash (not (is_local own t)) t.reads (keys_of t.writes)) (tab n (waiting_words book))
  unfolding waiting_view entry_at
  waiting_clash own n =
      any_tab_same n (clash_entry own t) (entry_at book sums) (row_clash (not (is_local own t)) t.reads (keys_of t.writes)) (waiting_words book)
      (λ i. clash_entry_row own t (waiting_words book i) _)

  pub commits_clash : (own sc : ℕ) → t.st ≤ sc → sc - t.st ≤ most_kept
      → list_any (clash_commit own t) (commits_after t.st (books_view sc book sums))
      ≡ list_any (row_clash (not (is_local own t)) t.reads (keys_of t.writes)) (tab (sc - t.st) (λ j. kept_words book (sc - j)))
  unfolding commits_after books_view kept_view commit_at
  commits_clash own sc taken near =
      ap (list_any (clash_commit own t)) (take_tab (sc - t.st) (min sc most_kept) (λ j. commit_at book sums (sc - j)) (omega arith))
      ∙ any_tab_same (sc - t.st) (clash_commit own t) (λ j. commit_at book sums (sc - j)) (row_clash (not (is_local own t)) t.reads (keys_of t.writes))
      (λ j. kept_words book (sc - j)) (λ j. clash_commit_row own t (kept_words book (sc - j)) _)

  pub waiting_place : (c : Clock) (n : ℕ) → place (blocks t) (passes c t) (waiting_view n book sums)
      ≡ place (row_blocks t.reads) (row_passes c.own c.dc (keys_of t.writes)) (tab n (waiting_words book))
  unfolding waiting_view entry_at
  waiting_place c n =
      place_tab_same n (blocks t) (passes c t) (entry_at book sums) (row_blocks t.reads) (row_passes c.own c.dc (keys_of t.writes)) (waiting_words book)
      (λ i. blocks_row c.own t (waiting_words book i) _) (λ i. passes_row c t (waiting_words book i) _)
