-- The head's tests on the words of its row, one way out after the other.
use Rattle.std.specs.Prelude.{ℕ, ◌+◌, ◌<◌, ◌≤◌, Bool, true, false, not, List, ◌≡◌, eqb, get_or}
use Rattle.std.proofs.Common.{le-leb}
use Rattle.std.proofs.lemmas.Bool.{lt-leb}
use Rattle.rules.specs.Partitions.{only, any_outstanding, every_vote_yes}
use Rattle.laws.specs.Cuts.{get_or_cut}
use Rattle.tables.specs.View.{waiting_words}
use Rattle.tables.specs.Tested.{row_ready, row_commits}

-- A word of the head's row stands six words further in the table.
pub head_word : (book : List ℕ) (j : ℕ) → j < 24 → get_or (waiting_words book 0) j 0 ≡ get_or book (6 + j) 0
unfolding waiting_words
head_word book j low = get_or_cut 6 24 book j 0 low

module _ (own dc : ℕ) (w : List ℕ) where
  pub ready_local : eqb (get_or w 1 0) (only own) ≡ true → true ≡ row_ready own dc w
  unfolding row_ready
  ready_local q = rw q

  pub ready_early : eqb (get_or w 1 0) (only own) ≡ false → dc < get_or w 3 0 → false ≡ row_ready own dc w
  unfolding row_ready
  ready_early q low = rw (q, lt-leb (get_or w 3 0) dc low)

  pub ready_votes : (r : Bool) → eqb (get_or w 1 0) (only own) ≡ false → get_or w 3 0 ≤ dc
      → r ≡ not (any_outstanding own (get_or w 1 0) (record { ayes = get_or w 4 0; nays = get_or w 5 0 })) → r ≡ row_ready own dc w
  unfolding row_ready
  ready_votes r q high h = rw (q, le-leb (get_or w 3 0) dc high) h

module _ (own : ℕ) (w : List ℕ) where
  pub commits_local : eqb (get_or w 1 0) (only own) ≡ true → true ≡ row_commits own w
  unfolding row_commits
  commits_local q = rw q

  pub commits_votes : (r : Bool) → eqb (get_or w 1 0) (only own) ≡ false
      → r ≡ every_vote_yes own (get_or w 1 0) (record { ayes = get_or w 4 0; nays = get_or w 5 0 }) → r ≡ row_commits own w
  unfolding row_commits
  commits_votes r q h = rw q h
