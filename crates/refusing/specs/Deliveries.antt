-- A delivery's numbers, 1 to 8, on the words of the tables and on what is lent, and that they are the rules'.
use Rattle.std.specs.Prelude.{ℕ, cond, ◌||◌, List, ◌≡◌, eqb, leb, ltb, ℤ, get_or}
use Rattle.rules.specs.Sizes.{most_waiting, most_dc}
use Rattle.rules.specs.Partitions.{bad_set}
use Rattle.rules.specs.Keys.{bad_keys, too_many}
use Rattle.rules.specs.Events.{delivery}
use Rattle.rules.specs.Refusals.{refusal, checks, delivery_checks}
use Rattle.laws.specs.Tests.{split}
use Rattle.tables.specs.Layout.{partitions_at, own_at, sc_at, dc_at, waiting_at}
use Rattle.tables.specs.View.{length_waiting, clock_view, books_view, view}
use Rattle.tables.specs.Judged.{lent, lent_keys}
use Rattle.refusing.specs.Operands.{number_of, index_of, waiting_identities}
use Rattle.refusing.specs.Seeking.{waits_below}
use Rattle.refusing.specs.Chains.{first_chain}
use Rattle.refusing.specs.Snapshots.{snapshot_number, snapshot_first}

-- 5 to 8.
unfoldable pub late : ℕ → List ℕ → ℕ
late st book =
    cond (eqb (snapshot_number st (get_or book sc_at 0)) 0)
    (cond (leb most_waiting (get_or book waiting_at 0)) 7 (cond (eqb (get_or book dc_at 0) most_dc) 8 0)) (snapshot_number st (get_or book sc_at 0))

-- 1 to 3: of the partition set and the two lists of keys.
unfoldable pub operand_number : ℕ → ℕ → ℕ → List ℕ → List ℕ → ℕ
operand_number partitions own set reads keys =
    cond (bad_set partitions own set) 1 (cond (too_many reads || too_many keys) 2 (cond (bad_keys reads || bad_keys keys) 3 0))

-- The three tests in front of others.
operands_first : (partitions own set : ℕ) (reads keys : List ℕ) (rest : ℕ)
    → cond (bad_set partitions own set) 1 (cond (too_many reads || too_many keys) 2 (cond (bad_keys reads || bad_keys keys) 3 rest))
    ≡ cond (eqb (operand_number partitions own set reads keys) 0) rest (operand_number partitions own set reads keys)
unfolding operand_number
operands_first partitions own set reads keys rest =
    split (bad_set partitions own set) (λ q. rw q)
    (λ q. split (too_many reads || too_many keys) (λ r. rw (q, r))
    (λ r. split (bad_keys reads || bad_keys keys) (λ s. rw (q, r, s)) (λ s. rw (q, r, s))))

-- All of them.
unfoldable pub delivery_words : ℕ → ℕ → ℕ → List ℕ → List ℕ → List ℕ → ℕ
delivery_words identity set st reads keys book =
    cond (eqb (operand_number (get_or book partitions_at 0) (get_or book own_at 0) set reads keys) 0)
    (cond (eqb identity 0 || ltb (index_of identity (waiting_identities book)) (get_or book waiting_at 0)) 4 (late st book))
    (operand_number (get_or book partitions_at 0) (get_or book own_at 0) set reads keys)

-- They are the rules'.
pub delivery_same : (identity set st : ℕ) (reads keys : List ℕ) (amounts : List ℤ) (book : List ℕ) (sums : List ℤ)
    → delivery_words identity set st reads keys book ≡ number_of (refusal (delivery (lent identity set st reads keys amounts)) (view book sums))
unfolding refusal checks delivery_checks delivery_words late lent view clock_view books_view
delivery_same identity set st reads keys amounts book sums =
    let n = get_or book waiting_at 0 in
    let last : ℕ = cond (leb most_waiting n) 7 (cond (eqb (get_or book dc_at 0) most_dc) 8 0) in
    rw (
      first_chain (delivery_checks (lent identity set st reads keys amounts) (view book sums)),
      lent_keys keys amounts,
      waits_below identity book sums,
      length_waiting n book sums,
      snapshot_first st (get_or book sc_at 0) last,
      operands_first (get_or book partitions_at 0) (get_or book own_at 0) set reads keys _,
    )
