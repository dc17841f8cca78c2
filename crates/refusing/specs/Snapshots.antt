-- A snapshot's numbers, 5 and 6, which a delivery and a read share; a read's numbers, and a change's.
use Rattle.std.specs.Prelude.{ℕ, cond, List, ◌≡◌, refl, Some, None, eqb, ltb, ℤ, get_or, unwrap_or}
use Rattle.std.specs.declared.option.Option as code
use Rattle.rules.specs.Sizes.{most_k, floor}
use Rattle.rules.specs.Keys.{bad_key}
use Rattle.rules.specs.Events.{change, read, Snapshot, at, newest, snapshot}
use Rattle.rules.specs.Refusals.{refusal, checks, read_checks, change_checks}
use Rattle.laws.specs.Tests.{split}
use Rattle.tables.specs.Layout.{sc_at}
use Rattle.tables.specs.View.{books_view, view}
use Rattle.refusing.specs.Operands.{number_of}
use Rattle.refusing.specs.Chains.{first_chain}

-- "st > SC", "st < floor"
unfoldable pub snapshot_number : ℕ → ℕ → ℕ
snapshot_number st sc = cond (ltb sc st) 5 (cond (ltb st (floor sc)) 6 0)

-- The two tests in front of others.
pub snapshot_first : (st sc rest : ℕ) → cond (ltb sc st) 5 (cond (ltb st (floor sc)) 6 rest)
    ≡ cond (eqb (snapshot_number st sc) 0) rest (snapshot_number st sc)
unfolding snapshot_number
snapshot_first st sc rest = split (ltb sc st) (λ q. rw q) (λ q. split (ltb st (floor sc)) (λ r. rw (q, r)) (λ r. rw (q, r)))

-- A read's numbers, on words.
unfoldable pub read_words : ℕ → ℕ → ℕ → ℕ
read_words key st sc = cond (bad_key key) 3 (snapshot_number st sc)

-- A read at a version, or where none is given at SC.
abbrev pub asked : code.Option ℕ → Snapshot
asked None = newest
asked (Some v) = at v

pub asked_version : (st : code.Option ℕ) (book : List ℕ) (sums : List ℤ) → snapshot (asked st) (view book sums) ≡ unwrap_or st (get_or book sc_at 0)
unfolding snapshot view books_view
asked_version None book sums = refl
asked_version (Some v) book sums = refl

-- They are the rules'.
pub read_same : (key : ℕ) (when : Snapshot) (book : List ℕ) (sums : List ℤ)
    → read_words key (snapshot when (view book sums)) (get_or book sc_at 0) ≡ number_of (refusal (read key when) (view book sums))
unfolding refusal checks read_checks read_words snapshot_number view books_view
read_same key when book sums = rw (first_chain (read_checks key (snapshot when (view book sums)) (view book sums)))

-- A change's number.
pub change_same : (k : ℕ) (book : List ℕ) (sums : List ℤ) → cond (ltb most_k k) 12 0 ≡ number_of (refusal (change k) (view book sums))
unfolding refusal checks change_checks
change_same k book sums = rw (first_chain (change_checks k))
