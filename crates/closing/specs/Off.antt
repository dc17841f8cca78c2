-- A head taken off on the tables: what each of the two ways leaves is the desk with its head off.
use Rattle.std.specs.Prelude.{ℕ, suc, ◌+◌, ◌*◌, ◌-◌, ◌≤◌, ◌<◌, true, false, cond, List, [], ◌∷◌, ◌≡◌, refl, ℤ, get_or}
use Rattle.std.proofs.Common.{sym, ap, ◌∙◌, subst, arith}
use Rattle.rules.specs.Ledger.{Clock}
use Rattle.rules.specs.Closing.{ready, commits, finish}
use Rattle.laws.specs.Cuts.{put}
use Rattle.tables.specs.Rows.{row_transaction, row_entry}
use Rattle.tables.specs.View.{waiting_words, entry_at, length_waiting, books_view}
use Rattle.tables.specs.TakenOff.{off_book, off_sums}
use Rattle.tables.specs.Keeping.{committed_book, committed_sums}
use Rattle.tables.specs.Tested.{row_ready, row_commits, ready_row, commits_row}
use Rattle.tables.specs.Good.{KeptGood, waiting_entry_good, kept_good}
use Rattle.tables.specs.Bytes.{ByteSets, entry_bytes}
use Rattle.tables.specs.Closed.{Desk, Fit, head_of, entry_words, kept_desk, told_desk, off_desk, head_off, head_off_fit, head_off_waiting, close_desk}
use Rattle.tables.specs.Counters.{with_counters}
use Rattle.tables.specs.Settled.{closed_desk, settled_book}

-- The head's tests, on its words.
head_ready : (c : Clock) (d : Desk) → ready c (head_of d) ≡ row_ready c.own c.dc (waiting_words d.book 0)
unfolding entry_at
head_ready c d = ready_row c (waiting_words d.book 0) _

head_commits : (c : Clock) (d : Desk) → commits c (head_of d) ≡ row_commits c.own (waiting_words d.book 0)
unfolding entry_at
head_commits c d = commits_row c (waiting_words d.book 0) _

head_identity : (d : Desk) → (head_of d).transaction.identity ≡ get_or (waiting_words d.book 0) 0 0
unfolding entry_at row_entry row_transaction
head_identity d = refl

-- The two ways.
off_committed : (c : Clock) (n : ℕ) (d : Desk) → row_commits c.own (waiting_words d.book 0) ≡ true
    → ◌≡◌ {A = Desk} (record {
      sc = d.sc + 1;
      waiting = n;
      finished = d.finished + 1;
      book = off_book (committed_book d.book d.sc) n;
      sums = off_sums (committed_sums d.book d.sums d.sc) n;
      finishes = put d.finishes (2 * d.finished) (get_or (waiting_words d.book 0) 0 0 ∷ (d.sc + 1) ∷ []);
    }) (head_off c n d)
unfolding head_off off_desk kept_desk told_desk entry_words finish books_view
off_committed c n d q = rw (head_commits c d ∙ q, head_identity d)

off_aborted : (c : Clock) (n : ℕ) (d : Desk) → row_commits c.own (waiting_words d.book 0) ≡ false
    → ◌≡◌ {A = Desk} (record {
      sc = d.sc;
      waiting = n;
      finished = d.finished + 1;
      book = off_book d.book n;
      sums = off_sums d.sums n;
      finishes = put d.finishes (2 * d.finished) (get_or (waiting_words d.book 0) 0 0 ∷ 0 ∷ []);
    }) (head_off c n d)
unfolding head_off off_desk kept_desk told_desk entry_words finish books_view
off_aborted c n d q = rw (head_commits c d ∙ q, head_identity d)

-- The same, of what each call left.
pub left_committed : (c : Clock) (n : ℕ) (d : Desk) {identity : ℕ} {kept_book after_book : List ℕ} {kept_sums after_sums : List ℤ} {told : List ℕ}
    → row_commits c.own (waiting_words d.book 0) ≡ true
    → identity ≡ get_or (waiting_words d.book 0) 0 0 → told ≡ put d.finishes (2 * d.finished) (identity ∷ (d.sc + 1) ∷ [])
    → kept_book ≡ committed_book d.book d.sc → kept_sums ≡ committed_sums d.book d.sums d.sc
    → after_book ≡ off_book kept_book n → after_sums ≡ off_sums kept_sums n
    → ◌≡◌ {A = Desk} (record { sc = d.sc + 1; waiting = n; finished = d.finished + 1; book = after_book; sums = after_sums; finishes = told }) (head_off c n d)
left_committed c n d q its told kept kept_sums off off_sums = rw (told, its, off, off_sums, kept, kept_sums) (off_committed c n d q)

pub left_aborted : (c : Clock) (n : ℕ) (d : Desk) {identity : ℕ} {after_book : List ℕ} {after_sums : List ℤ} {told : List ℕ}
    → row_commits c.own (waiting_words d.book 0) ≡ false
    → identity ≡ get_or (waiting_words d.book 0) 0 0 → told ≡ put d.finishes (2 * d.finished) (identity ∷ 0 ∷ [])
    → after_book ≡ off_book d.book n → after_sums ≡ off_sums d.sums n
    → ◌≡◌ {A = Desk} (record { sc = d.sc; waiting = n; finished = d.finished + 1; book = after_book; sums = after_sums; finishes = told }) (head_off c n d)
left_aborted c n d q its told off off_sums = rw (told, its, off, off_sums) (off_aborted c n d q)

-- Closing, one way out after the other.
pub closed_none : (c : Clock) (d : Desk) → d.waiting ≡ 0 → d ≡ closed_desk c d
unfolding closed_desk close_desk
closed_none c d none = rw none

closed_suc : (c : Clock) (d : Desk) (n : ℕ) → d.waiting ≡ suc n → closed_desk c d ≡ cond (ready c (head_of d)) (close_desk c n (head_off c n d)) d
unfolding closed_desk close_desk
closed_suc c d n one = ap (λ (m : ℕ). close_desk c m d) one

one_less : (m : ℕ) → (m ≡ 0 → ⊥) → m ≡ suc (m - 1)
one_less m some = omega arith

pub closed_rest : (c : Clock) (d : Desk) → (d.waiting ≡ 0 → ⊥) → row_ready c.own c.dc (waiting_words d.book 0) ≡ false → d ≡ closed_desk c d
closed_rest c d some q = sym (closed_suc c d (d.waiting - 1) (one_less d.waiting some) ∙ rw (head_ready c d ∙ q))

pub closed_more : (c : Clock) (d next after : Desk) → (d.waiting ≡ 0 → ⊥) → row_ready c.own c.dc (waiting_words d.book 0) ≡ true
    → next ≡ head_off c (d.waiting - 1) d → after ≡ closed_desk c next → after ≡ closed_desk c d
unfolding closed_desk head_off off_desk
closed_more c d next after some q is_off is_closed =
    is_closed
    ∙ (ap (closed_desk c) is_off
    ∙ sym (closed_suc c d (d.waiting - 1) (one_less d.waiting some) ∙ rw (head_ready c d ∙ q)))

-- What closing and taking off ask, from what a desk is fit for.
pub fit_next : (c : Clock) (d next : Desk) → (d.waiting ≡ 0 → ⊥) → Fit c d → next ≡ head_off c (d.waiting - 1) d → Fit c next
fit_next c d next some h is_off = subst (Fit c) (sym is_off) (head_off_fit c (d.waiting - 1) d (one_less d.waiting some) h)

pub head_bytes : (c : Clock) (d : Desk) → (d.waiting ≡ 0 → ⊥) → Fit c d
    → ByteSets (get_or (waiting_words d.book 0) 1 0) (get_or (waiting_words d.book 0) 4 0) (get_or (waiting_words d.book 0) 5 0)
unfolding entry_at
head_bytes c d some h =
    let good = waiting_entry_good c.partitions c.own c.dc d.waiting d.book d.sums h.sound.entries_good 0 (omega arith) in
    entry_bytes c.partitions c.own c.dc (waiting_words d.book 0) _ h.sound.sizes.few_partitions good

pub fit_kept : (c : Clock) (d : Desk) → Fit c d → KeptGood d.sc d.book
unfolding books_view
fit_kept c d h = kept_good d.sc d.book d.sums h.sound.kept_good

pub record FitNumbers (c : Clock) (d : Desk) : Type 0 where
  pub own_fits : c.own < 8
  pub list_fits : d.waiting ≤ 32
  pub sc_fits : d.sc + d.waiting ≤ 4000000000
  pub told_fits : d.finished + d.waiting ≤ 32

pub fit_numbers : (c : Clock) (d : Desk) → Fit c d → FitNumbers c d
unfolding books_view
fit_numbers c d h =
    let ours = h.sound.sizes.own_opened in
    let few = h.sound.sizes.few_partitions in
    let list = h.sound.list_fits in
    let sum = h.sound.sum_fits in
    let dc = h.sound.dc_fits in
    let n = length_waiting d.waiting d.book d.sums in
    record { own_fits = omega arith; list_fits = omega arith; sc_fits = omega arith; told_fits = h.few_told }

-- One fewer waits behind a head that is taken off.
pub off_falls : (c : Clock) (d next : Desk) (m : ℕ) → d.waiting ≡ m → (d.waiting ≡ 0 → ⊥) → next ≡ head_off c (d.waiting - 1) d → next.waiting < m
off_falls c d next m is_m some is_off =
    let left : next.waiting ≡ d.waiting - 1 = ap (λ (e : Desk). e.waiting) is_off ∙ head_off_waiting c (d.waiting - 1) d in
    omega arith

-- An event settled: what closing and then storing the counters leave.
pub settles : (c : Clock) (d r : Desk) {after : List ℕ} → r ≡ closed_desk c d → after ≡ put r.book 2 (r.sc ∷ c.dc ∷ c.k ∷ r.waiting ∷ [])
    → (r.finished ≡ (closed_desk c d).finished)
    × ((after ≡ settled_book c d) × ((r.sums ≡ (closed_desk c d).sums) × (r.finishes ≡ (closed_desk c d).finishes)))
unfolding settled_book with_counters
settles c d r is_closed stored = (
  ap (λ (e : Desk). e.finished) is_closed,
  (
    stored ∙ ap (λ (e : Desk). put e.book 2 (e.sc ∷ c.dc ∷ c.k ∷ e.waiting ∷ [])) is_closed,
    (ap (λ (e : Desk). e.sums) is_closed, ap (λ (e : Desk). e.finishes) is_closed),
  ),
)
