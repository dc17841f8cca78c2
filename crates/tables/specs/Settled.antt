-- An event settled on the tables: the list is closed, then the counters are stored. The state that the tables then hold is what the rules' closing leaves.
use Rattle.std.specs.Prelude.{ℕ, zero, suc, ◌+◌, ◌*◌, ◌≤◌, ◌<◌, ◌≡◌, length}
use mathlib.Core.List.{List}
use Rattle.std.proofs.Math.Path.{refl}
use Rattle.std.proofs.Common.{sym, ap, ◌∙◌}
use native.Mathlib.Omega.{arith}
use Rattle.std.proofs.Math.ListN.{get_or}
use Rattle.rules.specs.Ledger.{Clock}
use Rattle.rules.specs.Closing.{ready, commits, close}
use Rattle.rules.specs.Events.{Answer, closing}
use Rattle.laws.specs.Tests.{split}
use Rattle.laws.specs.Cuts.{cut, put, get_or_cut, cut_put_below}
use Rattle.tables.specs.Layout.{book_words, waiting_row, kept_row}
use Rattle.tables.specs.View.{waiting_view, books_view, view}
use Rattle.tables.specs.TakenOff.{off_book}
use Rattle.tables.specs.Keeping.{committed_book, kept_book, length_committed}
use Rattle.tables.specs.Closed.{Desk, Fit, head_of, kept_desk, told_desk, off_desk, head_off, head_off_fit, head_off_waiting, close_desk, words_of, Closes, close_desk_closes}
use Rattle.tables.specs.Counters.{with_counters, length_counters, counters_view}

-- Closing leaves the first six words as they were.
committed_counters : (book : List ℕ) (sc : ℕ) → book_words ≤ length book → cut 0 6 (committed_book book sc) ≡ cut 0 6 book
unfolding committed_book kept_book
committed_counters book sc long = cut_put_below 0 6 book (kept_row (sc + 1)) (cut (waiting_row 0) 24 book) (omega arith) (omega arith)

head_off_counters : (c : Clock) (n : ℕ) (d : Desk) → d.waiting ≡ suc n → Fit c d → cut 0 6 (head_off c n d).book ≡ cut 0 6 d.book
unfolding head_off off_desk kept_desk told_desk off_book
head_off_counters c n d one h =
    let long = h.long in
    split (commits c (head_of d))
    (λ q. rw q (cut_put_below 0 6 (committed_book d.book d.sc) (waiting_row 0) _ (omega arith) (omega (arith, length_committed d.book d.sums d.sc long h.long_sums))
    ∙ committed_counters d.book d.sc long))
    (λ q. rw q (cut_put_below 0 6 d.book (waiting_row 0) _ (omega arith) (omega arith)))

close_counters : (c : Clock) (n : ℕ) (d : Desk) → d.waiting ≡ n → Fit c d → cut 0 6 (close_desk c n d).book ≡ cut 0 6 d.book
unfolding close_desk
close_counters c zero d none h = refl
close_counters c (suc n) d one h =
    split (ready c (head_of d))
    (λ q. rw q (close_counters c n (head_off c n d) (head_off_waiting c n d) (head_off_fit c n d one h) ∙ head_off_counters c n d one h))
    (λ q. rw q)

-- The desk closed, and the counters stored.
unfoldable pub closed_desk : Clock → Desk → Desk
closed_desk c d = close_desk c d.waiting d

unfoldable pub settled_book : Clock → Desk → List ℕ
settled_book c d = with_counters (closed_desk c d).book (closed_desk c d).sc c.dc c.k (closed_desk c d).waiting

-- A desk on which nothing was told yet, at a clock with the table's own sizes.
pub record Ready (c : Clock) (d : Desk) : Type 0 where
  pub fit : Fit c d
  pub untold : d.finished ≡ 0
  pub partitions : get_or d.book 0 0 ≡ c.partitions
  pub own : get_or d.book 1 0 ≡ c.own

module _ (c : Clock) (d : Desk) (h : Ready c d) where
  closes : Closes c d (closed_desk c d) (close c (waiting_view d.waiting d.book d.sums) (books_view d.sc d.book d.sums))
  unfolding closed_desk
  closes = close_desk_closes c d.waiting d refl h.fit

  counter_kept : (j : ℕ) → j < 6 → get_or (closed_desk c d).book j 0 ≡ get_or d.book j 0
  unfolding closed_desk
  counter_kept j low =
      let e : 0 + j ≡ j = omega arith in
      rw e at (sym (get_or_cut 0 6 (close_desk c d.waiting d).book j 0 low)
      ∙ (ap (λ (l : List ℕ). get_or l j 0) (close_counters c d.waiting d refl h.fit) ∙ get_or_cut 0 6 d.book j 0 low))

  closed_long : book_words ≤ length (closed_desk c d).book
  closed_long = rw closes.same_length h.fit.long

  pub length_settled : length (settled_book c d) ≡ length d.book
  unfolding settled_book
  length_settled =
      length_counters (closed_desk c d).book (closed_desk c d).sums (closed_desk c d).sc c.dc c.k (closed_desk c d).waiting closed_long
      ∙ closes.same_length

  -- the state after the event
  pub settled_view : (a : Answer) → view (settled_book c d) (closed_desk c d).sums
      ≡ (closing a c (waiting_view d.waiting d.book d.sums) (books_view d.sc d.book d.sums)).next
  unfolding settled_book closing
  settled_view a =
      counters_view (closed_desk c d).book (closed_desk c d).sums (closed_desk c d).sc c.dc c.k (closed_desk c d).waiting closed_long
      ∙ (λ i. record {
        clock = record {
          partitions = (counter_kept 0 (omega arith) ∙ h.partitions) i;
          own = (counter_kept 1 (omega arith) ∙ h.own) i;
          dc = c.dc;
          k = c.k;
        };
        waiting = closes.list i;
        books = closes.books i;
      })

  -- the finish list, and how many finishes it holds
  pub settled_finishes : (closed_desk c d).finishes
      ≡ put d.finishes 0 (words_of (close c (waiting_view d.waiting d.book d.sums) (books_view d.sc d.book d.sums)).finishes)
  settled_finishes = closes.told ∙ ap (λ (m : ℕ). put d.finishes (2 * m) (words_of (close c (waiting_view d.waiting d.book d.sums) (books_view d.sc d.book d.sums)).finishes)) h.untold

  pub settled_count : (closed_desk c d).finished
      ≡ length (close c (waiting_view d.waiting d.book d.sums) (books_view d.sc d.book d.sums)).finishes
  settled_count = let none = h.untold in let counted = closes.counted in omega arith
