-- Closing and settling on longer tables and a longer finish list: the same, with what stands behind them left there.
use Rattle.std.specs.Prelude.{ℕ, zero, suc, ◌+◌, ◌*◌, ◌≤◌, ◌<◌, ◌≡◌, refl, ℤ, length}
use mathlib.Core.List.{List, ◌++◌}
use Rattle.std.proofs.Common.{ap, ◌∙◌, arith}
use Rattle.rules.specs.Ledger.{Clock}
use Rattle.rules.specs.Closing.{ready, commits, Finish, finish}
use Rattle.laws.specs.Tests.{split}
use Rattle.laws.specs.Cuts.{put, put_longer}
use Rattle.tables.specs.Layout.{book_words, sums_words}
use Rattle.tables.specs.View.{length_waiting, books_view}
use Rattle.tables.specs.TakenOff.{off_book, off_sums}
use Rattle.tables.specs.Keeping.{committed_book, committed_sums, length_committed, length_committed_sums}
use Rattle.tables.specs.Closed.{Desk, Fit, head_of, entry_words, kept_desk, told_desk, off_desk, head_off, head_off_waiting, head_off_fit, close_desk, close_desk_closes}
use Rattle.tables.specs.Settled.{Ready, closed_desk, settled_book}
use Rattle.tables.specs.Longer.{entry_longer, books_longer, off_longer, off_sums_longer, committed_longer, committed_sums_longer, counters_longer}

module _ (x : List ℕ) (y : List ℤ) (z : List ℕ) where
  -- the same desk on longer tables
  abbrev pub longer_desk : Desk → Desk
  longer_desk d =
      record { sc = d.sc; waiting = d.waiting; finished = d.finished; book = d.book ++ x; sums = d.sums ++ y; finishes = d.finishes ++ z }

  module _ (c : Clock) (n : ℕ) (d : Desk) (one : d.waiting ≡ suc n) (h : Fit c d) where
    few : n < 32
    few = let fits = h.sound.list_fits in omega (arith, length_waiting d.waiting d.book d.sums)

    head_longer : head_of (longer_desk d) ≡ head_of d
    head_longer = entry_longer d.book x d.sums y h.long h.long_sums 0 (omega arith)

    entry_fits : (f : Finish) → 2 * d.finished + length (entry_words f) ≤ length d.finishes
    unfolding entry_words
    entry_fits f = let room = h.room in omega arith

    told_longer : put (d.finishes ++ z) (2 * d.finished) (entry_words (finish c (head_of d) (books_view d.sc d.book d.sums)))
        ≡ put d.finishes (2 * d.finished) (entry_words (finish c (head_of d) (books_view d.sc d.book d.sums))) ++ z
    told_longer = put_longer d.finishes z (2 * d.finished) _ (entry_fits (finish c (head_of d) (books_view d.sc d.book d.sums)))

    -- the tables without the head, which committed
    next_book : off_book (committed_book (d.book ++ x) d.sc) n ≡ off_book (committed_book d.book d.sc) n ++ x
    next_book =
        let l = length_committed d.book d.sums d.sc h.long h.long_sums in
        let m = length_committed_sums d.book d.sums d.sc h.long h.long_sums in
        ap (λ (b : List ℕ). off_book b n) (committed_longer d.book x d.sums y h.long h.long_sums d.sc)
        ∙ off_longer (committed_book d.book d.sc) x (committed_sums d.book d.sums d.sc) y (rw l h.long) (rw m h.long_sums) n few

    next_sums : off_sums (committed_sums (d.book ++ x) (d.sums ++ y) d.sc) n ≡ off_sums (committed_sums d.book d.sums d.sc) n ++ y
    next_sums =
        let l = length_committed d.book d.sums d.sc h.long h.long_sums in
        let m = length_committed_sums d.book d.sums d.sc h.long h.long_sums in
        ap (λ (s : List ℤ). off_sums s n) (committed_sums_longer d.book x d.sums y h.long h.long_sums d.sc)
        ∙ off_sums_longer (committed_book d.book d.sc) x (committed_sums d.book d.sums d.sc) y (rw l h.long) (rw m h.long_sums) n few

    head_off_longer : head_off c n (longer_desk d) ≡ longer_desk (head_off c n d)
    unfolding head_off off_desk kept_desk told_desk
    head_off_longer =
        rw (head_longer, books_longer d.book x d.sums y h.long h.long_sums d.sc)
        (split (commits c (head_of d))
        (λ q. rw q (λ i. record {
          sc = d.sc + 1;
          waiting = n;
          finished = d.finished + 1;
          book = next_book i;
          sums = next_sums i;
          finishes = told_longer i;
        }))
        (λ q. rw q (λ i. record {
          sc = d.sc;
          waiting = n;
          finished = d.finished + 1;
          book = off_longer d.book x d.sums y h.long h.long_sums n few i;
          sums = off_sums_longer d.book x d.sums y h.long h.long_sums n few i;
          finishes = told_longer i;
        })))

  close_longer : (c : Clock) (n : ℕ) (d : Desk) → d.waiting ≡ n → Fit c d → close_desk c n (longer_desk d) ≡ longer_desk (close_desk c n d)
  unfolding close_desk
  close_longer c zero d none h = refl
  close_longer c (suc n) d one h =
      rw (head_longer c n d one h)
      (split (ready c (head_of d))
      (λ q. rw (q, head_off_longer c n d one h) (close_longer c n (head_off c n d) (head_off_waiting c n d) (head_off_fit c n d one h)))
      (λ q. rw q))

  module _ (c : Clock) (d : Desk) (h : Ready c d) where
    pub closed_longer : closed_desk c (longer_desk d) ≡ longer_desk (closed_desk c d)
    unfolding closed_desk
    closed_longer = close_longer c d.waiting d refl h.fit

    closed_long : book_words ≤ length (closed_desk c d).book
    unfolding closed_desk
    closed_long = rw ((close_desk_closes c d.waiting d refl h.fit).same_length) h.fit.long

    closed_long_sums : sums_words ≤ length (closed_desk c d).sums
    unfolding closed_desk
    closed_long_sums = rw ((close_desk_closes c d.waiting d refl h.fit).same_length_sums) h.fit.long_sums

    pub settled_longer : settled_book c (longer_desk d) ≡ settled_book c d ++ x
    unfolding settled_book
    settled_longer =
        let e = closed_desk c d in
        rw closed_longer (counters_longer e.book x e.sums y closed_long closed_long_sums e.sc c.dc c.k e.waiting)
