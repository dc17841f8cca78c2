-- "A longer lent table is taken and its excess never touched.", of a log given in pieces: whatever the tables hold, what stands behind the state's words and amounts stays.
use Rattle.std.specs.Prelude.{ℕ, List, [], ◌∷◌, ◌++◌, ◌≡◌, refl, ℤ, length, drop}
use Rattle.std.proofs.Common.{◌∙◌}
use Rattle.tables.specs.Layout.{book_words, sums_words}
use Rattle.feed.specs.declared.Standing.{Standing}
use Rattle.feed.specs.Feeding.{fed}
use Rattle.feed.specs.Excess.{fed_excess}
use Rattle.promises.specs.Callers.{Piece, Run, run, beginning, Caller, at_the_end}

pub record RunExcessKept (old : List ℕ) (old_sums : List ℤ) (r : Run) : Type 0 where
  pub book : drop book_words r.book ≡ drop book_words old
  pub sums : drop sums_words r.sums ≡ drop sums_words old_sums
  pub book_length : length r.book ≡ length old
  pub sums_length : length r.sums ≡ length old_sums

run_excess : (pieces : List Piece) (left : List ℕ) (p : Standing) (book : List ℕ) (sums : List ℤ) → RunExcessKept book sums (run pieces left p book sums)
unfolding run
run_excess [] left p book sums = record { book = refl; sums = refl; book_length = refl; sums_length = refl }
run_excess (x ∷ xs) left p book sums =
    let a = fed x.at_end p (left ++ x.bytes) book sums x.buffer in
    let one = fed_excess x.at_end p (left ++ x.bytes) book sums x.buffer in
    let more = run_excess xs (drop a.taken (left ++ x.bytes)) a.standing a.book a.sums in
    record {
      book = more.book ∙ one.book;
      sums = more.sums ∙ one.sums;
      book_length = more.book_length ∙ one.book_length;
      sums_length = more.sums_length ∙ one.sums_length;
    }

pub log_excess : (c : Caller) → RunExcessKept c.book c.sums (at_the_end c)
log_excess c = run_excess c.pieces [] beginning c.book c.sums
