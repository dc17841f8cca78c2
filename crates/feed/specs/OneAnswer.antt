-- No second answer to a chunk: whatever two calls of `feed` leave, if both meet its contract on the same arguments, they leave the same.
use Rattle.std.specs.Prelude.{ℕ, Bool, List, ◌≡◌, ℤ}
use Rattle.std.proofs.Common.{sym, ap, ◌∙◌}
use Rattle.feed.specs.declared.Standing.{Standing}
use Rattle.feed.specs.declared.Fed.{Fed}
use Rattle.feed.specs.Feeding.{After, fed}
use Rattle.feed.specs.Ending.{leaves}

pub record Same (r : Fed) (book : List ℕ) (sums : List ℤ) (out : List ℕ) (r' : Fed) (book' : List ℕ) (sums' : List ℤ) (out' : List ℕ) : Type 0 where
  pub answers : r ≡ r'
  pub books : book ≡ book'
  pub amounts : sums ≡ sums'
  pub texts : out ≡ out'

abbrev answer_of : After → Fed
answer_of a = record { taken = a.taken; wrote = a.wrote; full = a.full; standing = a.standing }

pub one_feed : {r r' : Fed} {book book' : List ℕ} {sums sums' : List ℤ} {out out' : List ℕ}
    (at_end : Bool) (p : Standing) (input old : List ℕ) (old_sums : List ℤ) (old_out : List ℕ)
    → leaves r book sums out ≡ fed at_end p input old old_sums old_out
    → leaves r' book' sums' out' ≡ fed at_end p input old old_sums old_out
    → Same r book sums out r' book' sums' out'
one_feed {r} {r'} {book} {book'} {sums} {sums'} {out} {out'} at_end p input old old_sums old_out one other =
    let e : leaves r book sums out ≡ leaves r' book' sums' out' = one ∙ sym other in
    record {
      answers = ap answer_of e;
      books = ap (λ (a : After). a.book) e;
      amounts = ap (λ (a : After). a.sums) e;
      texts = ap (λ (a : After). a.out) e;
    }
