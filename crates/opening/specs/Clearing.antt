-- What is left where a part of a table was filled with one element; and the opened tables, made so.
use Rattle.std.specs.Prelude.{ℕ, ◌+◌, ◌≤◌, List, [], ◌∷◌, ◌≡◌, ℤ, pos, length, take, drop, replicate}
use Rattle.std.proofs.Common.{refl, ap, ◌∙◌, arith}
use Rattle.std.proofs.lemmas.Slice.{put_mid-paste}
use Rattle.std.proofs.lemmas.List.Edits.{paste_all}
use borrow.Rule.Slice.PartMut.{put_mid}
use Rattle.laws.specs.Cuts.{cut, put, length_cut, length_put, put_put}
use Rattle.tables.specs.Layout.{book_words, sums_words}
use Rattle.tables.specs.Opened.{blank, length_blank, opened_words, opened_book, opened_sums}

module _ {A : Type 0} where
  all_blank : {part : List A} (l : List A) (at n : ℕ) (x : A) → at + n ≤ length l → part ≡ replicate (length (take n (drop at l))) x → part ≡ blank n x
  unfolding blank cut
  all_blank l at n x fits e = e ∙ ap (λ (k : ℕ). replicate k x) (length_cut at n l fits)

  filled : {part : List A} (l : List A) (at n : ℕ) (x : A) → at + n ≤ length l → part ≡ replicate (length (take n (drop at l))) x
      → put_mid at n l part ≡ put l at (blank n x)
  unfolding put
  filled {part} l at n x fits e =
      let blanks = blank n x in
      put_mid-paste at n l part blanks (length blanks) (all_blank l at n x fits e) (length_blank n x) refl ∙ paste_all l at blanks (length blanks) refl

-- The counters, and the words behind them cleared.
pub book_opened : (book laid part out : List ℕ) (partitions own k : ℕ) → book_words ≤ length book → laid ≡ put book 0 (partitions ∷ own ∷ 0 ∷ 0 ∷ k ∷ 0 ∷ [])
    → part ≡ replicate (length (take 2304 (drop 6 laid))) 0 → out ≡ put_mid 6 2304 laid part → out ≡ opened_book book partitions own k
unfolding opened_book opened_words
book_opened book laid part out partitions own k long stored e filled_out =
    let counters = partitions ∷ own ∷ 0 ∷ 0 ∷ k ∷ 0 ∷ [] in
    let l : length laid ≡ length book = ap length stored ∙ length_put book 0 counters (omega arith) in
    filled_out ∙ (filled laid 6 2304 0 (omega arith) e
    ∙ (ap (λ (t : List ℕ). put t 6 (blank 2304 0)) stored ∙ put_put book 0 counters (blank 2304 0) 6 refl (omega arith)))

-- The amounts cleared.
pub sums_opened : {part : List ℤ} (sums : List ℤ) → sums_words ≤ length sums → part ≡ replicate (length (take 1792 sums)) (pos 0)
    → put_mid 0 1792 sums part ≡ opened_sums sums
unfolding opened_sums
sums_opened sums long e = filled sums 0 1792 (pos 0) (omega arith) e
