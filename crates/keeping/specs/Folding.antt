-- A kept row's writes folded into the values, from the last write to the first: the rule `written` read from behind.
use Rattle.std.specs.Prelude.{ℕ, suc, ◌+◌, ◌-◌, ◌*◌, ◌%◌, ◌≤◌, ◌<◌, ◌≡◌, ℤ, pos, length, take}
use mathlib.Core.List.{List, [], ◌∷◌, ◌++◌}
use Rattle.std.proofs.Math.Path.{sym, ap}
use Rattle.std.proofs.Common.{ap₂, ◌∙◌, arith, le-leb, drop_of_length-le, take-append-drop, drop-cons, length-take-le}
use Rattle.std.proofs.lemmas.Bool.{lt-leb}
use Rattle.std.proofs.Math.ListN.{drop, get_or, set, length-set}
use Rattle.std.proofs.lemmas.List.{set-append_left}
use Rattle.rules.specs.Sizes.{keys, most_kept}
use Rattle.rules.specs.Ledger.{Write}
use Rattle.rules.specs.Closing.{written}
use Rattle.laws.specs.Cuts.{cut, put, get_or_cut, length_cut, get_or_put_above}
use Rattle.laws.specs.Tabs.{tab, length_tab, get_or_tab}
use Rattle.claims.specs.SoundKept.{length_written}
use Rattle.tables.specs.Layout.{sums_words, waiting_row, waiting_amounts, kept_amounts}
use Rattle.tables.specs.Rows.{row_keys, row_writes}
use Rattle.tables.specs.View.{kept_words, values_view}
use Rattle.tables.specs.Keeping.{folded_sums, evicted_sums, kept_book, kept_sums, committed_book, committed_sums}
use Rattle.tables.specs.Good.{GoodRow, length_row_keys}

-- The writes of the kept row.
abbrev row_of : List ℕ → List ℤ → ℕ → List Write
row_of book sums v = row_writes (kept_words book v) (cut (kept_amounts v) 8 sums)

-- All writes but the first j are in the values of t, which was sums.
pub record Folding (book : List ℕ) (sums : List ℤ) (v : ℕ) (t : List ℤ) (j : ℕ) : Type 0 where
  pub most : j ≤ get_or (kept_words book v) 7 0
  pub done : t ≡ put sums 0 (written (drop j (row_of book sums v)) (values_view sums))

-- The first of some writes, and the rest.
write_at : List ℕ → List ℤ → ℕ → Write
write_at w a i = record { key = get_or w (16 + i) 0; value = get_or a i (pos 0) }

writes_from : (w : List ℕ) (a : List ℤ) (i j : ℕ) → suc i ≡ j → i < get_or w 7 0 → drop i (row_writes w a) ≡ write_at w a i ∷ drop j (row_writes w a)
unfolding row_writes write_at
writes_from w a i j e low =
    let ws = tab (get_or w 7 0) (write_at w a) in
    drop-cons ws i (write_at w a 0) (rw (length_tab (get_or w 7 0) (write_at w a)) low)
    ∙ ap₂ (λ (x : Write) (k : ℕ). x ∷ drop k ws) (get_or_tab (get_or w 7 0) (write_at w a) i (write_at w a 0) low) e

none_left : (w : List ℕ) (a : List ℤ) (n : ℕ) → n ≡ get_or w 7 0 → drop n (row_writes w a) ≡ []
unfolding row_writes write_at
none_left w a n e =
    let all : length (tab (get_or w 7 0) (write_at w a)) ≤ n = omega (arith, length_tab (get_or w 7 0) (write_at w a)) in
    drop_of_length-le (tab (get_or w 7 0) (write_at w a)) all

-- The values laid in again leave the table as it is; a store into them is a store into what is laid in.
values_back : (l : List ℤ) (n : ℕ) → n ≤ length l → put l 0 (cut 0 n l) ≡ l
unfolding put cut
values_back l n fits =
    let e : 0 + length (take n l) ≡ n = omega (arith, length-take-le n l fits) in
    ap (λ (k : ℕ). take n l ++ drop k l) e ∙ take-append-drop n l

set_values : (l s : List ℤ) (i : ℕ) (x : ℤ) → i < length s → set (put l 0 s) i x ≡ put l 0 (set s i x)
unfolding put
set_values l s i x low =
    set-append_left s (drop (0 + length s) l) i x low ∙ ap (λ (n : ℕ). set s i x ++ drop (0 + n) l) (sym (length-set s i x))

length_values : (ws : List Write) (sums : List ℤ) → sums_words ≤ length sums → length (written ws (values_view sums)) ≡ keys
unfolding values_view
length_values ws sums long = length_written ws (cut 0 keys sums) ∙ length_cut 0 keys sums (omega arith)

module _ {book : List ℕ} {sums : List ℤ} {v : ℕ} (good : GoodRow (kept_words book v)) (long : sums_words ≤ length sums) where
  pub fold_start : Folding book sums v sums (length (row_keys (kept_words book v)))
  unfolding written values_view
  fold_start =
      let w = kept_words book v in
      let a = cut (kept_amounts v) 8 sums in
      let all = length_row_keys w in
      record {
        most = omega arith;
        done = sym (ap (λ (ws : List Write). put sums 0 (written ws (values_view sums))) (none_left w a (length (row_keys w)) all) ∙ values_back sums keys (omega arith));
      }

  -- the last of the writes that are left goes under those stored before
  pub fold_step : {t : List ℤ} {j : ℕ} (key slot : ℕ) (x : ℤ) → Folding book sums v t j → 0 < j → key ≡ get_or (row_keys (kept_words book v)) (j - 1) 0
      → slot ≡ v % 64 → x ≡ get_or t (1280 + 8 * slot + (j - 1)) (pos 0) → Folding book sums v (set t key x) (j - 1)
  unfolding written write_at row_keys
  fold_step {t} {j} key slot x kept some e_key e_slot e_x =
      let most = kept.most in let few = good.few_keys in
      let w = kept_words book v in
      let a = cut (kept_amounts v) 8 sums in
      let ws = drop j (row_writes w a) in
      let vs = written ws (values_view sums) in
      let values = length_values ws sums long in
      let counted = length_row_keys w in
      let low : key < keys = omega (arith, e_key, good.keys_good.low (j - 1) (omega arith)) in
      let this_key : key ≡ get_or w (16 + (j - 1)) 0 = e_key ∙ get_or_tab (get_or w 7 0) (λ i. get_or w (16 + i) 0) (j - 1) 0 (omega arith) in
      let this_value : x ≡ get_or a (j - 1) (pos 0) =
      e_x
      ∙ (ap (λ (k : ℕ). get_or t (1280 + 8 * k + (j - 1)) (pos 0)) e_slot
      ∙ (ap (λ (l : List ℤ). get_or l (kept_amounts v + (j - 1)) (pos 0)) kept.done
      ∙ (get_or_put_above sums 0 vs (kept_amounts v + (j - 1)) (pos 0) (omega arith) (omega arith)
      ∙ sym (get_or_cut (kept_amounts v) 8 sums (j - 1) (pos 0) (omega arith))))) in
      record {
        most = omega arith;
        done =
            ap (λ (l : List ℤ). set l key x) kept.done
            ∙ (set_values sums vs key x (omega arith)
            ∙ ap (put sums 0)
            (ap₂ (set vs) this_key this_value
            ∙ sym (ap (λ (l : List Write). written l (values_view sums)) (writes_from w a (j - 1) j (omega arith) (omega arith)))));
      }

pub fold_end : {book : List ℕ} {sums t : List ℤ} {v j : ℕ} → Folding book sums v t j → j ≤ 0 → t ≡ folded_sums book sums v
unfolding folded_sums
fold_end {book} {sums} {t} {v} {j} kept all =
    let none : j ≡ 0 = omega arith in
    kept.done ∙ ap (λ (k : ℕ). put sums 0 (written (drop k (row_of book sums v)) (values_view sums))) none

-- Below 64 commits none is folded in; from there on it is the oldest kept, which stands where version sc + 1 will be kept.
pub none_evicted : (book : List ℕ) (sums : List ℤ) (sc : ℕ) → sc < 64 → sums ≡ evicted_sums book sums sc
unfolding evicted_sums
none_evicted book sums sc few = rw (lt-leb most_kept sc few)

pub one_evicted : {out : List ℤ} (book : List ℕ) (sums : List ℤ) (sc : ℕ) → 64 ≤ sc → out ≡ folded_sums book sums (sc - 64 + 1) → out ≡ evicted_sums book sums sc
unfolding evicted_sums folded_sums kept_words
one_evicted book sums sc full e =
    let same : (sc - 64 + 1) % 64 ≡ (sc + 1) % 64 = omega arith in
    rw (le-leb most_kept sc full)
    (e ∙ ap (λ (slot : ℕ). put sums 0 (written (row_writes (cut (774 + 24 * slot) 24 book) (cut (1280 + 8 * slot) 8 sums)) (values_view sums))) same)

-- The head's row and amounts at the kept row of the new version.
pub row_kept : {out : List ℕ} (book : List ℕ) (sc slot : ℕ) → slot ≡ (sc + 1) % 64 → out ≡ put book (774 + 24 * slot) (cut (waiting_row 0) 24 book)
    → out ≡ committed_book book sc
unfolding committed_book kept_book
row_kept book sc slot e moved = rw e at moved

pub sums_kept : {mid out : List ℤ} (book : List ℕ) (sums : List ℤ) (sc slot : ℕ) → mid ≡ evicted_sums book sums sc → slot ≡ (sc + 1) % 64
    → out ≡ put mid (1280 + 8 * slot) (cut (waiting_amounts 0) 8 mid) → out ≡ committed_sums book sums sc
unfolding committed_sums kept_sums
sums_kept book sums sc slot evicted e moved = rw (e, evicted) at moved
