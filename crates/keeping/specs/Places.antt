-- Where a key stands in a list of keys, and that this is where a row's writes put its value.
use Rattle.std.specs.Prelude.{ℕ, zero, suc, ◌+◌, ◌<◌, List, ◌≡◌, refl, eqb, Some, None, position, ℤ, pos, get_or}
use Rattle.std.specs.List.{position_from}
use Rattle.std.specs.declared.option.Option as code
use Rattle.std.proofs.Math.Option.{Option, none, some}
use Rattle.std.proofs.Common.{sym, ap, ◌∙◌, arith}
use Rattle.std.proofs.lemmas.Iterator.Adapters.{position_from-zero}
use Rattle.rules.specs.Read.{put_at}
use Rattle.laws.specs.Tests.{split}
use Rattle.laws.specs.Cuts.{cut, get_or_cut}
use Rattle.laws.specs.Tabs.{tab, tab_same}
use Rattle.laws.specs.Options.{given}
use Rattle.tables.specs.Layout.{kept_amounts}
use Rattle.tables.specs.Rows.{row_keys, row_writes, row_commit}
use Rattle.tables.specs.View.{kept_words, commit_at}

-- What stands at a place, if there is one.
abbrev pub value_at : (ℕ → ℤ) → code.Option ℕ → Option ℤ
value_at g None = none
value_at g (Some k) = some (g k)

shift : (o j : ℕ) → o + suc j ≡ o + 1 + j
shift o j = omega arith

put_at_place : (key o n : ℕ) (f : ℕ → ℕ) (g : ℕ → ℤ)
    → put_at key (tab n (λ j. record { key = f j; value = g (o + j) })) ≡ value_at g (position_from (eqb key) o (tab n f))
unfolding put_at tab
put_at_place key o zero f g = refl
put_at_place key o (suc n) f g =
    let first : o + 0 ≡ o = omega arith in
    split (eqb key (f 0))
    (λ q. rw q (ap (λ (k : ℕ). some (g k)) first))
    (λ q. rw q
    (ap (put_at key)
    (tab_same n (λ j. record { key = f (suc j); value = g (o + suc j) }) (λ j. record { key = f (suc j); value = g (o + 1 + j) })
    (λ j low i. record { key = f (suc j); value = g (shift o j i) }))
    ∙ put_at_place key (o + 1) n (λ j. f (suc j)) g))

pub row_put : (w : List ℕ) (a : List ℤ) (key : ℕ)
    → put_at key (row_writes w a) ≡ value_at (λ j. get_or a j (pos 0)) (position (eqb key) (row_keys w))
unfolding row_writes row_keys
row_put w a key =
    let none_before : (j : ℕ) → j ≡ 0 + j = λ j. omega arith in
    ap (put_at key)
    (tab_same (get_or w 7 0) (λ j. record { key = get_or w (16 + j) 0; value = get_or a j (pos 0) })
    (λ j. record { key = get_or w (16 + j) 0; value = get_or a (0 + j) (pos 0) })
    (λ j low i. record { key = get_or w (16 + j) 0; value = get_or a (none_before j i) (pos 0) }))
    ∙ (put_at_place key 0 (get_or w 7 0) (λ j. get_or w (16 + j) 0) (λ j. get_or a j (pos 0))
    ∙ ap (value_at (λ j. get_or a j (pos 0))) (sym (position_from-zero (eqb key) (row_keys w))))

-- So a version put at a key what stands among its amounts at the key's place, and nothing where the key has none.
module _ (book : List ℕ) (sums : List ℤ) (key version : ℕ) where
  pub put_nothing : None ≡ position (eqb key) (row_keys (kept_words book version)) → None ≡ given (put_at key (commit_at book sums version).writes)
  unfolding commit_at row_commit
  put_nothing e = rw (row_put (kept_words book version) (cut (kept_amounts version) 8 sums) key, sym e)

  pub put_value : (place : ℕ) → Some place ≡ position (eqb key) (row_keys (kept_words book version)) → place < 8
      → Some (get_or sums (kept_amounts version + place) (pos 0)) ≡ given (put_at key (commit_at book sums version).writes)
  unfolding commit_at row_commit
  put_value place e low =
      rw (row_put (kept_words book version) (cut (kept_amounts version) 8 sums) key, sym e)
      (ap Some (sym (get_or_cut (kept_amounts version) 8 sums place (pos 0) low)))
