-- A row laid into a table: eight words, then the keys read, then the keys written. What it says, and that no other row sees it.
use Rattle.std.specs.Prelude.{ℕ, ◌+◌, ◌≤◌, ◌<◌, List, [], ◌∷◌, ◌≡◌, ℤ, pos, length, get_or}
use Rattle.std.proofs.Math.Path.{refl}
use Rattle.std.proofs.Common.{sym, ap, ◌∙◌, arith}
use Rattle.rules.specs.Partitions.{none_heard}
use Rattle.rules.specs.Ledger.{Write, Entry}
use Rattle.laws.specs.Cuts.{cut, put, length_put, cut_put_below, cut_put_above, cut_put_same, get_or_cut}
use Rattle.laws.specs.Tabs.{tab, tab_same, tab_list}
use Rattle.tables.specs.Rows.{row_reads, row_writes, row_transaction, row_entry}

-- The eight words of a newcomer without votes.
abbrev pub first_words : ℕ → ℕ → ℕ → ℕ → List ℕ → List ℕ → List ℕ
first_words identity set st rt reads keys = identity ∷ set ∷ st ∷ rt ∷ 0 ∷ 0 ∷ length reads ∷ length keys ∷ []

unfoldable pub with_row : List ℕ → ℕ → List ℕ → List ℕ → List ℕ → List ℕ
with_row book o first reads keys = put (put (put book o first) (o + 8) reads) (o + 16) keys

-- Writes as two lists of one length.
unfoldable pub writes_of : List ℕ → List ℤ → List Write
writes_of keys amounts = tab (length keys) (λ j. record { key = get_or keys j 0; value = get_or amounts j (pos 0) })

pub record RowFits (book : List ℕ) (o : ℕ) (first reads keys : List ℕ) : Type 0 where
  pub fits : o + 24 ≤ length book
  pub eight : length first ≡ 8
  pub few_reads : length reads ≤ 8
  pub few_keys : length keys ≤ 8

module _ (book : List ℕ) (o : ℕ) (first reads keys : List ℕ) (h : RowFits book o first reads keys) where
  one : List ℕ
  one = put book o first

  two : List ℕ
  two = put one (o + 8) reads

  length_one : length one ≡ length book
  unfolding one
  length_one = let fits = h.fits in let eight = h.eight in length_put book o first (omega arith)

  length_two : length two ≡ length book
  unfolding two
  length_two = let fits = h.fits in let few = h.few_reads in let l = length_one in length_put one (o + 8) reads (omega arith) ∙ l

  pub length_with_row : length (with_row book o first reads keys) ≡ length book
  unfolding with_row two one
  length_with_row = let fits = h.fits in let few = h.few_keys in let l = length_two in length_put two (o + 16) keys (omega arith) ∙ l

  pub with_row_below : (x n : ℕ) → x + n ≤ o → cut x n (with_row book o first reads keys) ≡ cut x n book
  unfolding with_row two one
  with_row_below x n low =
      let fits = h.fits in let l = length_one in let m = length_two in
      cut_put_below x n two (o + 16) keys (omega arith) (omega arith)
      ∙ (cut_put_below x n one (o + 8) reads (omega arith) (omega arith) ∙ cut_put_below x n book o first low (omega arith))

  pub with_row_above : (x n : ℕ) → o + 24 ≤ x → cut x n (with_row book o first reads keys) ≡ cut x n book
  unfolding with_row two one
  with_row_above x n high =
      let fits = h.fits in let eight = h.eight in let r = h.few_reads in let k = h.few_keys in let l = length_one in let m = length_two in
      cut_put_above x n two (o + 16) keys (omega arith) (omega arith)
      ∙ (cut_put_above x n one (o + 8) reads (omega arith) (omega arith) ∙ cut_put_above x n book o first (omega arith) (omega arith))

  -- the three parts of the row
  row_first : cut o 8 (with_row book o first reads keys) ≡ first
  unfolding with_row two one
  row_first =
      let fits = h.fits in let eight = h.eight in let l = length_one in let m = length_two in
      cut_put_below o 8 two (o + 16) keys (omega arith) (omega arith)
      ∙ (cut_put_below o 8 one (o + 8) reads (omega arith) (omega arith) ∙ cut_put_same 8 book o first eight (omega arith))

  row_second : cut (o + 8) (length reads) (with_row book o first reads keys) ≡ reads
  unfolding with_row two one
  row_second =
      let fits = h.fits in let r = h.few_reads in let l = length_one in let m = length_two in
      cut_put_below (o + 8) (length reads) two (o + 16) keys (omega arith) (omega arith) ∙ cut_put_same (length reads) one (o + 8) reads refl (omega arith)

  row_third : cut (o + 16) (length keys) (with_row book o first reads keys) ≡ keys
  unfolding with_row two one
  row_third = let fits = h.fits in let m = length_two in cut_put_same (length keys) two (o + 16) keys refl (omega arith)

  -- a word of the row
  word_first : (j : ℕ) → j < 8 → get_or (cut o 24 (with_row book o first reads keys)) j 0 ≡ get_or first j 0
  word_first j low =
      let fits = h.fits in
      get_or_cut o 24 (with_row book o first reads keys) j 0 (omega arith)
      ∙ (sym (get_or_cut o 8 (with_row book o first reads keys) j 0 low) ∙ ap (λ (l : List ℕ). get_or l j 0) row_first)

  word_read : (j : ℕ) → j < length reads → get_or (cut o 24 (with_row book o first reads keys)) (8 + j) 0 ≡ get_or reads j 0
  word_read j low =
      let fits = h.fits in let r = h.few_reads in
      let e : o + (8 + j) ≡ o + 8 + j = omega arith in
      get_or_cut o 24 (with_row book o first reads keys) (8 + j) 0 (omega arith)
      ∙ (ap (λ (k : ℕ). get_or (with_row book o first reads keys) k 0) e
      ∙ (sym (get_or_cut (o + 8) (length reads) (with_row book o first reads keys) j 0 low) ∙ ap (λ (l : List ℕ). get_or l j 0) row_second))

  word_key : (j : ℕ) → j < length keys → get_or (cut o 24 (with_row book o first reads keys)) (16 + j) 0 ≡ get_or keys j 0
  word_key j low =
      let fits = h.fits in let k = h.few_keys in
      let e : o + (16 + j) ≡ o + 16 + j = omega arith in
      get_or_cut o 24 (with_row book o first reads keys) (16 + j) 0 (omega arith)
      ∙ (ap (λ (k : ℕ). get_or (with_row book o first reads keys) k 0) e
      ∙ (sym (get_or_cut (o + 16) (length keys) (with_row book o first reads keys) j 0 low) ∙ ap (λ (l : List ℕ). get_or l j 0) row_third))

-- What a row says follows from its words.
reads_from : (w reads : List ℕ) → get_or w 6 0 ≡ length reads → ((j : ℕ) → j < length reads → get_or w (8 + j) 0 ≡ get_or reads j 0) → row_reads w ≡ reads
unfolding row_reads
reads_from w reads n k = rw n (tab_same (length reads) (λ j. get_or w (8 + j) 0) (λ j. get_or reads j 0) k ∙ tab_list reads 0)

writes_from : (w : List ℕ) (a : List ℤ) (keys : List ℕ) (amounts : List ℤ) → get_or w 7 0 ≡ length keys
    → ((j : ℕ) → j < length keys → get_or w (16 + j) 0 ≡ get_or keys j 0) → ((j : ℕ) → j < length keys → get_or a j (pos 0) ≡ get_or amounts j (pos 0))
    → row_writes w a ≡ writes_of keys amounts
unfolding row_writes writes_of
writes_from w a keys amounts n k v =
    rw n
    (tab_same (length keys) (λ j. record { key = get_or w (16 + j) 0; value = get_or a j (pos 0) })
    (λ j. record { key = get_or keys j 0; value = get_or amounts j (pos 0) })
    (λ j low i. record { key = k j low i; value = v j low i }))

amount_at : (sums : List ℤ) (a : ℕ) (amounts : List ℤ) (keys : List ℕ) → length amounts ≡ length keys → length keys ≤ 8 → a + 8 ≤ length sums
    → (j : ℕ) → j < length keys → get_or (cut a 8 (put sums a amounts)) j (pos 0) ≡ get_or amounts j (pos 0)
amount_at sums a amounts keys same few fits j low =
    get_or_cut a 8 (put sums a amounts) j (pos 0) (omega arith)
    ∙ (sym (get_or_cut a (length amounts) (put sums a amounts) j (pos 0) (omega arith))
    ∙ ap (λ (l : List ℤ). get_or l j (pos 0)) (cut_put_same (length amounts) sums a amounts refl (omega arith)))

-- The newcomer's entry.
unfoldable pub newcomer : ℕ → ℕ → ℕ → ℕ → List ℕ → List ℕ → List ℤ → Entry
newcomer identity set st rt reads keys amounts =
    record {
      transaction = record { identity = identity; partitions = set; st = st; reads = reads; writes = writes_of keys amounts };
      rt = rt;
      heard = none_heard;
    }

pub new_entry : (book : List ℕ) (o identity set st rt : ℕ) (reads keys : List ℕ) (sums : List ℤ) (a : ℕ) (amounts : List ℤ)
    → RowFits book o (first_words identity set st rt reads keys) reads keys → length amounts ≡ length keys → a + 8 ≤ length sums
    → row_entry (cut o 24 (with_row book o (first_words identity set st rt reads keys) reads keys)) (cut a 8 (put sums a amounts))
    ≡ newcomer identity set st rt reads keys amounts
unfolding row_entry row_transaction newcomer
new_entry book o identity set st rt reads keys sums a amounts h same fits =
    let first = first_words identity set st rt reads keys in
    let w = cut o 24 (with_row book o first reads keys) in
    let word = word_first book o first reads keys h in
    let few = h.few_keys in
    let reads_are = reads_from w reads (word 6 (omega arith)) (word_read book o first reads keys h) in
    let writes_are = writes_from w (cut a 8 (put sums a amounts)) keys amounts (word 7 (omega arith)) (word_key book o first reads keys h)
    (amount_at sums a amounts keys same few fits) in
    λ i. record {
      transaction = record {
        identity = word 0 (omega arith) i;
        partitions = word 1 (omega arith) i;
        st = word 2 (omega arith) i;
        reads = reads_are i;
        writes = writes_are i;
      };
      rt = word 3 (omega arith) i;
      heard = record { ayes = word 4 (omega arith) i; nays = word 5 (omega arith) i };
    }
