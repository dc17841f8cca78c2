-- Reading: a number first, then the value of the newest version at most st.
use Rattle.std.specs.Prelude.{ℕ, ◌+◌, ◌≤◌, ◌<◌, List, ◌≡◌, refl, ℤ, length, get_or}
use Rattle.std.proofs.Math.Path.{sym}
use Rattle.std.proofs.Common.{◌∙◌, arith}
use borrow.Author.Tests.{ltb-false, leb-false, ne_eqb}
use Rattle.rules.specs.Sizes.{keys, floor}
use Rattle.rules.specs.Read.{read_at}
use Rattle.rules.specs.Events.{read, snapshot}
use Rattle.rules.specs.Refusals.{refusal, checks, read_checks}
use Rattle.claims.specs.Refused.{none_applies}
use Rattle.tables.specs.Layout.{book_words, sums_words}
use Rattle.tables.specs.View.{view, books_view}
use Rattle.tables.specs.Good.{KeptGood}
use Rattle.checking.specs.SoundTables.{sound_tables}
use Rattle.refusing.specs.Operands.{short, lent_number, read_number}
use Rattle.std.specs.declared.option.Option as code
use Rattle.refusing.specs.declared.refusals.Refusal.{Refusal}
use Rattle.refusing.specs.Told.{numbered, named_numbered, some_number}
use Rattle.refusing.specs.Snapshots.{asked}
use Rattle.engine.specs.declared.answers.Reading.TheVariants.{Refused, Value}
use Rattle.engine.specs.Operations.{reading}
use Rattle.engine.specs.Public.{long_tables, not_short, cleared}

sc_word : (book : List ℕ) (sums : List ℤ) → (view book sums).books.sc ≡ get_or book 2 0
unfolding view books_view
sc_word book sums = refl

-- What reading a kept row asks.
pub record Readable (key st : ℕ) (book : List ℕ) (sums : List ℤ) : Type 0 where
  pub long : book_words ≤ length book
  pub long_sums : sums_words ≤ length sums
  pub kept : KeptGood (get_or book 2 0) book
  pub low : key < 1024
  pub taken : st ≤ get_or book 2 0
  pub near : get_or book 2 0 ≤ st + 64

module _ (key : ℕ) (st : code.Option ℕ) (book : List ℕ) (sums : List ℤ) (n : ℕ) (is_number : n ≡ read_number key (asked st) book sums) where
  pub read_refuses : (r : Refusal) → numbered r ≡ n → Refused r ≡ reading key st book sums
  unfolding reading
  read_refuses r e = rw (← is_number, ← e, ne_eqb (numbered r) 0 (some_number r), named_numbered r)

  abbrev at_st : ℕ
  at_st = snapshot (asked st) (view book sums)

  pub readable : n ≡ 0 → Readable key at_st book sums
  unfolding read_number refusal checks read_checks books_view
  readable none =
      let e = read key (asked st) in
      let z : lent_number 0 (short book sums) e (view book sums) ≡ 0 = sym is_number ∙ none in
      let c = cleared 0 (short book sums) e (view book sums) z in
      let tables = long_tables book sums (not_short 0 (short book sums) e (view book sums) z) in
      let k = none_applies (read_checks key at_st (view book sums)) c.allowed in
      let late = ltb-false (view book sums).books.sc at_st k.1.0 in
      let old = ltb-false at_st (floor (view book sums).books.sc) k.1.1.0 in
      let sc = sc_word book sums in
      record {
        long = tables.long;
        long_sums = tables.long_sums;
        kept = (sound_tables book sums c.is_sound).kept_rows;
        low = leb-false keys key k.0;
        taken = omega arith;
        near = omega arith;
      }

  pub read_takes : (v : ℤ) (version : ℕ) → n ≡ 0 → version ≡ at_st → v ≡ read_at key version (books_view (get_or book 2 0) book sums)
      → Value v version ≡ reading key st book sums
  unfolding reading
  read_takes v version none is h = rw (← is_number, none, h, is)

  -- the version that was found is the one to read at
  pub version_readable : (version : ℕ) → n ≡ 0 → version ≡ at_st → Readable key version book sums
  version_readable version none is = rw is (readable none)
