-- The operations: the number that refuses each, first by what is lent, then on the words of the tables.
use Rattle.std.specs.Prelude.{ℕ, Bool, false, not, cond, ◌||◌, List, ◌≡◌, refl, eqb, ltb, ℤ, length, get_or, unwrap_or}
use Rattle.std.specs.declared.option.Option as code
use Rattle.std.proofs.Math.Bool.{or-false}
use Rattle.std.proofs.Common.{sym, ap, ◌∙◌}
use Rattle.rules.specs.Sizes.{most_k}
use Rattle.rules.specs.Events.{delivery, vote, change, read, snapshot}
use Rattle.rules.specs.Refusals.{too_little_room}
use Rattle.laws.specs.Tests.{split}
use Rattle.tables.specs.Layout.{sc_at}
use Rattle.tables.specs.View.{view}
use Rattle.tables.specs.Voted.{ballot}
use Rattle.tables.specs.Judged.{lent}
use Rattle.refusing.specs.Operands.{short, delivery_number, vote_number, change_number, read_number}
use Rattle.refusing.specs.Lending.{unusable, lending_number, lent_first, tables_first}
use Rattle.refusing.specs.Snapshots.{asked, asked_version, read_words, read_same, change_same}
use Rattle.refusing.specs.Deliveries.{delivery_words, delivery_same}
use Rattle.refusing.specs.Votes.{vote_words, vote_same}

module _ (book : List ℕ) (sums : List ℤ) where
  even : short book sums ≡ (short book sums || false)
  even = sym (or-false (short book sums))

  -- A read lends no finish list.
  pub read_decided : (key : ℕ) (st : code.Option ℕ) → read_number key (asked st) book sums
      ≡ cond (unusable book sums) 13 (read_words key (unwrap_or st (get_or book sc_at 0)) (get_or book sc_at 0))
  unfolding read_number too_little_room
  read_decided key st =
      let version : read_words key (unwrap_or st (get_or book sc_at 0)) (get_or book sc_at 0)
      ≡ read_words key (snapshot (asked st) (view book sums)) (get_or book sc_at 0)
      = ap (λ (v : ℕ). read_words key v (get_or book sc_at 0)) (sym (asked_version st book sums)) in
      tables_first book sums 0 (short book sums) false even (read key (asked st)) (λ whole. version ∙ read_same key (asked st) book sums) refl refl

  pub change_decided : (k words : ℕ)
      → change_number k book sums words ≡ cond (eqb (lending_number book sums words) 0) (cond (ltb most_k k) 12 0) (lending_number book sums words)
  unfolding change_number too_little_room
  change_decided k words = lent_first book sums words (short book sums) false even (change k) (λ whole. change_same k book sums) refl

  pub vote_decided : (identity p : ℕ) (agrees : Bool) (words : ℕ)
      → vote_number identity p agrees book sums words
      ≡ cond (eqb (lending_number book sums words) 0) (vote_words identity p book) (lending_number book sums words)
  unfolding vote_number too_little_room
  vote_decided identity p agrees words =
      lent_first book sums words (short book sums) false even (vote identity p (ballot agrees))
      (λ whole. vote_same book sums whole identity p (ballot agrees)) refl

  -- A delivery's keys and amounts agree in number, or the tables count as too short.
  pub delivery_decided : (identity set st : ℕ) (reads keys : List ℕ) (amounts : List ℤ) (words : ℕ)
      → delivery_number identity set st reads keys amounts book sums words
      ≡ cond (eqb (lending_number book sums words) 0)
      (cond (eqb (length amounts) (length keys)) (delivery_words identity set st reads keys book) 13) (lending_number book sums words)
  unfolding delivery_number too_little_room
  delivery_decided identity set st reads keys amounts words =
      let agree = eqb (length amounts) (length keys) in
      let ruled = delivery_words identity set st reads keys book in
      let turned : cond (not agree) 13 ruled ≡ cond agree ruled 13 = split agree (λ q. rw q) (λ q. rw q) in
      lent_first book sums words (short book sums || not agree) (not agree) refl (delivery (lent identity set st reads keys amounts))
      (λ whole. delivery_same identity set st reads keys amounts book sums) refl
      ∙ rw turned
