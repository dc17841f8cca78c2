-- "A longer lent table is taken and its excess never touched.": whatever is lent and whatever an operation answers, behind the words and amounts that the state
-- needs all stands as it did, and so does the finish list behind the finishes told.
use Rattle.std.specs.Prelude.{ℕ, ◌*◌, ◌/◌, ◌≤◌, Bool, cond, List, [], ◌++◌, ◌≡◌, refl, eqb, ltb, ℤ, pos, length, take, drop, Ok, Err}
use Rattle.std.proofs.Common.{Result, sym, ap, ◌∙◌, arith, eqb-true, append-nil, take-append-drop}
use Rattle.std.proofs.Math.Seq.{drop-append_seam, length-take-le}
use Rattle.laws.specs.Tests.{split}
use Rattle.laws.specs.Cuts.{drop_put_front}
use Rattle.rules.specs.Sizes.{most_waiting}
use Rattle.rules.specs.Events as rules
use Rattle.rules.specs.Refusals.{too_little_room}
use Rattle.tables.specs.Layout.{book_words, sums_words}
use Rattle.tables.specs.View.{view}
use Rattle.tables.specs.Voted.{ballot}
use Rattle.tables.specs.Closed.{words_of}
use Rattle.tables.specs.Opened.{blank, length_blank, opened_words, length_opened_words, opened_book, opened_sums}
use Rattle.refusing.specs.declared.refusals.Refusal.{Refusal}
use Rattle.refusing.specs.Told.{named}
use Rattle.refusing.specs.Operands.{short, lent_number, delivery_number, vote_number, change_number, opening_number}
use Rattle.engine.specs.Answers.{After, Means, delivered_finishes, finishes_told}
use Rattle.engine.specs.Operations.{left, delivering, voting, changing, opened}
use Rattle.engine.specs.Public.{LongTables, room_of, cleared, delivery_accepting, vote_tables, change_tables}
use Rattle.engine.specs.Meanings.{delivering_means, voting_means, changing_means}
use Rattle.engine.specs.Lengths.{SameLengths, length_words, delivering_lengths, voting_lengths, changing_lengths, opened_lengths}
use Rattle.engine.specs.Longer.{widened, TakesLonger, delivering_longer, voting_longer, changing_longer}

-- What was lent, and what an operation leaves of it.
pub record ExcessKept {A : Type 0} (count : A → ℕ) (old : List ℕ) (old_sums : List ℤ) (fin : List ℕ) (r : After A) : Type 0 where
  pub book : drop book_words r.book ≡ drop book_words old
  pub sums : drop sums_words r.sums ≡ drop sums_words old_sums
  -- "Finishes fill the finish list from its start; entries past their number keep what they held.", two words each
  pub finishes : drop (2 * count r.answer) r.finishes ≡ drop (2 * count r.answer) fin
  pub lengths : SameLengths old old_sums fin r

-- What stands behind a front that keeps its length.
behind_front : {A : Type 0} (front rest : List A) (n : ℕ) → length front ≡ n → drop n (front ++ rest) ≡ rest
behind_front front rest n e = ap (λ (m : ℕ). drop m (front ++ rest)) (sym e) ∙ drop-append_seam front rest

finishes_kept : {A : Type 0} {said : A → rules.Answer} {count : A → ℕ} {fin : List ℕ} {r : After A} {e : rules.Step} → Means said count fin r e
    → drop (2 * count r.answer) r.finishes ≡ drop (2 * count r.answer) fin
finishes_kept {count = count} {fin = fin} {r = r} {e = e} h =
    let counted = h.counted in
    let words = length_words e.finishes in
    rw h.told (drop_put_front fin (words_of e.finishes) (2 * count r.answer) (omega arith))

-- An operation that takes longer tables keeps what makes them longer.
module _ {A : Type 0} (op : List ℕ → List ℤ → List ℕ → After A) (same : (b : List ℕ) (s : List ℤ) (f : List ℕ) → SameLengths b s f (op b s f)) (longer : TakesLonger op)
    (book : List ℕ) (sums : List ℤ) (fin : List ℕ) (tables : LongTables book sums) (room : 64 ≤ length fin) where
  abbrev front : After A
  front = op (take book_words book) (take sums_words sums) fin

  front_length : length (take book_words book) ≡ book_words
  front_length = length-take-le book_words book tables.long

  front_length_sums : length (take sums_words sums) ≡ sums_words
  front_length_sums = length-take-le sums_words sums tables.long_sums

  parted : op book sums fin ≡ widened (drop book_words book) (drop sums_words sums) [] front
  parted =
      let l = front_length in
      let m = front_length_sums in
      rw (take-append-drop book_words book, take-append-drop sums_words sums, append-nil) at
      (longer (take book_words book) (drop book_words book) (take sums_words sums) (drop sums_words sums) fin [] (omega arith) (omega arith) room)

  excess_of : {said : A → rules.Answer} {count : A → ℕ} {e : rules.Step} → Means said count fin (op book sums fin) e → ExcessKept count book sums fin (op book sums fin)
  excess_of means =
      let lengths = same (take book_words book) (take sums_words sums) fin in
      record {
        book = ap (λ (r : After A). drop book_words r.book) parted ∙ behind_front front.book (drop book_words book) book_words (lengths.book ∙ front_length);
        sums = ap (λ (r : After A). drop sums_words r.sums) parted ∙ behind_front front.sums (drop sums_words sums) sums_words (lengths.sums ∙ front_length_sums);
        finishes = finishes_kept means;
        lengths = same book sums fin;
      }

-- An operation that goes by its number: refused, it leaves all as it was.
excess_by_number : {A : Type 0} (count : Result A Refusal → ℕ) (book : List ℕ) (sums : List ℤ) (fin : List ℕ) (n : ℕ) (r : After (Result A Refusal))
    → (n ≡ 0 → ExcessKept count book sums fin (cond (eqb n 0) r (left (Err (named n)) book sums fin)))
    → ExcessKept count book sums fin (cond (eqb n 0) r (left (Err (named n)) book sums fin))
excess_by_number count book sums fin n r k =
    split (eqb n 0) (λ q. k (eqb-true n 0 q))
    (λ q. rw q (record { book = refl; sums = refl; finishes = refl; lengths = record { book = refl; sums = refl; finishes = refl } }))

module _ (book : List ℕ) (sums : List ℤ) (fin : List ℕ) where
  pub delivering_excess : (identity set st : ℕ) (reads keys : List ℕ) (amounts : List ℤ)
      → ExcessKept delivered_finishes book sums fin (delivering identity set st reads keys amounts book sums fin)
  unfolding delivering
  delivering_excess identity set st reads keys amounts =
      excess_by_number delivered_finishes book sums fin (delivery_number identity set st reads keys amounts book sums (length fin)) _
      (λ none. let h = delivery_accepting identity set st reads keys amounts book sums fin _ refl none in
      excess_of (delivering identity set st reads keys amounts) (delivering_lengths identity set st reads keys amounts) (delivering_longer identity set st reads keys amounts)
      book sums fin (record { long = h.long; long_sums = h.long_sums }) h.room
      (delivering_means identity set st reads keys amounts book sums fin h.long h.long_sums h.same))

  -- a finish list with no room is refused
  has_room : (short_lists : Bool) (e : rules.Event) → too_little_room (length fin / 2) e ≡ ltb (length fin / 2) most_waiting
      → lent_number (length fin) short_lists e (view book sums) ≡ 0 → 64 ≤ length fin
  has_room short_lists e lent z = room_of (length fin) (sym lent ∙ (cleared (length fin) short_lists e (view book sums) z).room)

  pub voting_excess : (identity p : ℕ) (agrees : Bool) → ExcessKept finishes_told book sums fin (voting identity p agrees book sums fin)
  unfolding voting vote_number too_little_room
  voting_excess identity p agrees =
      excess_by_number finishes_told book sums fin (vote_number identity p agrees book sums (length fin)) _
      (λ none. let tables = vote_tables identity p agrees book sums fin _ refl none in
      excess_of (voting identity p agrees) (λ b s f. voting_lengths b s f identity p agrees) (voting_longer identity p agrees)
      book sums fin tables (has_room (short book sums) (rules.vote identity p (ballot agrees)) refl none)
      (voting_means identity p agrees book sums fin tables.long tables.long_sums))

  pub changing_excess : (k : ℕ) → ExcessKept finishes_told book sums fin (changing k book sums fin)
  unfolding changing change_number too_little_room
  changing_excess k =
      excess_by_number finishes_told book sums fin (change_number k book sums (length fin)) _
      (λ none. let tables = change_tables k book sums fin _ refl none in
      excess_of (changing k) (λ b s f. changing_lengths b s f k) (changing_longer k)
      book sums fin tables (has_room (short book sums) (rules.change k) refl none)
      (changing_means k book sums fin tables.long tables.long_sums))

-- An opening is lent no finish list.
pub opened_excess : (book : List ℕ) (sums : List ℤ) (partitions own k : ℕ) → ExcessKept (λ a. 0) book sums [] (opened partitions own k book sums)
unfolding opened opened_book opened_sums
opened_excess book sums partitions own k =
    let n = opening_number partitions own k book sums in
    excess_by_number (λ a. 0) book sums [] n (left (Ok tt) (opened_book book partitions own k) (opened_sums sums) [])
    (λ none. rw none
    (record {
      book = drop_put_front book (opened_words partitions own k) book_words (sym (length_opened_words partitions own k));
      sums = drop_put_front sums (blank sums_words (pos 0)) sums_words (sym (length_blank sums_words (pos 0)));
      finishes = refl;
      lengths = rw none at (opened_lengths book sums [] partitions own k);
    }))
