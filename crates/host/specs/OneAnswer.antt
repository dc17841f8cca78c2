-- "prove that no second answer could satisfy it": whatever two calls of an export leave, if both meet its contract on the same arguments, they leave the same: the answer, and every
-- word, amount and byte that was lent.
use Rattle.std.specs.Prelude.{ℕ, List, [], ◌≡◌, ℤ, Some, None}
use Rattle.std.proofs.Common.{sym, ◌∙◌}
use Rattle.refusing.specs.Told.{told}
use Rattle.engine.specs.Operations.{left, opened, delivering, voting, changing, reading}
use Rattle.feed.specs.Feeding.{fed}
use Rattle.host.specs.declared.faces.DeliveredFace.{DeliveredFace}
use Rattle.host.specs.declared.faces.SettledFace.{SettledFace}
use Rattle.host.specs.declared.faces.ReadingFace.{ReadingFace}
use Rattle.host.specs.declared.faces.FedFace.{FedFace}
use Rattle.host.specs.Faces.{flagged, delivered_face, settled_face, reading_face, standing_of}
use Rattle.host.specs.Left.{faced, fed_left, fed_faced}

one : {A : Type 0} {a a' r : A} → a ≡ r → a' ≡ r → a ≡ a'
one first second = first ∙ sym second

-- A read is lent nothing that it could change.
pub one_reading : {a a' : ReadingFace} (key st : ℕ) (old : List ℕ) (old_sums : List ℤ)
    → a ≡ reading_face (reading key (Some st) old old_sums) → a' ≡ reading_face (reading key (Some st) old old_sums) → a ≡ a'
one_reading key st old old_sums = one

pub one_reading_newest : {a a' : ReadingFace} (key : ℕ) (old : List ℕ) (old_sums : List ℤ)
    → a ≡ reading_face (reading key None old old_sums) → a' ≡ reading_face (reading key None old old_sums) → a ≡ a'
one_reading_newest key old old_sums = one

module _ {book book' : List ℕ} {sums sums' : List ℤ} (old : List ℕ) (old_sums : List ℤ) where
  pub one_opening : {a a' : ℕ} (partitions own k : ℕ)
      → left a book sums [] ≡ faced told (opened partitions own k old old_sums)
      → left a' book' sums' [] ≡ faced told (opened partitions own k old old_sums)
      → left a book sums [] ≡ left a' book' sums' []
  one_opening partitions own k = one

  module _ {fin fin' : List ℕ} (old_fin : List ℕ) where
    pub one_delivery : {a a' : DeliveredFace} (identity set st : ℕ) (reads keys : List ℕ) (amounts : List ℤ)
        → left a book sums fin ≡ faced delivered_face (delivering identity set st reads keys amounts old old_sums old_fin)
        → left a' book' sums' fin' ≡ faced delivered_face (delivering identity set st reads keys amounts old old_sums old_fin)
        → left a book sums fin ≡ left a' book' sums' fin'
    one_delivery identity set st reads keys amounts = one

    pub one_vote : {a a' : SettledFace} (identity partition agrees : ℕ)
        → left a book sums fin ≡ faced settled_face (voting identity partition (flagged agrees) old old_sums old_fin)
        → left a' book' sums' fin' ≡ faced settled_face (voting identity partition (flagged agrees) old old_sums old_fin)
        → left a book sums fin ≡ left a' book' sums' fin'
    one_vote identity partition agrees = one

    pub one_change : {a a' : SettledFace} (k : ℕ)
        → left a book sums fin ≡ faced settled_face (changing k old old_sums old_fin)
        → left a' book' sums' fin' ≡ faced settled_face (changing k old old_sums old_fin)
        → left a book sums fin ≡ left a' book' sums' fin'
    one_change k = one

  pub one_feed : {a a' : FedFace} {out out' : List ℕ} (at_end was_opened skipping : ℕ) (input old_out : List ℕ)
      → fed_left a book sums out ≡ fed_faced (fed (flagged at_end) (standing_of was_opened skipping) input old old_sums old_out)
      → fed_left a' book' sums' out' ≡ fed_faced (fed (flagged at_end) (standing_of was_opened skipping) input old old_sums old_out)
      → fed_left a book sums out ≡ fed_left a' book' sums' out'
  one_feed at_end was_opened skipping input old_out = one
