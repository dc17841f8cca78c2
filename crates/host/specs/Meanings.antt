-- What the exports mean: C's answer, with the tables that were lent, is the rules' desk on the state that the tables held, refusals included, where the tables are long
-- enough and as many amounts are lent as keys (for all else: Refusals). Each is the engine's own meaning, said of C's numbers.
use Rattle.std.specs.Prelude.{ℕ, ◌/◌, ◌≤◌, true, List, ◌≡◌, ℤ, length, Some, None}
use Rattle.std.proofs.Common.{◌∙◌, ap}
use Rattle.rules.specs.Ledger.{sizes_fit, opening}
use Rattle.rules.specs.Events.{Answer, delivery, vote, change, read, at, newest, Step}
use Rattle.rules.specs.Refusals.{desk}
use Rattle.tables.specs.Layout.{book_words, sums_words}
use Rattle.tables.specs.View.{view}
use Rattle.tables.specs.Voted.{ballot}
use Rattle.tables.specs.Judged.{lent}
use Rattle.refusing.specs.Told.{told}
use Rattle.engine.specs.Answers.{After, Means, delivered_said, delivered_finishes, voted_said, changed_said, finishes_told}
use Rattle.engine.specs.Operations.{opened, delivering, voting, changing, reading}
use Rattle.engine.specs.Meanings.{opened_means, delivering_means, voting_means, changing_means, reading_means}
use Rattle.host.specs.declared.faces.DeliveredFace.{DeliveredFace}
use Rattle.host.specs.declared.faces.SettledFace.{SettledFace}
use Rattle.host.specs.Faces.{flagged, delivered_face, settled_face, reading_face}
use Rattle.host.specs.Left.{faced}
use Rattle.host.specs.Saying.{delivered_says, voted_says, changed_says, reading_says, delivered_same, delivered_counts, voted_same, changed_same, settled_counts, reading_same}

-- A face that says the same and counts the same means the same.
face_means : {A B : Type 0} (face : A → B) {said : A → Answer} {count : A → ℕ} {says : B → Answer} {counts : B → ℕ}
    → ((a : A) → says (face a) ≡ said a) → ((a : A) → counts (face a) ≡ count a)
    → {fin : List ℕ} {r : After A} {e : Step} → Means said count fin r e → Means says counts fin (faced face r) e
face_means face same_said same_count {fin} {r} m =
    record { says = same_said r.answer ∙ m.says; state = m.state; told = m.told; counted = same_count r.answer ∙ m.counted }

abbrev pub delivered_count : DeliveredFace → ℕ
delivered_count d = d.finishes

abbrev pub settled_count : SettledFace → ℕ
settled_count s = s.finishes

module _ (book : List ℕ) (sums : List ℤ) (long : book_words ≤ length book) (long_sums : sums_words ≤ length sums) where
  module _ (fin : List ℕ) where
    pub delivery_means : (identity set st : ℕ) (reads keys : List ℕ) (amounts : List ℤ) → length amounts ≡ length keys
        → Means delivered_says delivered_count fin (faced delivered_face (delivering identity set st reads keys amounts book sums fin))
        (desk (length fin / 2) (delivery (lent identity set st reads keys amounts)) (view book sums))
    delivery_means identity set st reads keys amounts same =
        face_means delivered_face {said = delivered_said} {count = delivered_finishes} delivered_same delivered_counts
        (delivering_means identity set st reads keys amounts book sums fin long long_sums same)

    pub vote_means : (identity partition agrees : ℕ)
        → Means voted_says settled_count fin (faced settled_face (voting identity partition (flagged agrees) book sums fin))
        (desk (length fin / 2) (vote identity partition (ballot (flagged agrees))) (view book sums))
    vote_means identity partition agrees =
        face_means settled_face {said = voted_said} {count = finishes_told} voted_same settled_counts
        (voting_means identity partition (flagged agrees) book sums fin long long_sums)

    pub change_means : (k : ℕ)
        → Means changed_says settled_count fin (faced settled_face (changing k book sums fin)) (desk (length fin / 2) (change k) (view book sums))
    change_means k =
        face_means settled_face {said = changed_said} {count = finishes_told} changed_same settled_counts (changing_means k book sums fin long long_sums)

  pub read_means : (key st : ℕ) → reading_says (reading_face (reading key (Some st) book sums)) ≡ (desk 0 (read key (at st)) (view book sums)).answer
  read_means key st = reading_same (reading key (Some st) book sums) ∙ reading_means key (Some st) book sums long long_sums

  pub read_newest_means : (key : ℕ) → reading_says (reading_face (reading key None book sums)) ≡ (desk 0 (read key newest) (view book sums)).answer
  read_newest_means key = reading_same (reading key None book sums) ∙ reading_means key None book sums long long_sums

  -- An opening whose sizes fit is answered by 0, and the tables then hold the rules' opening, whatever they held.
  pub open_means : (partitions own k : ℕ) → sizes_fit partitions own k ≡ true
      → let after = faced told (opened partitions own k book sums) in
      (after.answer ≡ 0) × (view after.book after.sums ≡ opening partitions own k)
  open_means partitions own k fits =
      let means = opened_means partitions own k book sums long long_sums fits in
      (ap told means.0, means.1)
