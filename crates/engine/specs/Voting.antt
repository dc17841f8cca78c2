-- A vote and a change on the tables, where none is refused. The state and the finishes after each are the rules'.
use Rattle.std.specs.Prelude.{ℕ, ◌-◌, ◌≤◌, ◌<◌, min, Bool, ◌≡◌, refl, ℤ, get_or}
use mathlib.Core.List.{List, map}
use Rattle.std.proofs.Math.Option.{none}
use Rattle.std.proofs.Common.{◌∙◌, subst, arith}
use Rattle.std.proofs.Math.Path.{ap, ap₂}
use Rattle.std.proofs.Math.ListN.{length}
use Rattle.rules.specs.Sizes.{most_kept}
use Rattle.rules.specs.Ledger.{Entry, Clock, Books}
use Rattle.rules.specs.Closing.{close}
use Rattle.rules.specs.Events.{vote, change, voted, changed, closing, take_vote, with_vote, take_change, with_k, accepted}
use Rattle.rules.specs.Refusals.{refusal}
use Rattle.laws.specs.Cuts.{cut, put}
use Rattle.laws.specs.Tabs.{tab_same}
use Rattle.claims.specs.SoundParts.{Sound}
use Rattle.claims.specs.Soundness.{voted_sound, changed_sound}
use Rattle.tables.specs.Layout.{book_words, sums_words, kept_row, kept_amounts}
use Rattle.tables.specs.Rows.{row_commit}
use Rattle.tables.specs.View.{kept_words, entry_at, commit_at, waiting_view, length_waiting, kept_view, values_view, books_view, clock_view, view}
use Rattle.tables.specs.Voted.{voted_book, ballot, voted_length, voted_counter, voted_kept, voted_waiting}
use Rattle.tables.specs.Closed.{Desk, words_of}
use Rattle.tables.specs.Settled.{Ready, closed_desk, settled_book, settled_view, settled_finishes, settled_count}
use Rattle.std.specs.Prelude.{Ok}
use Rattle.std.proofs.Common.{Result}
use Rattle.refusing.specs.declared.refusals.Refusal.{Refusal}
use Rattle.engine.specs.Answers.{After, Means, voted_said, changed_said, finishes_told}

-- The desk before closing: the tables as they are, or with the vote in row i.
unfoldable pub desk_before : List ℕ → List ℤ → List ℕ → Desk
desk_before book sums fin =
    record { sc = get_or book 2 0; waiting = get_or book 5 0; finished = 0; book = book; sums = sums; finishes = fin }

unfoldable pub voted_desk : ℕ → ℕ → Bool → List ℕ → List ℤ → List ℕ → Desk
voted_desk i p agrees book sums fin =
    record {
      sc = get_or book 2 0;
      waiting = get_or book 5 0;
      finished = 0;
      book = voted_book book i p agrees;
      sums = sums;
      finishes = fin;
    }

-- A vote or a change settled: how many finishes were written, and all three tables.
unfoldable pub settled_result : Clock → Desk → After (Result ℕ Refusal)
settled_result c d =
    record { answer = Ok (closed_desk c d).finished; book = settled_book c d; sums = (closed_desk c d).sums; finishes = (closed_desk c d).finishes }

-- Tables that are lent, long enough and sound, with room for the finishes.
pub record Lent (book : List ℕ) (sums : List ℤ) (fin : List ℕ) : Type 0 where
  pub long : book_words ≤ length book
  pub long_sums : sums_words ≤ length sums
  pub room : 64 ≤ length fin
  pub sound : Sound (clock_view book) (waiting_view (get_or book 5 0) book sums) (books_view (get_or book 2 0) book sums)

module _ (book : List ℕ) (sums : List ℤ) (fin : List ℕ) (h : Lent book sums fin) where
  abbrev n : ℕ
  n = get_or book 5 0

  few : n ≤ 32
  few = let fits = h.sound.list_fits in omega (arith, length_waiting n book sums)

  -- A change: the tables as they are, under the new k.
  pub change_ready : (k : ℕ) → refusal (change k) (view book sums) ≡ none → Ready (with_k k (clock_view book)) (desk_before book sums fin)
  unfolding desk_before with_k clock_view view
  change_ready k q =
      let room = h.room in
      let f = few in
      record {
        fit = record { long = h.long; long_sums = h.long_sums; room = omega arith; few_told = omega arith; sound = changed_sound k (view book sums) q h.sound };
        untold = refl;
        partitions = refl;
        own = refl;
      }

  pub change_means : (k : ℕ) → refusal (change k) (view book sums) ≡ none
      → Means changed_said finishes_told fin (settled_result (with_k k (clock_view book)) (desk_before book sums fin)) (accepted (change k) (view book sums))
  unfolding settled_result accepted take_change view closing desk_before
  change_means k q =
      let c = with_k k (clock_view book) in
      let ready = change_ready k q in
      record {
        says = refl;
        state = settled_view c (desk_before book sums fin) ready changed;
        told = settled_finishes c (desk_before book sums fin) ready;
        counted = settled_count c (desk_before book sums fin) ready;
      }

  -- A vote: the tables with the vote in the row of its identity.
  module _ (identity i p : ℕ) (agrees : Bool) (low : i < n) (is_its : (entry_at book sums i).transaction.identity ≡ identity)
      (q : refusal (vote identity p (ballot agrees)) (view book sums) ≡ none) where
    abbrev d : Desk
    d = voted_desk i p agrees book sums fin

    voted_list : waiting_view n (voted_book book i p agrees) sums ≡ map (with_vote identity p (ballot agrees)) (waiting_view n book sums)
    voted_list =
        let f = few in
        subst (λ (x : ℕ). waiting_view n (voted_book book i p agrees) sums ≡ map (with_vote x p (ballot agrees)) (waiting_view n book sums)) is_its
        (voted_waiting book sums n i p agrees h.long low f h.sound.apart)

    voted_commit : (v : ℕ) → commit_at (voted_book book i p agrees) sums v ≡ commit_at book sums v
    unfolding commit_at kept_words
    voted_commit v =
        let f = few in
        ap (λ (w : List ℕ). row_commit w (cut (kept_amounts v) 8 sums)) (voted_kept book sums i p agrees h.long (omega arith) (kept_row v) 24 (omega arith))

    voted_books : (sc : ℕ) → books_view sc (voted_book book i p agrees) sums ≡ books_view sc book sums
    unfolding books_view kept_view
    voted_books sc =
        λ k. record {
          sc = sc;
          kept = tab_same (min sc most_kept) (λ j. commit_at (voted_book book i p agrees) sums (sc - j)) (λ j. commit_at book sums (sc - j))
              (λ j below. voted_commit (sc - j)) k;
          values = values_view sums;
        }

    before_closing : Sound (clock_view book) (map (with_vote identity p (ballot agrees)) (waiting_view n book sums)) (books_view (get_or book 2 0) book sums)
    unfolding view
    before_closing = voted_sound identity p (ballot agrees) (view book sums) q h.sound

    pub vote_ready : Ready (clock_view book) d
    unfolding voted_desk clock_view
    vote_ready =
        let room = h.room in
        let f = few in
        record {
          fit = record {
            long = rw (voted_length book i p agrees) h.long;
            long_sums = h.long_sums;
            room = omega arith;
            few_told = omega arith;
            sound = rw (voted_list, voted_books (get_or book 2 0)) before_closing;
          };
          untold = refl;
          partitions = voted_counter book i p agrees 0 (omega arith);
          own = voted_counter book i p agrees 1 (omega arith);
        }

    pub vote_means : Means voted_said finishes_told fin (settled_result (clock_view book) d) (accepted (vote identity p (ballot agrees)) (view book sums))
    unfolding settled_result accepted take_vote view closing voted_desk
    vote_means =
        let c = clock_view book in
        let es = voted_list in
        let b = voted_books (get_or book 2 0) in
        record {
          says = refl;
          state = settled_view c d vote_ready voted ∙ ap₂ (λ (l : List Entry) (x : Books). (closing voted c l x).next) es b;
          told = settled_finishes c d vote_ready ∙ ap₂ (λ (l : List Entry) (x : Books). put fin 0 (words_of (close c l x).finishes)) es b;
          counted = settled_count c d vote_ready ∙ ap₂ (λ (l : List Entry) (x : Books). length (close c l x).finishes) es b;
        }
