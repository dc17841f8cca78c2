-- A delivery on the tables, where none is refused: the newcomer's row, closing, the counters. The state and the finishes after it are the rules'.
use Prim.Native.Nat.{ℕ, suc, ◌+◌, ◌-◌, ◌*◌, ◌≤◌, ◌<◌}
use Rattle.std.specs.Prelude.{Bool, true, false, ◌≡◌, ℤ, get_or, insert}
use Rattle.std.specs.List.{list_any}
use mathlib.Core.List.{List}
use Rattle.std.proofs.Common.{⊎_elim, ◌∙◌, subst, ltb-false, leb-false}
use Rattle.std.proofs.Math.Option.{none}
use Rattle.std.proofs.Math.Path.{refl, ap, ap₂}
use native.Mathlib.Omega.{arith}
use Rattle.std.proofs.Math.Dec.{eqb}
use Rattle.std.proofs.Math.ListN.{length}
use Rattle.rules.specs.Place.{place}
use Rattle.rules.specs.Sizes.{most_keys, most_waiting, most_kept, floor}
use Rattle.rules.specs.Partitions.{only, none_heard}
use Rattle.rules.specs.Keys.{too_many}
use Rattle.rules.specs.Ledger.{Transaction, Entry, Clock, Books, is_local}
use Rattle.rules.specs.Delivery.{ticked, entered, Fate, abort, join, fate, joined, vote_to_send}
use Rattle.rules.specs.Closing.{close}
use Rattle.rules.specs.Events.{Answer, waits, aborted, delivery, delivered, closing, deliver_at, deliver_with, accepted}
use Rattle.rules.specs.Refusals.{refusal, checks, delivery_checks}
use Rattle.laws.specs.Tests.{split, or_left, or_right}
use Rattle.laws.specs.Tabs.{tab}
use Rattle.claims.specs.Refused.{none_applies}
use Rattle.claims.specs.Fates.{fate_join_exactly}
use Rattle.claims.specs.SoundParts.{Sound}
use Rattle.claims.specs.Soundness.{joined_sound}
use Rattle.std.specs.Prelude.{Ok, is_ok, not}
use Rattle.std.proofs.Common.{Result}
use Rattle.refusing.specs.declared.refusals.Refusal.{Refusal}
use Rattle.engine.specs.declared.answers.Reason.{Reason}
use Rattle.engine.specs.declared.answers.Delivered.{Delivered}
use Rattle.engine.specs.Fates.{fate_of, fated, placed_fated, send_if, vote_said}
use Rattle.engine.specs.Answers.{After, Means, delivered_said, delivered_finishes}
use Rattle.tables.specs.Layout.{book_words, sums_words}
use Rattle.tables.specs.Tested.{row_clash, row_blocks, row_passes}
use Rattle.tables.specs.View.{waiting_words, kept_words, waiting_view, length_waiting, books_view, clock_view, view}
use Rattle.tables.specs.NewRow.{first_words, newcomer}
use Rattle.tables.specs.Joined.{joined_book, joined_sums, length_joined, length_joined_sums, joined_waiting, joined_books, joined_counter}
use Rattle.tables.specs.Judged.{lent, lent_keys, row_fate, fate_row}
use Rattle.laws.specs.Cuts.{put}
use Rattle.tables.specs.Closed.{Desk, words_of}
use Rattle.tables.specs.Settled.{Ready, closed_desk, settled_book, settled_view, settled_finishes, settled_count}

-- The desk before closing: with the newcomer at its place, or as it was.
unfoldable pub delivery_desk : Fate → ℕ → ℕ → ℕ → ℕ → List ℕ → List ℕ → List ℤ → List ℕ → List ℤ → List ℕ → Desk
delivery_desk (abort reason) identity set st rt reads keys amounts book sums fin =
    record { sc = get_or book 2 0; waiting = get_or book 5 0; finished = 0; book = book; sums = sums; finishes = fin }
delivery_desk (join i) identity set st rt reads keys amounts book sums fin =
    record {
      sc = get_or book 2 0;
      waiting = get_or book 5 0 + 1;
      finished = 0;
      book = joined_book book (get_or book 5 0) i (first_words identity set st rt reads keys) reads keys;
      sums = joined_sums sums (get_or book 5 0) i amounts;
      finishes = fin;
    }

-- The answer, and all three tables.
abbrev pub delivered_answer : Clock → ℕ → Result ℕ Reason → ℕ → Delivered
delivered_answer c set fate finishes =
    record { dc = c.dc; fate = fate; send = send_if (eqb set (only c.own)) (is_ok fate); finishes = finishes }

unfoldable pub delivered_result : Clock → ℕ → Result ℕ Reason → Desk → After (Result Delivered Refusal)
delivered_result c set fate d =
    record {
      answer = Ok (delivered_answer c set fate (closed_desk c d).finished);
      book = settled_book c d;
      sums = (closed_desk c d).sums;
      finishes = (closed_desk c d).finishes;
    }

-- What is known of a delivery that isn't refused.
pub record Deliverable (n sc st : ℕ) (reads keys : List ℕ) : Type 0 where
  pub few_reads : length reads ≤ 8
  pub few_keys : length keys ≤ 8
  pub list_open : n < 32
  pub taken : st ≤ sc
  pub kept : sc ≤ st + most_kept

pub deliverable : (identity set st : ℕ) (reads keys : List ℕ) (amounts : List ℤ) (book : List ℕ) (sums : List ℤ)
    → refusal (delivery (lent identity set st reads keys amounts)) (view book sums) ≡ none
    → Deliverable (get_or book 5 0) (get_or book 2 0) st reads keys
unfolding refusal checks delivery_checks lent view books_view
deliverable identity set st reads keys amounts book sums q =
    let k = none_applies (delivery_checks (lent identity set st reads keys amounts) (view book sums)) q in
    let many = rw (lent_keys keys amounts) at k.1.0 in
    let r = ltb-false most_keys (length reads) (or_left (too_many reads) (too_many keys) many) in
    let w = ltb-false most_keys (length keys) (or_right (too_many reads) (too_many keys) many) in
    let late = ltb-false (get_or book 2 0) st k.1.1.1.1.0 in
    let old = ltb-false st (floor (get_or book 2 0)) k.1.1.1.1.1.0 in
    let full = leb-false most_waiting (length (waiting_view (get_or book 5 0) book sums)) k.1.1.1.1.1.1.0 in
    let n = length_waiting (get_or book 5 0) book sums in
    record { few_reads = r; few_keys = w; list_open = omega arith; taken = late; kept = omega arith }

abbrev spoken : ℕ → Bool → Fate → Answer
spoken dc l (abort reason) = aborted dc reason (vote_said (send_if l false))
spoken dc l (join i) = waits dc i (vote_said (send_if l true))

-- The rules' answer to a delivery, by its fate.
rules_answer : (c : Clock) (l : Bool) (f : Fate) → spoken c.dc l f ≡ delivered c (vote_to_send l f) f
unfolding delivered vote_to_send
rules_answer c true (abort reason) = refl
rules_answer c true (join i) = refl
rules_answer c false (abort reason) = refl
rules_answer c false (join i) = refl

-- The fates on rows are places and reasons 1 to 3: none is lost in the code's own type.
pub fate_kept : (own dc sc n set st : ℕ) (reads keys book : List ℕ)
    → fated (fate_of (row_fate own dc sc n set st reads keys book)) ≡ row_fate own dc sc n set st reads keys book
unfolding row_fate
fate_kept own dc sc n set st reads keys book =
    split (list_any (row_clash (not (eqb set (only own))) reads keys) (tab (sc - st) (λ j. kept_words book (sc - j))))
    (λ q. rw q)
    (λ q. split (eqb set (only own))
    (λ r. rw (q, r) (placed_fated (place (row_blocks reads) (row_passes own dc keys) (tab n (waiting_words book)))))
    (λ r. split (list_any (row_clash (not (eqb set (only own))) reads keys) (tab n (waiting_words book))) (λ s. rw (q, s, r)) (λ s. rw (q, s, r))))

answer_said : (c : Clock) (set m : ℕ) (f : Fate) → fated (fate_of f) ≡ f
    → delivered_said (Ok (delivered_answer c set (fate_of f) m)) ≡ spoken c.dc (eqb set (only c.own)) f
answer_said c set m (abort reason) e =
    ap (λ (g : Fate). spoken c.dc (eqb set (only c.own)) g) e
answer_said c set m (join i) e = refl

-- A place that is given lies within the list.
place_within : (c : Clock) (t : Transaction) (waiting : List Entry) (b : Books) (i : ℕ) → fate c t waiting b ≡ join i → i ≤ length waiting
place_within c t waiting b i q =
    ⊎_elim (λ l. l.1.lawful.within) (λ l. let e = l.2 in omega arith) ((fate_join_exactly c t waiting b i).0 q).stands

-- The newcomer's entry is the rules'.
newcomer_entered : (c : Clock) (identity set st : ℕ) (reads keys : List ℕ) (amounts : List ℤ)
    → newcomer identity set st (c.dc + c.k) reads keys amounts ≡ entered c (lent identity set st reads keys amounts) none_heard
unfolding newcomer entered lent
newcomer_entered c identity set st reads keys amounts = refl

-- The tables and the transaction that are lent, where nothing is refused.
pub record Accepting (identity set st : ℕ) (reads keys : List ℕ) (amounts : List ℤ) (book : List ℕ) (sums : List ℤ) (fin : List ℕ) : Type 0 where
  pub long : book_words ≤ length book
  pub long_sums : sums_words ≤ length sums
  pub same : length amounts ≡ length keys
  pub room : 64 ≤ length fin
  pub sound : Sound (clock_view book) (waiting_view (get_or book 5 0) book sums) (books_view (get_or book 2 0) book sums)
  pub unrefused : refusal (delivery (lent identity set st reads keys amounts)) (view book sums) ≡ none

module _ (identity set st : ℕ) (reads keys : List ℕ) (amounts : List ℤ) (book : List ℕ) (sums : List ℤ) (fin : List ℕ)
    (h : Accepting identity set st reads keys amounts book sums fin) where
  abbrev t : Transaction
  t = lent identity set st reads keys amounts

  abbrev c : Clock
  c = ticked (clock_view book)

  abbrev n : ℕ
  n = get_or book 5 0

  abbrev sc : ℕ
  sc = get_or book 2 0

  ok : Deliverable n sc st reads keys
  ok = deliverable identity set st reads keys amounts book sums h.unrefused

  -- What becomes of it, on rows.
  abbrev pub the_fate : Fate
  the_fate = row_fate c.own c.dc sc n set st reads keys book

  pub the_fate_is : fate c t (waiting_view n book sums) (books_view sc book sums) ≡ the_fate
  the_fate_is = fate_row c sc n identity set st reads keys amounts book sums ok.taken ok.kept

  abbrev pub desk_at : Fate → Desk
  desk_at f = delivery_desk f identity set st (c.dc + c.k) reads keys amounts book sums fin

  pub within : (i : ℕ) → the_fate ≡ join i → i ≤ n
  within i q =
      let low = place_within c t (waiting_view n book sums) (books_view sc book sums) i (the_fate_is ∙ q) in
      omega (arith, length_waiting n book sums)

  -- The list and the books of the desk before closing.
  desk_list : (f : Fate) → the_fate ≡ f
      → waiting_view (desk_at f).waiting (desk_at f).book (desk_at f).sums ≡ joined f (entered c t none_heard) (waiting_view n book sums)
  unfolding delivery_desk joined
  desk_list (abort reason) q = refl
  desk_list (join i) q =
      let e : n + 1 ≡ suc n = omega arith in
      ap (λ (m : ℕ). waiting_view m (joined_book book n i (first_words identity set st (c.dc + c.k) reads keys) reads keys) (joined_sums sums n i amounts)) e
      ∙ (joined_waiting book sums n i identity set st (c.dc + c.k) reads keys amounts h.long h.long_sums ok.list_open (within i q) ok.few_reads ok.few_keys h.same
      ∙ ap (λ (x : Entry). insert (waiting_view n book sums) i x) (newcomer_entered c identity set st reads keys amounts))

  desk_books : (f : Fate) → the_fate ≡ f → books_view (desk_at f).sc (desk_at f).book (desk_at f).sums ≡ books_view sc book sums
  unfolding delivery_desk
  desk_books (abort reason) q = refl
  desk_books (join i) q =
      joined_books book sums n i (first_words identity set st (c.dc + c.k) reads keys) reads keys amounts h.long h.long_sums ok.list_open (within i q)
      refl ok.few_reads ok.few_keys h.same sc

  before_closing : (f : Fate) → Sound c (joined f (entered c t none_heard) (waiting_view n book sums)) (books_view sc book sums)
  unfolding view
  before_closing f = joined_sound t (view book sums) f h.unrefused h.sound

  desk_sound : (f : Fate) → the_fate ≡ f
      → Sound c (waiting_view (desk_at f).waiting (desk_at f).book (desk_at f).sums) (books_view (desk_at f).sc (desk_at f).book (desk_at f).sums)
  desk_sound f q = rw (desk_list f q, desk_books f q) (before_closing f)

  pub desk_length : (f : Fate) → the_fate ≡ f → length (desk_at f).book ≡ length book
  unfolding delivery_desk
  desk_length (abort reason) q = refl
  desk_length (join i) q =
      length_joined book sums n i (first_words identity set st (c.dc + c.k) reads keys) reads keys amounts h.long h.long_sums ok.list_open (within i q)
      refl ok.few_reads ok.few_keys h.same

  pub desk_length_sums : (f : Fate) → the_fate ≡ f → length (desk_at f).sums ≡ length sums
  unfolding delivery_desk
  desk_length_sums (abort reason) q = refl
  desk_length_sums (join i) q =
      length_joined_sums book sums n i (first_words identity set st (c.dc + c.k) reads keys) reads keys amounts h.long h.long_sums ok.list_open (within i q)
      refl ok.few_reads ok.few_keys h.same

  desk_counter : (f : Fate) → the_fate ≡ f → (j : ℕ) → j < 6 → get_or (desk_at f).book j 0 ≡ get_or book j 0
  unfolding delivery_desk
  desk_counter (abort reason) q j low = refl
  desk_counter (join i) q j low =
      joined_counter book sums n i (first_words identity set st (c.dc + c.k) reads keys) reads keys amounts h.long h.long_sums ok.list_open (within i q)
      refl ok.few_reads ok.few_keys h.same j low

  desk_room : (f : Fate) → 2 * ((desk_at f).finished + (desk_at f).waiting) ≤ length (desk_at f).finishes
  unfolding delivery_desk
  desk_room (abort reason) = let open_list = ok.list_open in let room = h.room in omega arith
  desk_room (join i) = let open_list = ok.list_open in let room = h.room in omega arith

  desk_few : (f : Fate) → (desk_at f).finished + (desk_at f).waiting ≤ 32
  unfolding delivery_desk
  desk_few (abort reason) = let open_list = ok.list_open in omega arith
  desk_few (join i) = let open_list = ok.list_open in omega arith

  desk_untold : (f : Fate) → (desk_at f).finished ≡ 0
  unfolding delivery_desk
  desk_untold (abort reason) = refl
  desk_untold (join i) = refl

  pub desk_finishes : (f : Fate) → (desk_at f).finishes ≡ fin
  unfolding delivery_desk
  desk_finishes (abort reason) = refl
  desk_finishes (join i) = refl

  pub desk_ready : (f : Fate) → the_fate ≡ f → Ready c (desk_at f)
  unfolding ticked clock_view
  desk_ready f q =
      record {
        fit = record {
          long = rw (desk_length f q) h.long;
          long_sums = rw (desk_length_sums f q) h.long_sums;
          room = desk_room f;
          few_told = desk_few f;
          sound = desk_sound f q;
        };
        untold = desk_untold f;
        partitions = desk_counter f q 0 (omega arith);
        own = desk_counter f q 1 (omega arith);
      }

  -- What a delivery on the tables means: the rules' delivery of the state that they hold.
  pub delivery_means : (f : Fate) → the_fate ≡ f
      → Means delivered_said delivered_finishes fin (delivered_result c set (fate_of f) (desk_at f)) (accepted (delivery t) (view book sums))
  unfolding delivered_result accepted deliver_with deliver_at view is_local lent closing
  delivery_means f q =
      let d = desk_at f in
      let ready = desk_ready f q in
      let l = eqb set (only c.own) in
      let a = delivered c (vote_to_send l f) f in
      let the_list = desk_list f q in
      let the_books = desk_books f q in
      let is = the_fate_is ∙ q in
      let kept = subst (λ (g : Fate). fated (fate_of g) ≡ g) q (fate_kept c.own c.dc sc n set st reads keys book) in
      rw is
      (record {
        says = answer_said c set (closed_desk c d).finished f kept ∙ rules_answer c l f;
        state = settled_view c d ready a ∙ ap₂ (λ (es : List Entry) (b : Books). (closing a c es b).next) the_list the_books;
        told = settled_finishes c d ready
            ∙ ap₂ (λ (es : List Entry) (b : Books). put d.finishes 0 (words_of (close c es b).finishes)) the_list the_books
            ∙ ap (λ (l : List ℕ). put l 0 (words_of (close c (joined f (entered c t none_heard) (waiting_view n book sums)) (books_view sc book sums)).finishes)) (desk_finishes f);
        counted = settled_count c d ready ∙ ap₂ (λ (es : List Entry) (b : Books). length (close c es b).finishes) the_list the_books;
      })
