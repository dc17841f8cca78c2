-- Taking a delivery that nothing refuses: what each call asks, and what the two ways leave.
use Rattle.std.specs.Prelude.{ℕ, ◌+◌, ◌≤◌, ◌<◌, true, false, not, ◌||◌, List, ◌≡◌, refl, ℤ, length, get_or}
use Rattle.std.specs.List.{list_any}
use Rattle.std.proofs.Math.Path.{sym}
use Rattle.std.proofs.Common.{ap, ◌∙◌, arith}
use borrow.Author.Tests.{not-false, eqb-false}
use Rattle.rules.specs.Sizes.{most_dc}
use Rattle.rules.specs.Keys.{bad_key, bad_keys, ascending}
use Rattle.rules.specs.Ledger as rules
use Rattle.rules.specs.Delivery.{ticked, Fate, abort, join}
use Rattle.rules.specs.Refusals.{refusal, checks, delivery_checks}
use Rattle.laws.specs.Tests.{or_left, or_right}
use Rattle.claims.specs.Refused.{none_applies}
use Rattle.tables.specs.View.{clock_view, books_view, view}
use Rattle.tables.specs.Good.{waiting_good, kept_good}
use Rattle.tables.specs.NewRow.{first_words}
use Rattle.tables.specs.Joined.{joined_book, joined_sums}
use Rattle.tables.specs.Judged.{lent, lent_keys, row_fate}
use Rattle.tables.specs.Closed.{Desk}
use Rattle.tables.specs.Settled.{Ready}
use Rattle.std.specs.Prelude.{Ok, Err}
use Rattle.std.proofs.Common.{Result}
use Rattle.refusing.specs.declared.refusals.Refusal.{Refusal}
use Rattle.engine.specs.declared.answers.Reason.{Reason}
use Rattle.engine.specs.declared.answers.Delivered.{Delivered}
use Rattle.engine.specs.Fates.{reason_of, fate_of}
use Rattle.engine.specs.Answers.{After}
use Rattle.engine.specs.Delivering.{Accepting, Deliverable, deliverable, delivery_desk, delivered_result, desk_ready, within}
use Rattle.engine.specs.Judging.{Judgeable}
use Rattle.engine.specs.Operations.{delivered_on}

-- A fate judged is the rules' fate.
pub record Aborted (f : Fate) (reason : Reason) : Type 0 where
  pub number : ℕ
  pub is : f ≡ abort number
  pub named : reason ≡ reason_of number

fate_abort : (f : Fate) (reason : Reason) → Err reason ≡ fate_of f → Aborted f reason
fate_abort (abort n) reason h = record { number = n; is = refl; named = cc }
fate_abort (join i) reason h = let z : ◌≡◌ {A = ℕ} 0 1 = cc in absurd (omega arith)

fate_join : (f : Fate) (i : ℕ) → Ok i ≡ fate_of f → f ≡ join i
fate_join (abort r) i h = cc
fate_join (join j) i h = cc

module _ (identity set st : ℕ) (reads keys : List ℕ) (amounts : List ℤ) (book : List ℕ) (sums : List ℤ) (fin : List ℕ)
    (h : Accepting identity set st reads keys amounts book sums fin) where
  abbrev clock : rules.Clock
  clock = record { partitions = get_or book 0 0; own = get_or book 1 0; dc = get_or book 3 0 + 1; k = get_or book 4 0 }

  abbrev the_fate : Fate
  the_fate = row_fate (get_or book 1 0) (get_or book 3 0 + 1) (get_or book 2 0) (get_or book 5 0) set st reads keys book

  ascends : (xs : List ℕ) → bad_keys xs ≡ false → ascending xs ≡ true
  unfolding bad_keys
  ascends xs q = not-false (ascending xs) (or_right (list_any bad_key xs) (not (ascending xs)) q)

  -- the numbers that the code computes with
  pub record Numbers : Type 0 where
    pub dc_open : get_or book 3 0 < most_dc
    pub k_fits : get_or book 4 0 ≤ 31
    pub own_fits : get_or book 1 0 < 8
    pub list_open : get_or book 5 0 < 32
    pub few_reads : length reads ≤ 8
    pub few_keys : length keys ≤ 8

  ok : Deliverable (get_or book 5 0) (get_or book 2 0) st reads keys
  ok = deliverable identity set st reads keys amounts book sums h.unrefused

  pub numbers : Numbers
  unfolding refusal checks delivery_checks view clock_view
  numbers =
      let k = none_applies (delivery_checks (lent identity set st reads keys amounts) (view book sums)) h.unrefused in
      let not_last = eqb-false (get_or book 3 0) most_dc k.1.1.1.1.1.1.1.0 in
      let dc = h.sound.dc_fits in
      let few = h.sound.sizes.few_partitions in
      let ours = h.sound.sizes.own_opened in
      record {
        dc_open = omega arith;
        k_fits = h.sound.sizes.k_fits;
        own_fits = omega arith;
        list_open = ok.list_open;
        few_reads = ok.few_reads;
        few_keys = ok.few_keys;
      }

  -- what judging asks
  pub judgeable : Judgeable (get_or book 1 0) (get_or book 2 0) (get_or book 5 0) st book
  unfolding books_view clock_view
  judgeable =
      let n = numbers in
      let list = n.list_open in
      record {
        own_fits = n.own_fits;
        few = omega arith;
        kept = kept_good (get_or book 2 0) book sums h.sound.kept_good;
        waiting = waiting_good (get_or book 0 0) (get_or book 1 0) (get_or book 3 0) (get_or book 5 0) book sums h.sound.entries_good;
        taken = ok.taken;
        near = ok.kept;
      }

  none_bad : (bad_keys reads || bad_keys keys) ≡ false
  unfolding refusal checks delivery_checks lent
  none_bad =
      let k = none_applies (delivery_checks (lent identity set st reads keys amounts) (view book sums)) h.unrefused in
      rw (lent_keys keys amounts) at k.1.1.0

  pub reads_ascend : ascending reads ≡ true
  reads_ascend = ascends reads (or_left (bad_keys reads) (bad_keys keys) none_bad)

  pub keys_ascend : ascending keys ≡ true
  keys_ascend = ascends keys (or_right (bad_keys reads) (bad_keys keys) none_bad)

  abbrev desk_at : Fate → Desk
  desk_at f = delivery_desk f identity set st (get_or book 3 0 + 1 + get_or book 4 0) reads keys amounts book sums fin

  taken : (f : Fate) → the_fate ≡ f → delivered_result clock set (fate_of f) (desk_at f) ≡ delivered_on identity set st reads keys amounts book sums fin
  unfolding delivered_on ticked clock_view
  taken f q = sym (ap (λ (g : Fate). delivered_result clock set (fate_of g) (desk_at g)) q)

  ready : (f : Fate) → the_fate ≡ f → Ready clock (desk_at f)
  unfolding ticked clock_view
  ready f q = desk_ready identity set st reads keys amounts book sums fin h f q

  abbrev desk_as_it_was : Desk
  desk_as_it_was = record { sc = get_or book 2 0; waiting = get_or book 5 0; finished = 0; book = book; sums = sums; finishes = fin }

  -- aborted
  pub abort_ready : (reason : Reason) → Err reason ≡ fate_of the_fate → Ready clock desk_as_it_was
  unfolding delivery_desk
  abort_ready reason q = let a = fate_abort the_fate reason q in ready (abort a.number) a.is

  pub abort_taken : (reason : Reason) (r : After (Result Delivered Refusal)) → Err reason ≡ fate_of the_fate
      → r ≡ delivered_result clock set (Err reason) desk_as_it_was
      → r ≡ delivered_on identity set st reads keys amounts book sums fin
  unfolding delivery_desk
  abort_taken reason r q e =
      let a = fate_abort the_fate reason q in
      e ∙ (ap (λ (x : Reason). delivered_result clock set (Err x) desk_as_it_was) a.named ∙ taken (abort a.number) a.is)

  -- joined
  pub join_within : (i : ℕ) → Ok i ≡ fate_of the_fate → i ≤ get_or book 5 0
  unfolding ticked clock_view
  join_within i q = within identity set st reads keys amounts book sums fin h i (fate_join the_fate i q)

  module _ (i : ℕ) (q : Ok i ≡ fate_of the_fate) (b : List ℕ) (s : List ℤ)
      (eb : b ≡ joined_book book (get_or book 5 0) i (first_words identity set st (get_or book 3 0 + 1 + get_or book 4 0) reads keys) reads keys)
      (es : s ≡ joined_sums sums (get_or book 5 0) i amounts) where
    abbrev joined_desk : Desk
    joined_desk = record { sc = get_or book 2 0; waiting = get_or book 5 0 + 1; finished = 0; book = b; sums = s; finishes = fin }

    pub join_ready : Ready clock joined_desk
    unfolding delivery_desk
    join_ready = rw (eb, es) (ready (join i) (fate_join the_fate i q))

    pub join_taken : (r : After (Result Delivered Refusal)) → r ≡ delivered_result clock set (Ok i) joined_desk
        → r ≡ delivered_on identity set st reads keys amounts book sums fin
    unfolding delivery_desk
    join_taken r e = (rw (eb, es) at e) ∙ taken (join i) (fate_join the_fate i q)

  -- The same with the counters as they are read off the words that the ledger holds.
  module _ {words : List ℕ} (same : words ≡ book) {c : rules.Clock} (read : c ≡ clock_view words) {sc n m : ℕ} (is_sc : sc ≡ get_or words 2 0)
      (is_n : n ≡ get_or words 5 0) (is_none : m ≡ 0) where
    abbrev risen : rules.Clock
    risen = record { partitions = c.partitions; own = c.own; dc = c.dc + 1; k = c.k }

    abbrev fate_read : Fate
    fate_read = row_fate (get_or words 1 0) (c.dc + 1) (get_or words 2 0) (get_or words 5 0) set st reads keys words

    abbrev desk_read : ℕ → List ℕ → List ℤ → Desk
    desk_read waiting b s = record { sc = sc; waiting = waiting; finished = m; book = b; sums = s; finishes = fin }

    is_clock : risen ≡ clock
    unfolding clock_view
    is_clock = rw (read, same)

    is_fate : fate_read ≡ the_fate
    unfolding clock_view
    is_fate = rw (read, same)

    is_desk : desk_read n book sums ≡ desk_as_it_was
    is_desk = rw (is_sc, is_n, is_none, same)

    pub judge_asks : Judgeable (get_or words 1 0) (get_or words 2 0) (get_or words 5 0) st words
    judge_asks = rw same judgeable

    pub few_wait : n < 32
    few_wait = rw (is_n, same) numbers.list_open

    pub aborts_ready : (reason : Reason) → Err reason ≡ fate_of fate_read → Ready risen (desk_read n book sums)
    aborts_ready reason q = rw (is_clock, is_desk) (abort_ready reason (rw is_fate at q))

    pub aborts_taken : (reason : Reason) (r : After (Result Delivered Refusal)) → Err reason ≡ fate_of fate_read
        → r ≡ delivered_result risen set (Err reason) (desk_read n book sums) → r ≡ delivered_on identity set st reads keys amounts book sums fin
    aborts_taken reason r q e = abort_taken reason r (rw is_fate at q) (rw (is_clock, is_desk) at e)

    module _ (i : ℕ) (q : Ok i ≡ fate_of fate_read) where
      pub joins_within : i ≤ n
      joins_within = rw (is_n, same) (join_within i (rw is_fate at q))

      module _ (b : List ℕ) (s : List ℤ) (eb : b ≡ joined_book book n i (first_words identity set st (c.dc + 1 + c.k) reads keys) reads keys)
          (es : s ≡ joined_sums sums n i amounts) where
        book_joined : b ≡ joined_book book (get_or book 5 0) i (first_words identity set st (get_or book 3 0 + 1 + get_or book 4 0) reads keys) reads keys
        unfolding clock_view
        book_joined = rw (is_n, read, same) at eb

        sums_joined : s ≡ joined_sums sums (get_or book 5 0) i amounts
        sums_joined = rw (is_n, same) at es

        is_joined : desk_read (n + 1) b s ≡ joined_desk i (rw is_fate at q) b s book_joined sums_joined
        is_joined = rw (is_sc, is_n, is_none, same)

        pub joins_ready : Ready risen (desk_read (n + 1) b s)
        joins_ready = rw (is_clock, is_joined) (join_ready i (rw is_fate at q) b s book_joined sums_joined)

        pub joins_taken : (r : After (Result Delivered Refusal)) → r ≡ delivered_result risen set (Ok i) (desk_read (n + 1) b s)
            → r ≡ delivered_on identity set st reads keys amounts book sums fin
        joins_taken r e = join_taken i (rw is_fate at q) b s book_joined sums_joined r (rw (is_clock, is_joined) at e)
