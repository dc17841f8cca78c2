-- The number that refuses an operation on lent tables, or 0 where nothing does: 15 and 13 first, then the rules' own.
use Rattle.std.specs.Prelude.{ℕ, suc, ◌/◌, Bool, not, cond, ◌||◌, List, [], ◌∷◌, eqb, ltb, ℤ, length, get_or}
use Rattle.std.proofs.Math.Option.{Option, none, some}
use Rattle.rules.specs.Ledger.{State, sizes_fit}
use Rattle.rules.specs.Events.{Event, delivery, vote, change, read, Snapshot}
use Rattle.rules.specs.Soundness.{sound}
use Rattle.rules.specs.Refusals.{refusal, too_little_room}
use Rattle.laws.specs.Tabs.{tab}
use Rattle.tables.specs.Layout.{book_words, sums_words, waiting_row}
use Rattle.tables.specs.View.{view}
use Rattle.tables.specs.Voted.{ballot}
use Rattle.tables.specs.Judged.{lent}

-- A number, or 0 where nothing is refused.
abbrev pub number_of : Option ℕ → ℕ
number_of none = 0
number_of (some n) = n

-- "a lent table too short": the two tables; of a delivery also keys and amounts that don't agree.
unfoldable pub short : List ℕ → List ℤ → Bool
short book sums = ltb (length book) book_words || ltb (length sums) sums_words

-- "Then come 15 and 13, in that order, then those of the event in rising order." A finish entry is two words.
unfoldable pub lent_number : ℕ → Bool → Event → State → ℕ
lent_number words too_short e s =
    cond (too_little_room (words / 2) e) 15 (cond too_short 13 (cond (sound s) (number_of (refusal e s)) 13))

unfoldable pub delivery_number : ℕ → ℕ → ℕ → List ℕ → List ℕ → List ℤ → List ℕ → List ℤ → ℕ → ℕ
delivery_number identity set st reads keys amounts book sums words =
    lent_number words (short book sums || not (eqb (length amounts) (length keys))) (delivery (lent identity set st reads keys amounts)) (view book sums)

unfoldable pub vote_number : ℕ → ℕ → Bool → List ℕ → List ℤ → ℕ → ℕ
vote_number identity p agrees book sums words = lent_number words (short book sums) (vote identity p (ballot agrees)) (view book sums)

unfoldable pub change_number : ℕ → List ℕ → List ℤ → ℕ → ℕ
change_number k book sums words = lent_number words (short book sums) (change k) (view book sums)

-- A read lends no finish list.
unfoldable pub read_number : ℕ → Snapshot → List ℕ → List ℤ → ℕ
read_number key st book sums = lent_number 0 (short book sums) (read key st) (view book sums)

-- "opening: sizes outside the table [..] a lent table too short"
unfoldable pub opening_number : ℕ → ℕ → ℕ → List ℕ → List ℤ → ℕ
opening_number partitions own k book sums = cond (short book sums || not (sizes_fit partitions own k)) 13 0

-- The row of an identity among those that wait: the first that has it, or how many wait.
unfoldable pub index_of : ℕ → List ℕ → ℕ
index_of x [] = 0
index_of x (y ∷ ys) = cond (eqb y x) 0 (suc (index_of x ys))

unfoldable pub waiting_identities : List ℕ → List ℕ
waiting_identities book = tab (get_or book 5 0) (λ i. get_or book (waiting_row i) 0)
