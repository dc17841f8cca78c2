-- What the engine keeps: transactions, waiting entries, kept commits, the counters and the values, and the state at opening.
use Rattle.std.specs.Prelude.{ℕ, Bool, ◌&&◌, List, [], map, ◌≡◌, eqb, leb, ltb, ℤ, pos, replicate}
use Rattle.rules.specs.Sizes.{keys, most_partitions, most_k}
use Rattle.rules.specs.Partitions.{only, Heard}

-- "writes (key and value)"
pub record Write : Type 0 where
  pub key : ℕ
  pub value : ℤ

-- "A transaction has an identity, a set of partitions (one bit each), a snapshot st, keys read, and writes (key and value)."
pub record Transaction : Type 0 where
  pub identity : ℕ
  pub partitions : ℕ
  pub st : ℕ
  pub reads : List ℕ
  pub writes : List Write

-- The keys written.
abbrev pub keys_of : List Write → List ℕ
keys_of ws = map (λ w. w.key) ws

-- "It is local when its only partition is the engine's own, otherwise global."
unfoldable pub is_local : ℕ → Transaction → Bool
is_local own t = eqb t.partitions (only own)

-- An entry of the waiting list: the transaction, its rt and the votes stored.
pub record Entry : Type 0 where
  pub transaction : Transaction
  pub rt : ℕ
  pub heard : Heard

-- "The commit's reads and writes are kept", under its identity.
pub record Commit : Type 0 where
  pub identity : ℕ
  pub reads : List ℕ
  pub writes : List Write

-- The counters that a delivery and a change touch, and the sizes at opening.
pub record Clock : Type 0 where
  pub partitions : ℕ
  pub own : ℕ
  pub dc : ℕ
  pub k : ℕ

-- What a commit touches: the snapshot counter, the kept commits (the newest first), and the values at the floor, one for each key.
pub record Books : Type 0 where
  pub sc : ℕ
  pub kept : List Commit
  pub values : List ℤ

-- "keeps a waiting list, a store with versions, a snapshot counter SC and a delivery counter DC"
pub record State : Type 0 where
  pub clock : Clock
  pub waiting : List Entry
  pub books : Books

-- "States are equal when counters, k, waiting entries with their votes, kept commits and values are." The sizes at opening count as counters.
pub record Same (s t : State) : Type 0 where
  pub partitions : s.clock.partitions ≡ t.clock.partitions
  pub own : s.clock.own ≡ t.clock.own
  pub dc : s.clock.dc ≡ t.clock.dc
  pub sc : s.books.sc ≡ t.books.sc
  pub k : s.clock.k ≡ t.clock.k
  pub waiting : s.waiting ≡ t.waiting
  pub kept : s.books.kept ≡ t.books.kept
  pub values : s.books.values ≡ t.books.values

-- "all holding 0 at opening, version 0"
unfoldable pub opening : ℕ → ℕ → ℕ → State
opening partitions own k =
    record {
      clock = record { partitions = partitions; own = own; dc = 0; k = k };
      waiting = [];
      books = record { sc = 0; kept = []; values = replicate keys (pos 0) };
    }

-- "opening: sizes outside the table": partitions 1 to 8, our own one of them, k 0 to 31.
unfoldable pub sizes_fit : ℕ → ℕ → ℕ → Bool
sizes_fit partitions own k = leb 1 partitions && leb partitions most_partitions && ltb own partitions && leb k most_k
