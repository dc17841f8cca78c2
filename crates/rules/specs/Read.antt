-- 01, "What an event does": Read.
use Rattle.std.specs.Prelude.{ℕ, ◌-◌, cond, List, [], ◌∷◌, eqb, ℤ, pos, drop, get_or}
use Rattle.std.proofs.Math.Option.{Option, none, some, get_or as else_value}
use Rattle.rules.specs.Ledger.{Write, Commit, Books}

-- What a list of writes puts at a key, if it writes it.
unfoldable pub put_at : ℕ → List Write → Option ℤ
put_at key [] = none
put_at key (w ∷ ws) = cond (eqb key w.key) (some w.value) (put_at key ws)

-- The value of the newest of some commits that writes the key, else the value at the floor.
unfoldable pub newest_value : ℕ → List Commit → List ℤ → ℤ
newest_value key [] values = get_or values key (pos 0)
newest_value key (c ∷ cs) values = else_value (put_at key c.writes) (newest_value key cs values)

-- "the value of the newest version that is at most st": the commits above st, the first SC - st, are left out.
unfoldable pub read_at : ℕ → ℕ → Books → ℤ
read_at key st b = newest_value key (drop (b.sc - st) b.kept) b.values
