-- "writes as key=value": a key, and behind the `=` a value and no more.
use Rattle.std.specs.Prelude.{ℕ, false, List, [], ◌∷◌, ◌≡◌, refl, ℤ, Some, None}
use Rattle.std.specs.declared.option.Option as code
use Rattle.std.proofs.Math.Option.{Option, none, some, bind}
use Rattle.rules.specs.Ledger.{Write}
use Rattle.rules.specs.Bytes.{split, number, signed, equals}
use Rattle.rules.specs.Records.{key_limit, write_parts, a_write}
use Rattle.laws.specs.Options.{given}
use Rattle.records.specs.Ends.{is_one}

abbrev pub write_of : code.Option ℕ → code.Option ℤ → Option Write
write_of None v = none
write_of (Some k) None = none
write_of (Some k) (Some v) = some (record { key = k; value = v })

both : (k : Option ℕ) (v : Option ℤ) → bind k (λ key. bind v (λ value. some (record { key = key; value = value }))) ≡ write_of (given k) (given v)
unfolding bind
both none v = refl
both (some k) none = refl
both (some k) (some v) = refl

pub write_key : (k : List ℕ) → write_parts (k ∷ []) ≡ none
unfolding write_parts
write_key k = refl

pub write_more : (k : List ℕ) (more : List (List ℕ)) → is_one more ≡ false → write_parts (k ∷ more) ≡ none
unfolding write_parts
write_more k [] h = refl
write_more k (v ∷ []) h = cc
write_more k (v ∷ next ∷ rest) h = refl

pub write_whole : (k v : List ℕ) → write_parts (k ∷ v ∷ []) ≡ write_of (given (number key_limit k)) (given (signed v))
unfolding write_parts
write_whole k v = both (number key_limit k) (signed v)

pub write_split : (s : List ℕ) → a_write s ≡ write_parts (split equals s)
unfolding a_write
write_split s = refl

pub ruleset writes = (write_key, write_more, write_whole, write_split)
