-- What the answer of `smallest_shared` says of the two lists.
use Rattle.std.specs.Prelude.{ℕ, true, false, List, ◌≡◌, Some, None}
use Rattle.rules.specs.Keys.{ascending, shared, meet}
use Rattle.laws.specs.Members.{Smallest, shared_smallest}
use Rattle.laws.specs.Options.{given, given_some, given_none}

-- A key that is given is the smallest that both lists hold.
pub answer_smallest : (xs ys : List ℕ) (key : ℕ) → ascending xs ≡ true → Some key ≡ given (shared xs ys) → Smallest xs ys key
answer_smallest xs ys key a e = shared_smallest xs ys key a (given_some (shared xs ys) key e)

-- Two lists meet exactly where a key is given.
pub key_meets : (xs ys : List ℕ) (key : ℕ) → Some key ≡ given (shared xs ys) → meet xs ys ≡ true
unfolding meet
key_meets xs ys key e = rw (given_some (shared xs ys) key e)

pub nothing_meets : (xs ys : List ℕ) → None ≡ given (shared xs ys) → meet xs ys ≡ false
unfolding meet
nothing_meets xs ys e = rw (given_none (shared xs ys) e)
