-- What the rules give or don't give, as the code's own Option: every function that answers so is held to its rule by this one definition.
use Rattle.std.specs.Prelude.{◌≡◌, refl, Some, None}
use Rattle.std.proofs.Math.Option.{Option, some, none}
use Rattle.std.specs.declared.option.Option as code

module _ {A : Type 0} where
  abbrev pub given : Option A → code.Option A
  given none = None
  given (some x) = Some x

  pub some_given : {found : Option A} {x : A} → found ≡ some x → Some x ≡ given found
  some_given e = rw e

  pub none_given : {found : Option A} → found ≡ none → None ≡ given found
  none_given e = rw e

  -- The answer is Some exactly where the rules give a value, and it is that value.
  pub given_some : (found : Option A) (x : A) → Some x ≡ given found → found ≡ some x
  given_some none x e = cc
  given_some (some y) x e = cc

  pub given_none : (found : Option A) → None ≡ given found → found ≡ none
  given_none none e = refl
  given_none (some y) e = cc
