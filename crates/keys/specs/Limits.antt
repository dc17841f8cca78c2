-- A list of keys within its limits: a key over 1,023 at some place, or none at any and the order alone left to ask.
use Rattle.std.specs.Prelude.{ℕ, Bool, true, false, not, List, ◌≡◌}
use Rattle.std.specs.List.{list_any}
use Rattle.std.proofs.Common.{sym, ◌∙◌}
use borrow.Author.Tests.{not-true, not-false}
use Rattle.rules.specs.Keys.{ascending, bad_key, bad_keys, too_many, good_set}
use Rattle.laws.specs.Tests.{and_right, or_right}

-- A key over 1,023 is found, or none is and the order decides.
module _ (xs : List ℕ) {found : Bool} (says : found ≡ list_any bad_key xs) where
  pub some_bad : found ≡ true → found ≡ bad_keys xs
  unfolding bad_keys
  some_bad h = h ∙ rw (sym says ∙ h)

  pub none_bad : {ascends : Bool} → found ≡ false → ascends ≡ ascending xs → not ascends ≡ bad_keys xs
  unfolding bad_keys
  none_bad {ascends} h e = rw (sym says ∙ h, e)

-- A list within its limits is ascending: what a merge asks of it.
pub not_bad_ascending : (xs : List ℕ) → bad_keys xs ≡ false → ascending xs ≡ true
unfolding bad_keys
not_bad_ascending xs h = not-false (ascending xs) (or_right (list_any bad_key xs) (not (ascending xs)) h)

pub good_ascending : (xs : List ℕ) → good_set xs ≡ true → ascending xs ≡ true
unfolding good_set
good_ascending xs h = not_bad_ascending xs (not-true (bad_keys xs) (and_right (not (too_many xs)) (not (bad_keys xs)) h))
