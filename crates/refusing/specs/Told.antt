-- The numbers of the refusals, "numbers the desk hands back", and what a check's answer tells: the number that refuses, or 0.
use Rattle.std.specs.Prelude.{ℕ, ◌-◌, [], ◌∷◌, ◌≡◌, refl, get_or, Result, Ok, Err, true, is_ok}
use Rattle.std.proofs.Common.{ap, sym, ◌∙◌, arith}
use Rattle.refusing.specs.declared.refusals.Refusal.{Refusal}
use Rattle.refusing.specs.declared.refusals.Refusal.TheVariants.{PartitionSet, ManyKeys, Key, Identity, SnapshotAhead, SnapshotFolded, FullList, LastDelivery, NotWaiting, NotAsked, HasVoted, Threshold, Unusable, Unreadable, LittleRoom}

abbrev pub numbered : Refusal → ℕ
numbered PartitionSet = 1
numbered ManyKeys = 2
numbered Key = 3
numbered Identity = 4
numbered SnapshotAhead = 5
numbered SnapshotFolded = 6
numbered FullList = 7
numbered LastDelivery = 8
numbered NotWaiting = 9
numbered NotAsked = 10
numbered HasVoted = 11
numbered Threshold = 12
numbered Unusable = 13
numbered Unreadable = 14
numbered LittleRoom = 15

-- The refusal that a number names, of the numbers 1 to 15.
abbrev pub named : ℕ → Refusal
named n =
    get_or (PartitionSet ∷ ManyKeys ∷ Key ∷ Identity ∷ SnapshotAhead ∷ SnapshotFolded ∷ FullList ∷ LastDelivery ∷ NotWaiting ∷ NotAsked ∷ HasVoted
    ∷ Threshold ∷ Unusable ∷ Unreadable ∷ LittleRoom ∷ []) (n - 1) LittleRoom

pub named_numbered : (r : Refusal) → named (numbered r) ≡ r
named_numbered r = grind arith

-- No two refusals have one number, so the number settles which it is.
pub same_refusal : (r s : Refusal) → numbered r ≡ numbered s → r ≡ s
same_refusal r s e = sym (named_numbered r) ∙ (ap named e ∙ named_numbered s)

-- No refusal has number 0.
pub some_number : (r : Refusal) → numbered r ≡ 0 → ⊥
some_number r e = grind arith

-- The number of a check's refusal, or 0 where it refuses nothing.
abbrev pub told : {A : Type 0} → Result A Refusal → ℕ
told (Ok a) = 0
told (Err r) = numbered r

-- What is told settles the answer: a number other than 0 that it is just the refusal of that number, and 0 that nothing is refused.
module _ {A : Type 0} where
  pub told_refused : (answer : Result A Refusal) (r : Refusal) → told answer ≡ numbered r → answer ≡ Err r
  told_refused (Ok a) r e = absurd (some_number r (sym e))
  told_refused (Err s) r e = ap Err (same_refusal s r e)

  pub told_nothing : (answer : Result A Refusal) → told answer ≡ 0 → is_ok answer ≡ true
  told_nothing (Ok a) e = refl
  told_nothing (Err r) e = absurd (some_number r e)
