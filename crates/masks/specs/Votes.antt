-- The masks of the vote's rules: the involved partitions less our own, the votes outstanding, a no among them, voters that are none of them.
-- Each law takes the masks as they come, a number with what it names.
use Rattle.std.specs.Prelude.{ℕ, ◌-◌, ◌*◌, ◌^◌, ◌%◌, ◌≤◌, ◌<◌, Bool, true, false, not, ◌&&◌, ◌||◌, ◌≡◌, refl, eqb}
use Rattle.std.proofs.Common.{sym, ◌∙◌, eqb-true, eq-eqb, ne_eqb, le-leb, lt_of_le_of_lt}
use Rattle.std.proofs.lemmas.Bool.{eqb-false, lt-leb}
use Rattle.std.specs.Int.Bits.{bit_and, bit_or}
use Rattle.std.proofs.lemmas.Nat.{and_le_l, and_le_r, or_lt}
use Rattle.std.specs.Int.Count.{ones}
use Rattle.std.proofs.Math.Pow.{pow-lt}
use Rattle.rules.specs.Partitions.{names, only, every_partition, other, Heard, heard_from, outstanding, any_outstanding, every_vote_yes, from_others}
use Rattle.laws.specs.Tests.{split, all_same}
use Rattle.laws.specs.Bits.{names_only}
use Rattle.masks.specs.Operations.{names_and, names_or, names_not, shift_only}
use Rattle.masks.specs.Empty.{ones_none, empty_mask, none_passes}

-- A mask that names the partitions below 8 which pass a test.
abbrev pub Names : ℕ → (ℕ → Bool) → Type 0
Names m f = (p : ℕ) → p < 8 → names m p ≡ f p

-- What both of two masks name, and what the first names and the second doesn't.
names_both : (a b : ℕ) (f g : ℕ → Bool) → Names a f → Names b g → Names (bit_and a b) (λ p. f p && g p)
names_both a b f g j k p low = rw (names_and a b p, j p low, k p low)

names_less : (a b : ℕ) (f g : ℕ → Bool) → b < 256 → Names a f → Names b g → Names (bit_and a (255 - b)) (λ p. f p && not (g p))
names_less a b f g l j k p low = rw (names_and a (255 - b) p, names_not 8 b p l low, j p low, k p low)

-- "the involved partitions, less our own"
eqb_turned : (a b : ℕ) → eqb a b ≡ eqb b a
eqb_turned a b =
    split (eqb b a)
    (λ q. rw q (eq-eqb a b (sym (eqb-true b a q))))
    (λ q. rw q (ne_eqb a b (λ e. eqb-false b a q (sym e))))

pub others_mask : (own set : ℕ) → own < 8 → Names (bit_and set (255 - 1 * 2 ^ own % 256)) (other own set)
unfolding other
others_mask own set l =
    rw (shift_only 8 own l)
    (names_less set (only own) (names set) (λ p. eqb p own) (pow-lt l) (λ p low. refl) (λ p low. names_only own p ∙ eqb_turned own p))

-- "The votes outstanding are the involved partitions, less our own and less those heard."
pub outstanding_mask : (own set ayes nays m : ℕ) → ayes < 256 → nays < 256 → Names m (other own set)
    → Names (bit_and m (255 - bit_or ayes nays)) (outstanding own set (record { ayes = ayes; nays = nays }))
unfolding outstanding heard_from
outstanding_mask own set ayes nays m l n k =
    names_less m (bit_or ayes nays) (other own set) (λ p. names ayes p || names nays p) (or_lt 8 ayes nays l n) k
    (λ p low. names_or ayes nays p)

-- "no vote is outstanding": no bit of that mask counts.
pub none_outstanding : (own set m : ℕ) (h : Heard) → m < 256 → Names m (outstanding own set h)
    → eqb (ones m) 0 ≡ not (any_outstanding own set h)
unfolding any_outstanding
none_outstanding own set m h l k =
    ones_none m ∙ empty_mask (outstanding own set h) m l k ∙ sym (none_passes (outstanding own set h) every_partition)

-- "if every vote was yes": nobody is both awaited and among the nays.
pub none_said_no : (own set ayes nays m : ℕ) → nays < 256 → Names m (other own set)
    → eqb (bit_and m nays) 0 ≡ every_vote_yes own set (record { ayes = ayes; nays = nays })
unfolding every_vote_yes
none_said_no own set ayes nays m l k =
    empty_mask (λ p. other own set p && names nays p) (bit_and m nays) (lt_of_le_of_lt (and_le_r m nays) l)
    (names_both m nays (other own set) (names nays) k (λ p low. refl))

-- "stored votes come from other involved partitions": nobody voted that isn't one, and nobody beyond partition 7.
unless : (a b : Bool) → not (a && not b) ≡ (not a || b)
unless true true = refl
unless true false = refl
unless false b = refl

pub none_strange : (own set voters m : ℕ) → voters < 256 → m < 256 → Names m (other own set)
    → eqb (bit_and voters (255 - m)) 0 ≡ from_others own set voters
unfolding from_others
none_strange own set voters m l b k =
    rw (lt-leb 256 voters l)
    (empty_mask (λ p. names voters p && not (other own set p)) (bit_and voters (255 - m)) (lt_of_le_of_lt (and_le_l voters (255 - m)) l)
    (names_less voters m (names voters) (other own set) b (λ p low. refl) k)
    ∙ all_same (λ p. not (names voters p && not (other own set p))) (λ p. not (names voters p) || other own set p)
    (λ p. unless (names voters p) (other own set p)) every_partition)

pub beyond_strange : (own set voters : ℕ) → 256 ≤ voters → false ≡ from_others own set voters
unfolding from_others
beyond_strange own set voters l = rw (le-leb 256 voters l)
