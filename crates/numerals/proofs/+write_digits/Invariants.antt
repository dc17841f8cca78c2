-- The measure is the number. A number's text is the text of its digits before the last one, and the last one (`decimal_large` of `specs/Decimal.antt`); two writers one behind
-- the other leave what one would (`put_put`). Assumes nothing.
use Rattle.numerals.proofs.+write_digits.Given as goal

abbrev pub decreases-write_digits : goal.decreases-write_digits
decreases-write_digits l = l.v
