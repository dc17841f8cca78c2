-- What the calls of the two ways out of a head ask, from what a desk is fit for. Assumes nothing.
use Rattle.closing.specs.Off.{head_bytes, fit_kept, fit_numbers}
use native.Mathlib.Omega.{arith}
use Rattle.closing.proofs.take_head.Goals as goal

pub invariant_of-head-2 : goal.invariant_of-head-2
invariant_of-head-2 c =
    let bytes = head_bytes _ _ c.requires.some_wait c.requires.fit in
    record { byte_sets = rw (c.waiting_row.ensures, c.as_book.ensures) bytes }

pub overflow_add-version : goal.overflow_add-version
overflow_add-version c = omega (arith, (fit_numbers _ _ c.requires.fit).sc_fits)

pub keep-requires-clause-kept_good : goal.keep-requires-clause-kept_good
keep-requires-clause-kept_good c = fit_kept _ _ c.requires.fit

pub keep-requires-clause-sc_bound : goal.keep-requires-clause-sc_bound
keep-requires-clause-sc_bound c = omega (arith, (fit_numbers _ _ c.requires.fit).sc_fits, c.requires.some_wait)
