-- A delivery that nothing refuses: judged, then settled as it was or with the newcomer in its place.
use Rattle.std.proofs.Common.{arith}
use Rattle.engine.specs.Taking.{numbers, reads_ascend, keys_ascend, judge_asks, few_wait, aborts_ready, aborts_taken, joins_within, joins_ready, joins_taken}
use Rattle.engine.proofs.taking.take_delivery.Goals as goal

pub invariant_of-newcomer : goal.invariant_of-newcomer
invariant_of-newcomer c = record { ascends = reads_ascend _ _ _ _ _ _ _ _ _ c.requires }

pub invariant_of-newcomer-2 : goal.invariant_of-newcomer-2
invariant_of-newcomer-2 c = record { ascends = keys_ascend _ _ _ _ _ _ _ _ _ c.requires }

pub judge-requires : goal.judge-requires
judge-requires c =
    judge_asks _ _ _ _ _ _ _ _ _ c.requires c.as_book-book.ensures c.of-before.ensures c.of-tally.ensures.sc c.of-tally.ensures.waiting c.of-tally.ensures.none_finished

pub settle_delivery-requires : goal.settle_delivery-requires
settle_delivery-requires c =
    aborts_ready _ _ _ _ _ _ _ _ _ c.requires c.as_book-book.ensures c.of-before.ensures c.of-tally.ensures.sc c.of-tally.ensures.waiting c.of-tally.ensures.none_finished _ c.in-Err.ensures

pub join-requires-clause-n_bound : goal.join-requires-clause-n_bound
join-requires-clause-n_bound c =
    few_wait _ _ _ _ _ _ _ _ _ c.requires c.as_book-book.ensures c.of-before.ensures c.of-tally.ensures.sc c.of-tally.ensures.waiting c.of-tally.ensures.none_finished

pub join-requires-clause-i_le_n : goal.join-requires-clause-i_le_n
join-requires-clause-i_le_n c =
    joins_within _ _ _ _ _ _ _ _ _ c.requires c.as_book-book.ensures c.of-before.ensures c.of-tally.ensures.sc c.of-tally.ensures.waiting c.of-tally.ensures.none_finished _ c.in-Ok.ensures

pub join-requires-clause-reads_len_bound : goal.join-requires-clause-reads_len_bound
join-requires-clause-reads_len_bound c = (numbers _ _ _ _ _ _ _ _ _ c.requires).few_reads

pub join-requires-clause-keys_len_bound : goal.join-requires-clause-keys_len_bound
join-requires-clause-keys_len_bound c = (numbers _ _ _ _ _ _ _ _ _ c.requires).few_keys

pub overflow_add-joined : goal.overflow_add-joined
overflow_add-joined c =
    omega (arith, few_wait _ _ _ _ _ _ _ _ _ c.requires c.as_book-book.ensures c.of-before.ensures c.of-tally.ensures.sc c.of-tally.ensures.waiting c.of-tally.ensures.none_finished)

pub overflow_cast-i : goal.overflow_cast-i
overflow_cast-i c =
    let few = few_wait _ _ _ _ _ _ _ _ _ c.requires c.as_book-book.ensures c.of-before.ensures c.of-tally.ensures.sc c.of-tally.ensures.waiting c.of-tally.ensures.none_finished in
    let low = joins_within _ _ _ _ _ _ _ _ _ c.requires c.as_book-book.ensures c.of-before.ensures c.of-tally.ensures.sc c.of-tally.ensures.waiting c.of-tally.ensures.none_finished _ c.in-Ok.ensures in
    omega arith

pub settle_delivery-requires-in-Ok : goal.settle_delivery-requires-in-Ok
settle_delivery-requires-in-Ok c =
    joins_ready _ _ _ _ _ _ _ _ _ c.requires c.as_book-book.ensures c.of-before.ensures c.of-tally.ensures.sc c.of-tally.ensures.waiting c.of-tally.ensures.none_finished _ c.in-Ok.ensures
    _ _ c.join.ensures.book_after c.join.ensures.sums_after

pub returns-in-Err-clause-after : goal.returns-in-Err-clause-after
returns-in-Err-clause-after c =
    aborts_taken _ _ _ _ _ _ _ _ _ c.requires c.as_book-book.ensures c.of-before.ensures c.of-tally.ensures.sc c.of-tally.ensures.waiting c.of-tally.ensures.none_finished
    _ _ c.in-Err.ensures c.settle_delivery.ensures.after

pub returns-in-Ok-clause-after : goal.returns-in-Ok-clause-after
returns-in-Ok-clause-after c =
    joins_taken _ _ _ _ _ _ _ _ _ c.requires c.as_book-book.ensures c.of-before.ensures c.of-tally.ensures.sc c.of-tally.ensures.waiting c.of-tally.ensures.none_finished _ c.in-Ok.ensures
    _ _ c.join.ensures.book_after c.join.ensures.sums_after _ c.settle_delivery-in-Ok.ensures.after
