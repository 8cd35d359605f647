use Rattle.std.proofs.{Common.{None, arith}, lemmas.List.ext_get_or}
use Rattle.arraydeque_ring_tests.proofs.block_moves.region_of.Goals as goal

pub returns : goal.returns
returns c =
    let walked = c.loop-place.invariant in
    ext_get_or None c.loop-place.slots.places c.args.row.now walked.long (λ x lt.
    walked.done x (omega (arith, walked.long, c.loop-place-test.false)))
