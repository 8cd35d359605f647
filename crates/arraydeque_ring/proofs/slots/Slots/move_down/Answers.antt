use Rattle.std.proofs.Common.{arith}
use Rattle.arraydeque_ring.proofs.moved.Reads.{
  next_empty,
  next_second,
  runs_exchanged_none,
  runs_moved_more,
}
use Rattle.arraydeque_ring.proofs.slots.Slots.move_down.Goals as goal

pub loop-k-init : goal.loop-k-init
loop-k-init g c = grind (arith, runs_exchanged_none)

pub shift-requires-clause-filled : goal.shift-requires-clause-filled
shift-requires-clause-filled g c = rw c.loop-k.invariant.places
    (next_second _ _ c.loop-k.k _ _ (omega arith) c.requires.apart c.requires.filled)

pub shift-requires-clause-empty : goal.shift-requires-clause-empty
shift-requires-clause-empty g c = rw c.loop-k.invariant.places
    (next_empty _ _ c.loop-k.k _ _ (omega arith) c.requires.apart c.requires.filled c.requires.empty)

pub loop-k-preserved : goal.loop-k-preserved
loop-k-preserved g c = grind (arith, runs_moved_more)
