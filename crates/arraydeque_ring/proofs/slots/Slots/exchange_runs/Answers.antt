use Rattle.std.proofs.Common.{arith}
use Rattle.arraydeque_ring.proofs.moved.Reads.{
  next_first,
  next_second,
  runs_exchanged_more,
  runs_exchanged_none,
}
use Rattle.arraydeque_ring.proofs.slots.Slots.exchange_runs.Goals as goal

pub loop-k-init : goal.loop-k-init
loop-k-init g c = grind (arith, runs_exchanged_none)

pub exchange-requires-clause-a_filled : goal.exchange-requires-clause-a_filled
exchange-requires-clause-a_filled g c = rw c.loop-k.invariant.places
    (next_first _ _ c.loop-k.k _ _ (omega arith) c.requires.apart c.requires.b_filled c.requires.a_filled)

pub exchange-requires-clause-b_filled : goal.exchange-requires-clause-b_filled
exchange-requires-clause-b_filled g c = rw c.loop-k.invariant.places
    (next_second _ _ c.loop-k.k _ _ (omega arith) c.requires.apart c.requires.b_filled)

pub loop-k-preserved : goal.loop-k-preserved
loop-k-preserved g c = grind (arith, runs_exchanged_more)
