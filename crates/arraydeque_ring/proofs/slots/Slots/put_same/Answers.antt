use Rattle.std.proofs.{
  Common.arith,
  lemmas.{Grind.common_steps, List.{length-replicate, replicate_more}},
}
use Rattle.arraydeque_ring.proofs.{fills.Filling.with_run-behind, places.Filled.empty_in_run}
use Rattle.arraydeque_ring.proofs.slots.Slots.put_same.Goals as goal

pub put-requires : goal.put-requires
put-requires g c = rw c.loop-k.invariant.places
    (grind (arith, common_steps, empty_in_run _ _ _ c.loop-k.k c.requires))

pub loop-k-preserved : goal.loop-k-preserved
loop-k-preserved g c = grind (arith, length-replicate, replicate_more, with_run-behind)
