use Rattle.std.proofs.{Common.arith, lemmas.{Grind.common_steps, List.set-set}}
use Rattle.arraydeque_ring.proofs.{fills.Filling.one_up, places.Filled.filled_in_run}
use Rattle.arraydeque_ring.proofs.ring.fill.displace_up.Goals as goal

pub take-first-requires : goal.take-first-requires
take-first-requires g c =
    let some = filled_in_run _ _ _ c.loop-displaced.displaced c.requires.filled (omega arith) in
    (some.0, rw c.loop-displaced.invariant.came.holds.1 (grind (arith, common_steps)))

pub loop-displaced-preserved : goal.loop-displaced-preserved
loop-displaced-preserved g c = grind (arith, one_up, set-set)
