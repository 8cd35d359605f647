use Rattle.std.proofs.{Common.arith, lemmas.Grind.common_steps}
use Rattle.arraydeque_ring.proofs.{fills.Filling.one_up, places.Filled.empty_in_run}
use Rattle.arraydeque_ring.proofs.ring.fill.fill_up.Goals as goal

pub put-requires : goal.put-requires
put-requires g c = rw c.loop-filled.invariant.came.holds.1
    (grind (arith, common_steps, empty_in_run _ _ _ c.loop-filled.filled c.requires.empty))

pub loop-filled-preserved : goal.loop-filled-preserved
loop-filled-preserved g c = grind (arith, one_up)
