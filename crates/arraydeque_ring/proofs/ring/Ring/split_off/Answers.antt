use Rattle.std.proofs.{Common.arith, lemmas.Grind.common_steps}
use Rattle.arraydeque_ring.proofs.{Opened.{bounds, run_filled}, places.Handed.all_empty}
use Rattle.arraydeque_ring.proofs.ring.Ring.split_off.Goals as goal

pub take_round-requires-clause-empty : goal.take_round-requires-clause-empty
take_round-requires-clause-empty g c = grind (arith, common_steps, bounds, all_empty)

pub take_round-requires-clause-filled : goal.take_round-requires-clause-filled
take_round-requires-clause-filled g c =
    let ring = bounds c.self.inside _ c.self.invariant c.self.view_is in
    run_filled c.self.inside c.self.invariant _ _ (omega arith)
