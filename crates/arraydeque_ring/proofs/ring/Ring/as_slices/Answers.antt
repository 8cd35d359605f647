use Rattle.std.proofs.{Common.{◌-◌, arith}, lemmas.Grind.common_steps}
use Rattle.arraydeque_ring.proofs.Opened.{bounds, piece_filled, rest_filled}
use Rattle.arraydeque_ring.proofs.ring.Ring.as_slices.Goals as goal

pub slice-requires-else-self-to_end : goal.slice-requires-else-self-to_end
slice-requires-else-self-to_end g c = grind
    (arith, bounds, piece_filled c.self.inside c.self.invariant (c.capacity.result - c.self.inside.start))

pub slice-requires-else-self-to_end-2 : goal.slice-requires-else-self-to_end-2
slice-requires-else-self-to_end-2 g c = grind
    (arith, bounds, rest_filled c.self.inside c.self.invariant (c.capacity.result - c.self.inside.start))

pub returns-else-self-to_end-clause-cut : goal.returns-else-self-to_end-clause-cut
returns-else-self-to_end-clause-cut g c = grind (arith, common_steps, bounds)
