use Rattle.std.proofs.Common.{◌-◌, arith}
use Rattle.arraydeque_ring.proofs.Opened.{run_filled, bounds, first_dropped}
use Rattle.arraydeque_ring.proofs.ring.Ring.truncate_front.Goals as goal

pub drop_round-requires-clause-filled : goal.drop_round-requires-clause-filled
drop_round-requires-clause-filled g c = run_filled c.self.inside c.self.invariant _ _ (omega arith)

pub invariant_of-self : goal.invariant_of-self
invariant_of-self g c = grind (
  arith,
  bounds,
  first_dropped c.self.inside c.self.invariant c.drop_round.new.slots.places (c.self.inside.len - c.args.len)
      (omega arith) c.drop_round.ensures.places,
)

pub returns : goal.returns
returns g c = grind (
  arith,
  bounds,
  first_dropped c.self.inside c.self.invariant c.drop_round.new.slots.places (c.self.inside.len - c.args.len)
      (omega arith) c.drop_round.ensures.places,
)
