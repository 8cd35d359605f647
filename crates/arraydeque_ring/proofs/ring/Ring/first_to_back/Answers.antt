use Rattle.std.proofs.Common.{arith}
use Rattle.arraydeque_ring.proofs.{
  gaps.Turned.{turned_full, turned_one},
  Opened.{opened, bounds},
}
use Rattle.arraydeque_ring.proofs.ring.Ring.first_to_back.Goals as goal

pub invariant_of-self : goal.invariant_of-self
invariant_of-self g c =
    let ring = opened c.self.inside c.self.invariant c.self.view_is in
    grind (arith, turned_one ring)

pub invariant_of-self-else-self-capacity : goal.invariant_of-self-else-self-capacity
invariant_of-self-else-self-capacity g c =
    let ring = opened c.self.inside c.self.invariant c.self.view_is in
    grind (arith, turned_full ring 1)

pub returns-then-self-capacity-clause-items : goal.returns-then-self-capacity-clause-items
returns-then-self-capacity-clause-items g c =
    let ring = opened c.self.inside c.self.invariant c.self.view_is in
    grind (arith, turned_one ring)

pub returns-then-self-capacity-clause-start : goal.returns-then-self-capacity-clause-start
returns-then-self-capacity-clause-start g c = grind (arith, bounds)

pub returns-else-self-capacity-clause-items : goal.returns-else-self-capacity-clause-items
returns-else-self-capacity-clause-items g c =
    let ring = opened c.self.inside c.self.invariant c.self.view_is in
    grind (arith, turned_full ring 1)

pub returns-else-self-capacity-clause-start : goal.returns-else-self-capacity-clause-start
returns-else-self-capacity-clause-start g c = grind (arith, bounds)
