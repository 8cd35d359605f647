use Rattle.std.proofs.Common.{◌-◌, ◌<◌, length, drop, arith}
use Rattle.arraydeque_ring.{
  proofs.{
    fills.Laying.up_by-is,
    Opened.{Shows, bounds, piece_filled, piece_taken},
    ring.Ring.append_run.{Given.Over, Goals.After-hand_over},
  },
  specs.Ring.{place_of, rotated, values},
}
use Rattle.arraydeque_ring.proofs.ring.Ring.append_run.Goals as goal

pub hand_over-requires-clause-filled : goal.hand_over-requires-clause-filled
hand_over-requires-clause-filled g c =
    let other = bounds c.other.inside _ c.other.invariant c.other.view_is in
    piece_filled c.other.inside c.other.invariant c.min-count.result (omega arith) (omega arith)

-- the place behind the last item is in the region, so some go over
some : (g : Over) (c : After-hand_over g) → 0 < c.min-count.result
some g c = grind (arith, bounds)

-- the other ring, without them
there : (g : Over) (c : After-hand_over g) → let other = c.other.inside in let n = length other.slots.places in
    Shows n (place_of other.start c.min-count.result n) (other.len - c.min-count.result)
    (drop c.min-count.result (values (rotated other.start other.slots.places))) c.hand_over.new.self.places
there g c =
    let other = bounds c.other.inside _ c.other.invariant c.other.view_is in
    rw c.hand_over.ensures.here
    (piece_taken c.other.inside c.other.invariant c.min-count.result (some g c) (omega arith) (omega arith))

pub invariant_of-other : goal.invariant_of-other
invariant_of-other g c = grind (arith, there g (goal.at.invariant_of-other g c).After-hand_over)

pub returns-clause-there : goal.returns-clause-there
returns-clause-there g c =
    let other = bounds c.other.inside _ c.other.invariant c.other.view_is in
    let start = up_by-is c.min-count.result c.other.inside.start (length c.other.inside.slots.places) (omega arith) in
    grind (arith, start, there g (goal.at.returns-clause-there g c).After-hand_over)
