use Rattle.std.proofs.Common.{◌≡◌, length, arith}
use Rattle.arraydeque_ring.{
  proofs.{gaps.Turned.fewest_rotate, Opened.{opened, bounds}, places.Rotated.place_of-zero},
  specs.Sides.start_rotated,
}
use Rattle.arraydeque_ring.proofs.ring.Ring.rotate_left.Goals as goal

pub returns-then-others-gt0-clause-fewest : goal.returns-then-others-gt0-clause-fewest
returns-then-others-gt0-clause-fewest g c =
    let old = c.args.self.now in
    let ring = opened c.self.inside c.self.invariant c.self.view_is in
    let starts : c.first_to_back.new.self.start ≡ start_rotated c.args.count old = grind (arith, bounds) in
    rw starts
    (fewest_rotate c.args.count (length old.items) old.capacity old.start (omega arith) c.requires (omega arith))

pub returns-then-count-gt1-clause-fewest : goal.returns-then-count-gt1-clause-fewest
returns-then-count-gt1-clause-fewest g c =
    let old = c.args.self.now in
    let ring = opened c.self.inside c.self.invariant c.self.view_is in
    let starts : c.last_to_front.new.self.start ≡ start_rotated c.args.count old = grind (arith, bounds) in
    rw starts
    (fewest_rotate c.args.count (length old.items) old.capacity old.start (omega arith) c.requires (omega arith))

pub returns-then-count-gt0-clause-fewest : goal.returns-then-count-gt0-clause-fewest
returns-then-count-gt0-clause-fewest g c =
    let old = c.args.self.now in
    let ring = opened c.self.inside c.self.invariant c.self.view_is in
    rw c.turn.ensures.start
    (fewest_rotate c.args.count (length old.items) old.capacity old.start (omega arith) c.requires (omega arith))

pub returns-else-count-gt0-clause-fewest : goal.returns-else-count-gt0-clause-fewest
returns-else-count-gt0-clause-fewest g c =
    let old = c.args.self.now in
    let ring = opened c.self.inside c.self.invariant c.self.view_is in
    let stays : start_rotated c.args.count old ≡ old.start = grind (arith, bounds, place_of-zero) in
    rw stays at
    (fewest_rotate c.args.count (length old.items) old.capacity old.start (omega arith) c.requires (omega arith))
