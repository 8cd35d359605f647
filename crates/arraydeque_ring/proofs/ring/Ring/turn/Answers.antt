use Rattle.std.proofs.Common.{◌++◌, take, drop, arith}
use Rattle.arraydeque_ring.proofs.{
  gaps.Turned.{may_turn, start_turned, turned, turned_full},
  Opened.{opened, bounds, Shows},
  ring.Ring.turn.{Given.Over, Goals.{After-close_room-slots, Else-has_room}},
}
use Rattle.arraydeque_ring.proofs.ring.Ring.turn.Goals as goal

pub close_room-slots-requires : goal.close_room-slots-requires
close_room-slots-requires g c =
    let ring = opened c.self.inside c.self.invariant c.self.view_is in
    grind (arith, may_turn)

after : (g : Over) (c : After-close_room-slots g) → let old = c.args.self.now in
    Shows old.capacity c.close_room-slots.result.1 c.self.inside.len
    (drop c.args.count old.items ++ take c.args.count old.items) c.close_room-slots.result.0.places
after g c =
    let ring = opened c.self.inside c.self.invariant c.self.view_is in
    let moved = c.close_room-slots.ensures in
    turned ring c.args.count c.requires.within (omega arith) _ _
    (rw (
      c.move_out.ensures.region,
      c.wrap_add-first.ensures,
      c.capacity-capacity.ensures,
      ring.laid.length_is,
    ) at moved.start)
    (rw (
      c.move_out.ensures.region,
      c.wrap_add-first.ensures,
      c.capacity-capacity.ensures,
      ring.laid.length_is,
    ) at moved.places)

full : (g : Over) (c : Else-has_room g) → let old = c.args.self.now in
    Shows old.capacity c.wrap_add-first.result c.self.inside.len
    (drop c.args.count old.items ++ take c.args.count old.items) c.self.inside.slots.places
full g c = let ring = opened c.self.inside c.self.invariant c.self.view_is in grind (arith, turned_full)

pub invariant_of-self : goal.invariant_of-self
invariant_of-self g c =
    let now = after g (goal.at.invariant_of-self g c).After-close_room-slots in (now.1, now.2)

pub invariant_of-self-else-has_room : goal.invariant_of-self-else-has_room
invariant_of-self-else-has_room g c = let now = full g c in (now.1, now.2)

pub returns-then-has_room-clause-items : goal.returns-then-has_room-clause-items
returns-then-has_room-clause-items g c =
    (after g (goal.at.returns-then-has_room-clause-items g c).After-close_room-slots).3

pub returns-then-has_room-clause-capacity : goal.returns-then-has_room-clause-capacity
returns-then-has_room-clause-capacity g c =
    (after g (goal.at.returns-then-has_room-clause-capacity g c).After-close_room-slots).0

pub returns-then-has_room-clause-start : goal.returns-then-has_room-clause-start
returns-then-has_room-clause-start g c = grind (arith, opened, start_turned)

pub returns-else-has_room-clause-items : goal.returns-else-has_room-clause-items
returns-else-has_room-clause-items g c = (full g c).3

pub returns-else-has_room-clause-start : goal.returns-else-has_room-clause-start
returns-else-has_room-clause-start g c = grind (arith, bounds)
