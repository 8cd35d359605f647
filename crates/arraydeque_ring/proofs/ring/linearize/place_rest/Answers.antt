use Rattle.std.proofs.{Common.{◌-◌, length, arith}, lemmas.List.append-nil}
use Rattle.arraydeque_ring.proofs.linearize.{
  Underway.{Underway, underway, last_may_move, last_moved, room_for_first, room_made, first_moved},
}
use Rattle.arraydeque_ring.proofs.ring.linearize.place_rest.Goals as goal

-- the others stand in one piece
pub move_gap-requires : goal.move_gap-requires
move_gap-requires g c = grind (arith, last_may_move)

pub returns-then-left-first-clause-places : goal.returns-then-left-first-clause-places
returns-then-left-first-clause-places g c = grind (arith, append-nil, last_moved)

-- or there is room before them
pub move_gap-requires-2 : goal.move_gap-requires-2
move_gap-requires-2 g c = rw c.capacity.ensures
    (room_for_first (underway c.requires.filled (omega arith)) c.args.next (omega arith))

pub move_down-requires : goal.move_down-requires
move_down-requires g c =
    let ps = c.args.slots.places in
    let behind = length ps - c.args.next in
    let u : Underway c.args.dst (c.args.next - c.args.dst) behind c.args.len ps =
    underway c.requires.filled (omega arith) in
    let room = room_made u c.args.next (omega arith) in
    grind (arith, append-nil)

pub returns-clause-places : goal.returns-clause-places
returns-clause-places g c = grind (arith, append-nil, first_moved)
