use Rattle.std.proofs.Common.{inl, inr, length, arith}
use Rattle.arraydeque_ring.proofs.{
  moved.Flat.{distance_is, moved_one},
  places.Rotated.place_of-zero,
}
use Rattle.arraydeque_ring.proofs.slots.Slots.wrap_move.Goals as goal

pub shift-requires-clause-filled : goal.shift-requires-clause-filled
shift-requires-clause-filled g c = rw (place_of-zero c.args.src (length c.args.self.now.places) (omega arith)) at
    (c.requires.filled 0 (omega arith))

pub shift-requires-clause-empty : goal.shift-requires-clause-empty
shift-requires-clause-empty g c = let n = length c.args.self.now.places in
    elim (rw (place_of-zero c.args.dst n (omega arith)) at (c.requires.free 0 (omega arith))) [
      | inl near ↦ absurd (grind (arith, distance_is c.args.src c.args.dst n (omega arith) (omega arith)))
      | inr empty ↦ empty
    ]

pub returns-then-len-eq1-clause-places : goal.returns-then-len-eq1-clause-places
returns-then-len-eq1-clause-places g c = rw (c.shift.ensures.places, c.if-len-eq1.true)
    (moved_one c.args.dst c.args.src c.args.self.now.places (omega arith) (omega arith) (omega arith))
