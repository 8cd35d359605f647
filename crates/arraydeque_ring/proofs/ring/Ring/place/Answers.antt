use Rattle.std.proofs.Common.{arith}
use Rattle.arraydeque_ring.proofs.{
  Masks.{at_most_half, masked},
  Opened.opened,
  places.Rotated.place_of_cases,
}
use Rattle.arraydeque_ring.proofs.ring.Ring.place.Goals as goal

pub overflow_add-result : goal.overflow_add-result
overflow_add-result g c = grind (arith, opened, at_most_half)

pub returns-then-capacity-eq0 : goal.returns-then-capacity-eq0
returns-then-capacity-eq0 g c = grind (arith, opened, masked)

pub returns : goal.returns
returns g c = grind (arith, opened, place_of_cases)
