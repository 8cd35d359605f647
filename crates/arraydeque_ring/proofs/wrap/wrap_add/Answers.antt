use Rattle.std.proofs.Common.{arith}
use Rattle.arraydeque_ring.proofs.Masks.{at_most_half, masked}
use Rattle.arraydeque_ring.proofs.wrap.wrap_add.Goals as goal

pub overflow_add-result : goal.overflow_add-result
overflow_add-result c = grind (arith, at_most_half)

pub returns-then-capacity-eq0 : goal.returns-then-capacity-eq0
returns-then-capacity-eq0 c = grind (arith, masked)
