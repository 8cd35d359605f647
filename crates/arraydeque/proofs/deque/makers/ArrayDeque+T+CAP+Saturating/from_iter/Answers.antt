use Rattle.std.proofs.Math.Nat.{sub-zero}
use Rattle.arraydeque.proofs.deque.makers.ArrayDeque+T+CAP+Saturating.from_iter.Goals as goal

pub returns-in-Ok-clause-items : goal.returns-in-Ok-clause-items
returns-in-Ok-clause-items g c = rw (← sub-zero g.row.CAP) (rw c.in-Ok.ensures.ok at c.extend_back.ensures.taken)
