use Rattle.std.specs.Fn.{CalledAtMut}
use Rattle.arraydeque_ring.proofs.retained.Writing.{retains_in_turn}
use Rattle.arraydeque.proofs.RetainedLeft.{left_where}
use Rattle.arraydeque.proofs.deque.ArrayDeque.retain_mut.Goals as goal

pub returns-clause-filtered : goal.returns-clause-filtered
returns-clause-filtered g c =
    rw (← c.self.view_is) (retains_in_turn (CalledAtMut g.F.FnMut) _ c.retain_mut.ensures.retains)

pub returns-clause-tested : goal.returns-clause-tested
returns-clause-tested g c =
    λ test change says. left_where g.F.FnMut test change _ says _ _ (returns-clause-filtered g c)
