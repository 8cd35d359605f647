use Rattle.arraydeque.proofs.WrittenEach.{changed_all}
use Rattle.arraydeque.proofs.deque.ArrayDeque.for_each_mut.Goals as goal

pub returns-clause-changed : goal.returns-clause-changed
returns-clause-changed g c = rw (← c.self.view_is)
    (λ change says. changed_all g.F.FnMut change _ says _ _ c.for_each_mut.ensures.in_turn)
