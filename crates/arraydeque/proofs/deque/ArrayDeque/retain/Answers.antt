use Rattle.std.proofs.Common.{arith}
use Rattle.arraydeque.proofs.RetainedLeft.{kept_where}
use Rattle.arraydeque.proofs.deque.ArrayDeque.retain.Goals as goal

pub returns-clause-tested : goal.returns-clause-tested
returns-clause-tested g c =
    let r = c.retain.ensures.retains in
    λ test says. rw (← c.self.view_is)
    (kept_where g.F.FnMut test _ says _ _ (r.answers, r.last, r.one_each, r.in_turn, grind arith))
