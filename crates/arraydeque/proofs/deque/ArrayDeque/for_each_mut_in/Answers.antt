use Rattle.arraydeque.proofs.WrittenEach.{changed_part}
use Rattle.arraydeque.proofs.deque.ArrayDeque.for_each_mut_in.Goals as goal

pub returns-clause-changed : goal.returns-clause-changed
returns-clause-changed g c =
    let from = rw c.start.ensures at c.unwrap_or-from.ensures in
    let to = rw (c.end.ensures, c.len.ensures.len) at c.unwrap_or-to.ensures in
    rw (← from, ← to, ← c.self.view_is)
    (λ change says. changed_part g.F.FnMut change _ says _ _ _ _ c.for_each_mut_in.ensures.in_turn)
