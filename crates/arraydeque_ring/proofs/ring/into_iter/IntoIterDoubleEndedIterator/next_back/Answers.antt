use Rattle.arraydeque_ring.proofs.LastPopped.{YieldsLast-pop}
use Rattle.arraydeque_ring.proofs.ring.into_iter.IntoIterDoubleEndedIterator.next_back.Goals as goal

pub returns-clause-steps : goal.returns-clause-steps
returns-clause-steps g c =
    let popped = c.pop_back.ensures in
    rw (← c.self.view_is) (YieldsLast-pop _ _ _ _ popped.value popped.taken popped.none)
