use Rattle.arraydeque.proofs.deque.makers.ArrayDeque+T+CAP+Wrapping.from_iter.Goals as goal

pub returns-in-Ok-clause-items : goal.returns-in-Ok-clause-items
returns-in-Ok-clause-items g c = rw c.in-Ok.ensures.ok at c.extend_back.ensures.taken
