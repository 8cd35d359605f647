use Rattle.arraydeque.proofs.Taken.{TakesAll-drains}
use Rattle.arraydeque.proofs.deque.extend.ArrayDequeWrappingExtend.extend.Goals as goal

pub returns-clause-ran : goal.returns-clause-ran
returns-clause-ran g c = TakesAll-drains c.extend_back.ensures.taken
