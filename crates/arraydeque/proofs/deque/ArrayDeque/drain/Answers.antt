use Rattle.arraydeque.proofs.InOrder.{gives_in_order, gives_in_reverse}
use Rattle.arraydeque.proofs.deque.ArrayDeque.drain.Goals as goal

pub returns-in_err-ring-clause-runs : goal.returns-in_err-ring-clause-runs
returns-in_err-ring-clause-runs g c = gives_in_order

pub returns-in_err-ring-clause-runs_back : goal.returns-in_err-ring-clause-runs_back
returns-in_err-ring-clause-runs_back g c = gives_in_reverse

pub returns-clause-runs : goal.returns-clause-runs
returns-clause-runs g c = gives_in_order

pub returns-clause-runs_back : goal.returns-clause-runs_back
returns-clause-runs_back g c = gives_in_reverse
