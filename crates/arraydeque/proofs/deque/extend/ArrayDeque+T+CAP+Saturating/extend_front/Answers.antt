use Rattle.arraydeque.proofs.Taken.{TakesFrom-fills}
use Rattle.arraydeque.proofs.deque.extend.ArrayDeque+T+CAP+Saturating.extend_front.Goals as goal

pub returns : goal.returns
returns g c = record {
  taken =
      TakesFrom-fills _ c.into_iter-elements.ensures.into_iter_gives c.fill_front.ensures.came (λ xs same. same);
}
