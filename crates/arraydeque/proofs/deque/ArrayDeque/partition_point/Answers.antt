use Rattle.std.proofs.Common.{rules, of_calls}
use denote.Param.Always.{always_mut, mut_by}
use Rattle.arraydeque.proofs.Searched.{answers_through, less_if, count_of_test}
use Rattle.arraydeque.proofs.deque.ArrayDeque.partition_point.Goals as goal

pub less_count-requires : goal.less_count-requires
less_count-requires g c = (
  search rules,
  mut_by _ (λ s. always_mut g.P.FnMut s.0.now) (λ s a i. i) (λ s a r t i e. search of_calls) _ c.requires,
)

pub returns-clause-partitioned : goal.returns-clause-partitioned
returns-clause-partitioned g c = λ p says. count_of_test p _ _ (c.less_count.ensures.parted (λ y. less_if (p y))
    (answers_through g.P.FnMut _ (λ s. s.0.now) (λ s. Unit {0}) less_if
    (λ s a r t called kept. search of_calls) p _ tt says)).1
