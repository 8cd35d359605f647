use Rattle.arraydeque.proofs.deque.extend.drop_all.Given as goal

abbrev pub invariant-loop-element : goal.invariant-loop-element
invariant-loop-element g l = record {
  may : (goal.iterator-loop-element g).can_next l.element-iterator;
  ends : (goal.iterator-loop-element g).is_finite l.element-iterator;
}
