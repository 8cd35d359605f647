use Rattle.std.{proofs.Common.{◌≡◌, ◌≤◌, map, pos}, specs.{List.range_with_len, Vec.vec_capacity}}
use Rattle.arraydeque_samples.proofs.build.numbers.Given as goal

abbrev pub invariant-loop-number : goal.invariant-loop-number
invariant-loop-number l = record {
  capacity : l.len ≤ vec_capacity l.list;
  items : l.list.items ≡ map pos (range_with_len 0 l.number);
}
