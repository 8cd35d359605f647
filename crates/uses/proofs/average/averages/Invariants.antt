use Rattle.std.proofs.Common.{◌≡◌, ◌+◌, map, take}
use Rattle.std.specs.List.{range_with_len}
use Rattle.arraydeque.specs.Deque.{keep_last}
use Rattle.uses.specs.Average.{mean}
use Rattle.uses.proofs.average.averages.Given as goal

abbrev pub invariant-loop-sample : goal.invariant-loop-sample
invariant-loop-sample g l = record {
  last : l.window ≡ keep_last g.row.N (take l.sample-index l.samples);
  means : l.averages.items ≡
      map (λ i. mean (keep_last g.row.N (take (i + 1) l.samples))) (range_with_len 0 l.sample-index);
}
