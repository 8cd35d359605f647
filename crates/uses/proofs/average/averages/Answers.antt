use Rattle.std.proofs.Common.{◌≡◌, ℕ, ◌+◌, take, arith}
use Rattle.std.proofs.lemmas.{Grind.common_steps, List.FromFn.map-range_with_len_more}
use Rattle.arraydeque.{proofs.KeepLast.keep_last-append, specs.Deque.keep_last}
use Rattle.uses.specs.Average.{mean}
use Rattle.uses.proofs.average.averages.Goals as goal

pub loop-sample-preserved : goal.loop-sample-preserved
loop-sample-preserved g c =
    let at = c.loop-sample.sample-index in
    let of : ℕ → ℕ = λ i. mean (keep_last g.row.N (take (i + 1) c.args.samples.now)) in
    let last : c.push.new.self ≡ keep_last g.row.N (take (at + 1) c.args.samples.now) =
    grind (arith, common_steps, keep_last-append) in
    record {
      last = last;
      means = grind (arith, last, map-range_with_len_more of 0 at at (omega arith));
    }
