use Rattle.std.proofs.{Common.{◌+◌, arith}, Math.Nat.{mod-add-mod}, lemmas.Grind.common_steps}
use Rattle.arraydeque_samples.proofs.build.deque_at.Goals as goal

pub loop-preserved : goal.loop-preserved
loop-preserved g c =
    let on = mod-add-mod (0 + c.loop.counter) g.row.CAP 1 in record {
      items = grind (arith, common_steps);
      start = grind (arith, common_steps);
    }
