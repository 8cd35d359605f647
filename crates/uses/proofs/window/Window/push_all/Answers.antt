use Rattle.std.proofs.{Common.arith, lemmas.Grind.common_steps}
use Rattle.arraydeque.proofs.KeepLast.{keep_last-all, keep_last-append}
use Rattle.uses.proofs.window.Window.push_all.Goals as goal

pub loop-sample-init : goal.loop-sample-init
loop-sample-init g c = grind (arith, common_steps, keep_last-all)

pub loop-sample-preserved : goal.loop-sample-preserved
loop-sample-preserved g c = grind (arith, common_steps, keep_last-append)
