use Rattle.std.proofs.Common.{◌≡◌, ◌++◌, take}
use Rattle.arraydeque.specs.Deque.{keep_last}
use Rattle.uses.proofs.window.Window.push_all.Given as goal

abbrev pub invariant-loop-sample : goal.invariant-loop-sample
invariant-loop-sample g l = l.self ≡ keep_last g.row.CAP (l.fn.self ++ take l.sample-index l.samples)
