use Rattle.std.{proofs.Common.{replicate, true}, specs.{Fn.CalledAt, List.Retain.ReturnsInTurn}}
use Rattle.arraydeque_ring.proofs.ring.retain.kept_count_of.Given as goal

abbrev pub invariant-loop-index : goal.invariant-loop-index
invariant-loop-index g l = record {
  in_turn : ReturnsInTurn (CalledAt g.F.FnMut) l.initial.f (replicate l.index true) l.items l.f;
}
