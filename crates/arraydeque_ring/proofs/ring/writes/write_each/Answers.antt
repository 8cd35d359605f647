use Rattle.std.proofs.{Common.arith, RetainMut.Called-Mut}
use Rattle.arraydeque_ring.proofs.Written.{written_next, written_on, written_all}
use Rattle.arraydeque_ring.proofs.ring.writes.write_each.Goals as goal

pub f-requires : goal.f-requires
f-requires g c = let next = written_next c.loop-item.invariant c.item-item.result (omega arith) in grind arith

pub loop-item-preserved : goal.loop-item-preserved
loop-item-preserved g c =
    written_on c.loop-item.invariant c.item-item.result _ _ (omega arith) (Called-Mut g.F.FnMut c.f.ensures)

pub returns : goal.returns
returns g c = written_all c.loop-item.invariant (omega arith)
