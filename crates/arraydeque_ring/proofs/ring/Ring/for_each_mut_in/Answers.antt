use Rattle.std.proofs.Common.{arith}
use Rattle.arraydeque_ring.proofs.Written.{asks_first, asks_second, part_written, part_many}
use Rattle.arraydeque_ring.proofs.ring.Ring.for_each_mut_in.Goals as goal

pub write_each-requires : goal.write_each-requires
write_each-requires g c = grind (arith, asks_first)

pub write_each-requires-2 : goal.write_each-requires-2
write_each-requires-2 g c = grind (arith, asks_second)

pub returns-clause-in_turn : goal.returns-clause-in_turn
returns-clause-in_turn g c = grind (arith, part_written)

pub returns-clause-len : goal.returns-clause-len
returns-clause-len g c =
    part_many g.F.FnMut c.args.f c.args.self.now.items _ c.args.from c.args.to c.requires.in_order
    c.requires.in_bounds _ c.first_slice_mut-first.ensures.value c.min.result c.min-2.result
    c.saturating_sub-from.result c.saturating_sub-to.result (omega arith) (omega arith) (omega arith) (omega arith)
    _ _ c.write_each.ensures _ c.second_slice_mut-second.ensures.value _ _ c.write_each-2.ensures
