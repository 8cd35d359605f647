use Rattle.std.proofs.Common.{[]}
use Rattle.arraydeque.proofs.Folded.{FoldedTo}
use Rattle.arraydeque.proofs.iter.iter.Iter.fold.Given as goal

abbrev pub invariant-loop-item : goal.invariant-loop-item
invariant-loop-item g l =
    FoldedTo g.F.FnMut l.fn.self l.fn.f l.fn.init l.item-items l.self-inside.second.now l.item-index l.f l.total

abbrev pub invariant-loop-item-2 : goal.invariant-loop-item-2
invariant-loop-item-2 g l = FoldedTo g.F.FnMut l.fn.self l.fn.f l.fn.init l.item-items [] l.item-index l.f l.total
