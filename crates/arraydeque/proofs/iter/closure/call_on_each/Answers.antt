use Rattle.std.{proofs.{Common.refl, SliceLists.chained_more}, specs.Fn.Called}
use Rattle.std.proofs.iter.Next as it
use Rattle.arraydeque.proofs.iter.closure.call_on_each.Goals as goal

pub loop-item-preserved : goal.loop-item-preserved
loop-item-preserved g c =
    let gave = it.said g.I.Iterator.next_gives c.in-Some.is c.next.ensures.steps in
    let called = it.called g.F.FnMut c.f.ensures refl in
    let (walked, callable) = c.loop-item.invariant in
    let led = chained_more (λ p x q. Called g.F.FnMut p (x, tt) tt q) _ walked.seen _ c.in-Some.item _
    walked.holds called in (
      it.again walked c.in-Some.item c.in-Some.is (c.next.ensures.steps, c.next.ensures.goes) led,
      it.Serves-on callable c.in-Some.item _ gave _ called,
    )
