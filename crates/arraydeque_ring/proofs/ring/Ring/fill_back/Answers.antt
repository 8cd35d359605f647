use Rattle.std.proofs.{
  Common.{refl, arith},
  lemmas.List.{append-nil, length-append},
}
use Rattle.arraydeque_ring.proofs.{
  fills.{InRows.filled_back-both, Laying.{begun, more, filled, empty_behind, laid_back}},
  Opened.opened,
  places.Rotated.MayStartAt-place_of,
  ring.Ring.fill_back.Goals.{then-loop-ended-test+else-self-capacity, else-loop-ended-test},
}
use Rattle.arraydeque_ring.proofs.ring.Ring.fill_back.Goals as goal

pub loop-ended-init : goal.loop-ended-init
loop-ended-init g c = grind (arith, begun, opened, append-nil)

pub fill_up-written-requires-clause-empty : goal.fill_up-written-requires-clause-empty
fill_up-written-requires-clause-empty g c = let was = c.loop-ended.invariant in
    empty_behind was.so_far.holds was.all _
    (rw c.wrap_add-from.ensures (MayStartAt-place_of _ _ _ (omega arith))) (omega arith) (omega arith)

pub loop-ended-preserved : goal.loop-ended-preserved
loop-ended-preserved g c =
    let was = c.loop-ended.invariant in let fill = c.fill_up-written.ensures in let now = fill.came in
    more was c.loop-ended-test.true now fill.goes (filled_back-both _) (laid_back was.so_far.holds was.all _
    (rw c.wrap_add-from.ensures (MayStartAt-place_of _ _ _ (omega arith))) (omega arith) (omega arith)
    now.items now.holds fill.steps)

pub returns : goal.returns
returns g c =
    filled c.loop-ended.invariant refl (length-append c.args.self.now.items _) (λ on. elim c.loop-ended-test.branch [
      | then-loop-ended-test+else-self-capacity w ↦ omega arith
      | else-loop-ended-test w ↦ grind (arith, on, w.loop-ended-test.false)
    ])
