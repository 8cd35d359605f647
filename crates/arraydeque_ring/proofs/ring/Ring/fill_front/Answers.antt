use Rattle.std.proofs.{
  Common.{ℕ, ◌-◌, ◌≤◌, reverse, refl, arith},
  lemmas.List.{length-append, length-reverse},
}
use Rattle.arraydeque_ring.proofs.{
  fills.{InRows.filled_front-both, Laying.{begun, more, filled, empty_before, laid_front}},
  Opened.opened,
  places.Rotated.MayStartAt,
  ring.Ring.fill_front.{
    Given.Over,
    Goals.Joined-self-eq0,
    Goals.{then-loop-ended-test+else-self-capacity, else-loop-ended-test},
  },
}
use Rattle.arraydeque_ring.proofs.ring.Ring.fill_front.Goals as goal

pub loop-ended-init : goal.loop-ended-init
loop-ended-init g c = grind (arith, begun, opened)

-- below the start, or below the region's end in its stead, are the places of the last indexes
below : (g : Over) (c : Joined-self-eq0 g) (count : ℕ) → count ≤ c.if-self-eq0.from →
    let n = c.capacity-capacity.result in
    MayStartAt c.loop-ended.self-inside.start (n - count) n (c.if-self-eq0.from - count)
below g c count le = grind arith

pub fill_down-written-requires-clause-empty : goal.fill_down-written-requires-clause-empty
fill_down-written-requires-clause-empty g c =
    let at = (goal.at.fill_down-written-requires-clause-empty g c).Joined-self-eq0 in
    let was = c.loop-ended.invariant in
    empty_before was.so_far.holds was.all (omega arith) (below g at _ (omega arith)) (omega arith) (omega arith)
    (omega arith)

pub loop-ended-preserved : goal.loop-ended-preserved
loop-ended-preserved g c =
    let at = (goal.at.loop-ended-preserved g c).Joined-self-eq0 in
    let was = c.loop-ended.invariant in let fill = c.fill_down-written.ensures in let now = fill.came in
    more was c.loop-ended-test.true now fill.goes (filled_front-both _)
    (laid_front was.so_far.holds was.all (omega arith) (below g at _ (omega arith)) (omega arith) (omega arith)
    c.wrap_add-self-inside.ensures now.items _ now.holds (omega arith) fill.steps)

pub returns : goal.returns
returns g c =
    let xs = c.loop-ended.invariant.so_far.items in filled c.loop-ended.invariant refl
    (omega (arith, length-append (reverse xs) c.args.self.now.items, length-reverse xs))
    (λ on. elim c.loop-ended-test.branch [
      | then-loop-ended-test+else-self-capacity w ↦ omega arith
      | else-loop-ended-test w ↦ grind (arith, on, w.loop-ended-test.false)
    ])
