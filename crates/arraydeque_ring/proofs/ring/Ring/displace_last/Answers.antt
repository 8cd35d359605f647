use Rattle.std.proofs.{Common.{ℕ, ◌-◌, ◌≤◌, arith}, lemmas.{Grind.common_steps, List.take_all}}
use Rattle.arraydeque_ring.proofs.{
  fills.{
    Displaced.displaced_last-both,
    FromIterator.Ends-fills,
    Laying.{begun, more, filled_last, laid_last},
  },
  Opened.{opened, closed},
  places.Rotated.MayStartAt,
  ring.Ring.displace_last.{Given.Over, Goals.Joined-self-eq0},
}
use Rattle.arraydeque_ring.proofs.ring.Ring.displace_last.Goals as goal

pub loop-ended-init : goal.loop-ended-init
loop-ended-init g c = grind (arith, begun, opened, take_all)

-- below the start, or below the region's end in its stead, are the places of the last indexes
below : (g : Over) (c : Joined-self-eq0 g) (count : ℕ) → count ≤ c.if-self-eq0.from →
    let n = c.capacity-capacity.result in
    MayStartAt c.loop-ended.self-inside.start (n - count) n (c.if-self-eq0.from - count)
below g c count le = grind arith

pub displace_down-written-requires-clause-filled : goal.displace_down-written-requires-clause-filled
displace_down-written-requires-clause-filled g c =
    let at = (goal.at.displace_down-written-requires-clause-filled g c).Joined-self-eq0 in
    let was = c.loop-ended.invariant in
    filled_last was.so_far.holds was.all (omega arith) (below g at _ (omega arith)) (omega arith) (omega arith)
    (grind (arith, common_steps))

pub loop-ended-preserved : goal.loop-ended-preserved
loop-ended-preserved g c =
    let at = (goal.at.loop-ended-preserved g c).Joined-self-eq0 in
    let was = c.loop-ended.invariant in let done = c.displace_down-written.ensures in let now = done.came in
    more was c.loop-ended-test.true now (λ some. let goes = done.goes some in (goes.0, λ _. goes.1))
    (displaced_last-both _) (laid_last was.so_far.holds was.all (omega arith) (below g at _ (omega arith)) (omega arith)
    (omega arith) c.wrap_add-self-inside.ensures now.items _ now.holds (grind (arith, common_steps)) done.steps)

pub returns : goal.returns
returns g c = Ends-fills _ c.loop-ended.invariant.so_far c.loop-ended-test.false (λ xs. closed)
