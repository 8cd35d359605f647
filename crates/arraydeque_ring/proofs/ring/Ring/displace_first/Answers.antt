use Rattle.std.proofs.{
  Common.{◌≡◌, ◌+◌, sym, arith},
  lemmas.{Grind.common_steps, List.append-nil},
  Math.Nat.{mod-eq_of_lt, mod_self},
}
use Rattle.arraydeque_ring.proofs.{
  fills.{
    Displaced.displaced_first-both,
    FromIterator.Ends-fills,
    Laying.{begun, more, filled_first, laid_first},
  },
  Opened.{opened, closed},
  ring.Ring.displace_first.Goals.{then-ended, else-ended},
}
use Rattle.arraydeque_ring.proofs.ring.Ring.displace_first.Goals as goal

pub loop-ended-init : goal.loop-ended-init
loop-ended-init g c = grind (arith, begun, opened, append-nil)

pub displace_up-written-requires-clause-filled : goal.displace_up-written-requires-clause-filled
displace_up-written-requires-clause-filled g c = let was = c.loop-ended.invariant in
    filled_first was.so_far.holds was.all (omega arith) (grind (arith, common_steps))

pub loop-ended-preserved : goal.loop-ended-preserved
loop-ended-preserved g c =
    let was = c.loop-ended.invariant in let done = c.displace_up-written.ensures in let now = done.came in
    more was c.loop-ended-test.true now (λ some. let goes = done.goes some in (goes.0, λ _. goes.1))
    (displaced_first-both _) (laid_first was.so_far.holds was.all (omega arith)
    (grind (arith, common_steps)) (omega arith) (elim c.if-ended.branch [
      | then-ended w ↦ rw w.self-is (sym (mod-eq_of_lt (omega arith)))
      | else-ended w ↦
          let to_end : c.loop-ended.self-inside.start + c.displace_up-written.result.1 ≡ c.capacity-capacity.result =
          omega arith in
          rw (w.self-is, to_end) (sym (mod_self c.capacity-capacity.result))
    ]) now.items now.holds done.steps)

pub returns : goal.returns
returns g c = Ends-fills _ c.loop-ended.invariant.so_far c.loop-ended-test.false (λ xs. closed)
