use Rattle.std.proofs.{
  Common.{◌+◌, ◌-◌, inl, inr, ◌==◌, refl, if◌then◌else◌, arith},
  lemmas.Grind.common_steps,
}
use Rattle.arraydeque_ring.{
  proofs.{
    linearize.Rotating.{Rotating-pass, Rotating-passed, Rotating-fits, still_fills},
    ring.linearize.rotate.{Given.Over, Goals.After-move_down-slots},
  },
  specs.Steps.Rearranges,
}
use Rattle.arraydeque_ring.proofs.ring.linearize.rotate.Goals as goal

pub loop-next-init : goal.loop-next-init
loop-next-init g c = record { walk = grind (arith, common_steps); steps = (0, 0, omega arith, grind arith) }

pub exchange_runs-slots-requires : goal.exchange_runs-slots-requires
exchange_runs-slots-requires g c =
    let may = Rotating-pass c.loop-next.invariant.walk c.if-capacity-next.true c.min-count.ensures
    c.min-past_end.ensures in
    grind arith

pub move_down-slots-requires : goal.move_down-slots-requires
move_down-slots-requires g c =
    let may = Rotating-pass c.loop-next.invariant.walk c.if-capacity-next.true c.min-count.ensures
    c.min-past_end.ensures in
    grind arith

pub loop-next-smaller-then-count-first : goal.loop-next-smaller-then-count-first
loop-next-smaller-then-count-first g c = omega (arith, Rotating-fits c.loop-next.invariant.walk)

-- a pass makes as many steps as values come to their places
steps : (g : Over) (c : After-move_down-slots g)
    → Rearranges (c.loop-next.dst + c.min-count.result) c.args.slots.steps c.move_down-slots.result.steps
steps g c =
    let so_far = c.loop-next.invariant.steps in (
      so_far.0 + (c.min-count.result - c.min-past_end.result),
      so_far.1 + c.min-past_end.result,
      omega arith,
      rw c.move_down-slots.ensures.steps (grind arith),
    )

pub loop-next-preserved-then-count-first : goal.loop-next-preserved-then-count-first
loop-next-preserved-then-count-first g c = record {
  walk = rw (c.move_down-slots.ensures.places, c.exchange_runs-slots.ensures.places)
      (Rotating-passed c.loop-next.invariant.walk c.if-capacity-next.true c.min-count.ensures c.min-past_end.ensures
      (inr (c.if-count-first.true, refl)));
  steps = steps g (goal.at.loop-next-preserved-then-count-first g c).After-move_down-slots;
}

pub loop-next-preserved : goal.loop-next-preserved
loop-next-preserved g c = record {
  walk = rw (c.move_down-slots.ensures.places, c.exchange_runs-slots.ensures.places)
      (Rotating-passed c.loop-next.invariant.walk c.if-capacity-next.true c.min-count.ensures c.min-past_end.ensures
      (inl (c.if-count-first.false, refl)));
  steps = steps g (goal.at.loop-next-preserved g c).After-move_down-slots;
}

pub place_rest-requires-clause-filled : goal.place_rest-requires-clause-filled
place_rest-requires-clause-filled g c = grind (arith, still_fills)

pub returns-clause-steps : goal.returns-clause-steps
returns-clause-steps g c =
    let so_far = c.loop-next.invariant.steps in (
      so_far.0 + (if c.loop-next.dst == c.loop-next.next then 0 else c.args.len - c.loop-next.dst),
      so_far.1,
      grind arith,
      rw c.place_rest.ensures.steps (grind arith),
    )
