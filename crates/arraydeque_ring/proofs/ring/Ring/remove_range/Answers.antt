use Rattle.std.{
  proofs.{Common.{◌-◌, length, arith}, lemmas.Grind.common_steps},
  specs.List.remove_range,
}
use Rattle.arraydeque_ring.proofs.{
  gaps.Fewest.fewest_drain,
  Opened.{opened, bounds, Closing, run_filled, run_taken, Shows},
  places.Rotated.place_of-zero,
  ring.Ring.remove_range.{Given.Over, Goals.{After-drop_round, After-close_gap-self-inside}},
}
use Rattle.arraydeque_ring.proofs.ring.Ring.remove_range.Goals as goal

pub returns-then-count-eq0-clause-start : goal.returns-then-count-eq0-clause-start
returns-then-count-eq0-clause-start g c = grind (arith, place_of-zero)

pub drop_round-requires-clause-filled : goal.drop_round-requires-clause-filled
drop_round-requires-clause-filled g c =
    let ring = bounds c.self.inside _ c.self.invariant c.self.view_is in
    run_filled c.self.inside c.self.invariant _ _ (omega arith)

out : (g : Over) (c : After-drop_round g) → let old = c.args.self.now in Closing c.self.inside.start old.capacity
    c.args.from (c.args.to - c.args.from) c.args.to c.self.inside.len old.items c.drop_round.new.slots.places
out g c = run_taken (opened c.self.inside c.self.invariant c.self.view_is) _ _ _ (omega arith) c.requires.in_bounds
    c.drop_round.ensures.places

pub close_gap-self-inside-requires : goal.close_gap-self-inside-requires
close_gap-self-inside-requires g c = (out g c.before.before).may

after : (g : Over) (c : After-close_gap-self-inside g) → let old = c.args.self.now in
    Shows old.capacity c.close_gap-self-inside.result (c.self.inside.len - (c.args.to - c.args.from))
    (remove_range old.items c.args.from c.args.to) c.close_gap-self-inside.new.slots.places
after g c = grind (arith, out)

pub invariant_of-self : goal.invariant_of-self
invariant_of-self g c = let now = after g c.before in (now.1, now.2)

pub returns-clause-items : goal.returns-clause-items
returns-clause-items g c = (after g c.before).3

pub returns-clause-capacity : goal.returns-clause-capacity
returns-clause-capacity g c = (after g c.before).0

pub returns-clause-start : goal.returns-clause-start
returns-clause-start g c =
    grind (arith, bounds, (out g (goal.at.returns-clause-start g c).After-drop_round).length_is)

pub returns-clause-steps : goal.returns-clause-steps
returns-clause-steps g c = grind (arith, bounds)

pub returns-clause-fewest : goal.returns-clause-fewest
returns-clause-fewest g c =
    let ring = opened c.self.inside c.self.invariant c.self.view_is in
    rw (returns-clause-start g c) (fewest_drain _ _ _ _ _ (omega arith)
    c.requires.in_order c.requires.in_bounds (omega arith))

pub returns-then-count-eq0-clause-fewest : goal.returns-then-count-eq0-clause-fewest
returns-then-count-eq0-clause-fewest g c =
    let old = c.args.self.now in
    let ring = opened c.self.inside c.self.invariant c.self.view_is in
    rw (← returns-then-count-eq0-clause-start g c) at
    (fewest_drain c.args.from c.args.to (length old.items) old.capacity old.start (omega arith) c.requires.in_order
    c.requires.in_bounds (omega arith))

pub returns-then-count-eq0-clause-items : goal.returns-then-count-eq0-clause-items
returns-then-count-eq0-clause-items g c = grind (arith, common_steps, bounds)
