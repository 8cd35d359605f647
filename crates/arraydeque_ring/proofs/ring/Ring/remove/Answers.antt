use Rattle.std.{proofs.Common.{suc, ◌-◌, arith}, specs.List.remove}
use Rattle.arraydeque_ring.proofs.{
  gaps.Fewest.fewest_remove,
  Opened.{opened, bounds, Closing, one_taken, Shows},
  ring.Ring.remove.{Given.Over, Goals.{After-take-item, After-close_gap-self-inside}},
}
use Rattle.arraydeque_ring.proofs.ring.Ring.remove.Goals as goal

out : (g : Over) (c : After-take-item g) → let old = c.args.self.now in Closing c.self.inside.start old.capacity
    c.args.index 1 (suc c.args.index) c.self.inside.len old.items c.take-item.new.self.places
out g c =
    let ring = opened c.self.inside c.self.invariant c.self.view_is in
    one_taken ring _ _ c.requires (rw (
      c.take-item.ensures.places,
      c.place-place.ensures,
      ← ring.start,
    ))

pub close_gap-self-inside-requires : goal.close_gap-self-inside-requires
close_gap-self-inside-requires g c = (out g c.before.before).may

after : (g : Over) (c : After-close_gap-self-inside g) → let old = c.args.self.now in
    Shows old.capacity c.close_gap-self-inside.result (c.self.inside.len - 1) (remove old.items c.args.index)
    c.close_gap-self-inside.new.slots.places
after g c = grind (arith, out)

pub invariant_of-self : goal.invariant_of-self
invariant_of-self g c = let now = after g c.before in (now.1, now.2)

pub returns-clause-items : goal.returns-clause-items
returns-clause-items g c = (after g c.before).3

pub returns-clause-capacity : goal.returns-clause-capacity
returns-clause-capacity g c = (after g c.before).0

pub returns-clause-start : goal.returns-clause-start
returns-clause-start g c =
    grind (arith, bounds, (out g (goal.at.returns-clause-start g c).After-take-item).length_is)

pub returns-clause-fewest : goal.returns-clause-fewest
returns-clause-fewest g c =
    let ring = opened c.self.inside c.self.invariant c.self.view_is in
    rw (returns-clause-start g c) (fewest_remove c.args.index _ _ _ (omega arith)
    c.requires (omega arith))
