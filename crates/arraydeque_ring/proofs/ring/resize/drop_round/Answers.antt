use Rattle.std.proofs.Common.{arith}
use Rattle.arraydeque_ring.proofs.{
  places.Handed.{Handed, handed},
  ring.resize.drop_round.{Given.Over, Goals.After-min-first},
}
use Rattle.arraydeque_ring.proofs.ring.resize.drop_round.Goals as goal

-- the values stand in two runs
parts : (g : Over) (c : After-min-first g) →
    Handed c.args.start c.args.at c.args.len c.wrap_add-place.result c.min-first.result c.args.slots.now.places
parts g c = let r = c.requires in
    handed _ _ _ _ _ _ _ c.capacity-capacity.ensures r.in_region (omega arith) r.filled c.wrap_add-place.ensures
    c.min-first.ensures

pub drop_run-requires : goal.drop_run-requires
drop_run-requires g c = (parts g (goal.at.drop_run-requires g c).After-min-first).here

pub drop_run-requires-2 : goal.drop_run-requires-2
drop_run-requires-2 g c = rw c.drop_run.ensures.places
    (parts g (goal.at.drop_run-requires-2 g c).After-min-first).rest

pub returns-clause-places : goal.returns-clause-places
returns-clause-places g c = rw (c.drop_run-2.ensures.places, c.drop_run.ensures.places)
    (parts g (goal.at.returns-clause-places g c).After-min-first).places
