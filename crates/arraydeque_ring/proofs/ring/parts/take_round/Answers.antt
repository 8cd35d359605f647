use Rattle.std.proofs.{Common.{◌++◌, drop, ap, ◌∙◌, arith}, lemmas.Grind.common_steps}
use Rattle.arraydeque_ring.proofs.{
  places.Handed.{Handed, handed, first_empty, second_empty, both_put},
  ring.parts.take_round.{Given.Over, Goals.After-min-first},
}
use Rattle.arraydeque_ring.proofs.ring.parts.take_round.Goals as goal

parts : (g : Over) (c : After-min-first g)
    → Handed c.args.start c.args.at c.args.len c.wrap_add-place.result c.min-first.result c.args.slots.now.places
parts g c = let r = c.requires in
    handed _ _ _ _ _ _ _ c.capacity-capacity.ensures r.in_region (omega arith) r.filled c.wrap_add-place.ensures
    c.min-first.ensures

pub hand_over-requires-clause-filled : goal.hand_over-requires-clause-filled
hand_over-requires-clause-filled g c = (parts g c.before.before).here

pub hand_over-requires-clause-empty : goal.hand_over-requires-clause-empty
hand_over-requires-clause-empty g c = first_empty c.args.taken.now.places (omega arith) c.requires.empty

pub hand_over-requires-2-clause-filled : goal.hand_over-requires-2-clause-filled
hand_over-requires-2-clause-filled g c =
    rw c.hand_over.ensures.here (parts g (goal.at.hand_over-requires-2-clause-filled g c).After-min-first).rest

pub hand_over-requires-2-clause-empty : goal.hand_over-requires-2-clause-empty
hand_over-requires-2-clause-empty g c = grind (arith, common_steps, second_empty)

pub returns-clause-places : goal.returns-clause-places
returns-clause-places g c =
    rw (c.hand_over-2.ensures.here, c.hand_over.ensures.here)
    (parts g (goal.at.returns-clause-places g c).After-min-first).places

pub returns-clause-taken : goal.returns-clause-taken
returns-clause-taken g c =
    let p = parts g (goal.at.returns-clause-taken g c).After-min-first in
    let both = both_put c.args.taken.now.places (omega arith) c.requires.empty _ _
    p.first_length ∙ ap (λ ps. ps ++ drop c.args.len c.args.taken.now.places) p.all in
    grind arith
