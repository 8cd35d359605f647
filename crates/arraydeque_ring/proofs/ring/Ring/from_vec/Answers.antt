use Rattle.std.proofs.{Common.{[], refl, ◌∙◌, arith}, lemmas.{Grind.common_steps, List.append-nil}}
use Rattle.arraydeque_ring.proofs.{fills.Filling.with_run-before, Opened.new_laid}
use Rattle.arraydeque_ring.proofs.ring.Ring.from_vec.Goals as goal

pub loop-item-init : goal.loop-item-init
loop-item-init g c = (
  [],
  record {
    all = append-nil _ ∙ c.truncate.ensures.items;
    fits = grind (arith, common_steps);
    places = rw c.in-Ok.ensures.ok (grind (arith, common_steps));
    steps = rw c.in-Ok.ensures.ok refl;
  },
)

pub put-requires : goal.put-requires
put-requires g c = grind (arith, common_steps)

pub loop-item-preserved : goal.loop-item-preserved
loop-item-preserved g c = grind (arith, common_steps, with_run-before)

pub invariant_of-result : goal.invariant_of-result
invariant_of-result g c = grind (arith, new_laid c.loop-item.invariant.0 c.args.capacity)

pub returns-clause-ok : goal.returns-clause-ok
returns-clause-ok g c = grind (arith, new_laid c.loop-item.invariant.0 c.args.capacity)
