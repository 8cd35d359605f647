use Rattle.std.{
  proofs.{Common.arith, lemmas.Bool.Decides.nat_tests},
  specs.Vec.Iter.into_iter_items,
}
use Rattle.arraydeque.proofs.Taken.{TakesFrom-list}
use Rattle.arraydeque.proofs.run.SaturatingMachinePolicy.answer_extend_back.Goals as goal

pub returns : goal.returns
returns g c =
    let added = TakesFrom-list c.args.elements.items into_iter_items c.extend_back.ensures.taken
    (λ it became. (became.0, became.3)) in
    record { makes = grind (arith, nat_tests); makes_extend = grind (arith, nat_tests) }
