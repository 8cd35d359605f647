use Rattle.std.{
  proofs.{Common.arith, lemmas.Bool.Decides.nat_tests},
  specs.Vec.Iter.into_iter_items,
}
use Rattle.arraydeque.proofs.Taken.{TakesAll-list}
use Rattle.arraydeque.proofs.run.WrappingMachinePolicy.answer_extend_front.Goals as goal

pub returns : goal.returns
returns g c =
    let added = TakesAll-list c.args.elements.items into_iter_items c.extend_front.ensures.taken
    (λ it became. (became.0, became.3)) in
    record { makes = grind (arith, nat_tests) }
