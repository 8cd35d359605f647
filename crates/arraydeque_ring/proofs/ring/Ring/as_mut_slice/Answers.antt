use Rattle.std.proofs.Common.{◌≡◌, arith}
use Rattle.arraydeque_ring.{
  proofs.{
    loans.Placed.{length-as_many, as_many-same},
    Opened.{slice_facts, bounds, piece_written},
    ring.Ring.as_mut_slice.{Given.Over, Goals.After-slice_mut},
  },
  specs.Runs.as_many,
}
use Rattle.arraydeque_ring.proofs.ring.Ring.as_mut_slice.Goals as goal

pub invariant_of-self-lent : goal.invariant_of-self-lent
invariant_of-self-lent g c w = grind
    (arith, slice_facts, piece_written c.self.inside c.self.invariant (as_many c.slice_mut.result.now w))

lent : (g : Over) (c : After-slice_mut g) → c.slice_mut.result.now ≡ c.args.self.now.items
lent g c = grind (arith, slice_facts)

pub returns : goal.returns
returns g c =
    let now = lent g (goal.at.returns g c).After-slice_mut in
    grind (arith, piece_written, bounds, length-as_many, as_many-same)
