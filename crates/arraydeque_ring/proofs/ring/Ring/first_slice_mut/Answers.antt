use Rattle.std.proofs.Common.{refl, arith}
use Rattle.arraydeque_ring.proofs.{
  loans.Parts.{front_filled, front_held, front_after},
  Opened.{opened, closed, kept},
}
use Rattle.arraydeque_ring.proofs.ring.Ring.first_slice_mut.Goals as goal

pub slice_mut-requires : goal.slice_mut-requires
slice_mut-requires g c = let ring = opened c.self.inside c.self.invariant c.self.view_is in grind (arith, front_filled)

pub invariant_of-self-lent : goal.invariant_of-self-lent
invariant_of-self-lent g c w = let ring = opened c.self.inside c.self.invariant c.self.view_is in
    kept (front_after ring c.min-len.result (omega arith) _ c.slice_mut.ensures.values w)

pub returns : goal.returns
returns g c = let ring = opened c.self.inside c.self.invariant c.self.view_is in (
  (refl, λ w. closed (front_after ring c.min-len.result (omega arith) _ c.slice_mut.ensures.values w)),
  record {
    writes_back = tt;
    value = front_held ring c.min-len.result (omega arith) _ c.slice_mut.ensures.values;
  },
)
