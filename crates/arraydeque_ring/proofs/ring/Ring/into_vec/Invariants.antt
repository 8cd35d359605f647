use Rattle.std.{
  proofs.Common.{◌≡◌, ℕ, List, length, take, nat_lt, if◌then◌else◌, slice_get},
  proofs.Common.{Option, None, Vec, Global, vec_len},
  specs.Vec.vec_capacity,
}
use Rattle.arraydeque_ring.{proofs.places.Holds.Holds, specs.Ring.RingState}
use Rattle.arraydeque_ring.proofs.ring.Ring.into_vec.Given as goal

-- the first k items of a ring are out of its places and in a vector, which has just room for the others
pub record AreOut {X : Type 0} (old : RingState X) (k : ℕ) (v : Vec X Global) (ps : List (Option X)) : Type 0 where
  pub len : vec_len v ≡ k
  pub exact : vec_capacity v ≡ length old.items
  pub items : v.items ≡ take k old.items
  pub reads : Holds old.capacity old.start (λ i. if nat_lt i k then None else slice_get old.items i) ps

abbrev pub invariant-loop-k : goal.invariant-loop-k
invariant-loop-k g l = AreOut l.fn.self l.k l.v l.slots.places

abbrev pub invariant-loop-k-2 : goal.invariant-loop-k-2
invariant-loop-k-2 g l = AreOut l.fn.self l.k l.v l.slots.places
