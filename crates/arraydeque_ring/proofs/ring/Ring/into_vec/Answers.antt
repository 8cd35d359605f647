use Rattle.std.{
  proofs.{
    Common.{◌≡◌, ℕ, ◌+◌, ◌<◌, ◌≤◌, List, ◌∷◌, [], ◌++◌, length, slice_get, set, Option, Some, None},
    Common.{Vec, Global, vec_len, inl, inr, sym, ◌∙◌, arith, refl},
    lemmas.{List.take_more, Option.{get_or_from_slice_get, slice_get_past}},
  },
  specs.Vec.vec_capacity,
}
use Rattle.arraydeque_ring.{
  proofs.{
    Opened.bounds,
    places.{
      Holds.{Holds-same, Holds-set},
      Items.slice_get_some,
      LaidOut.{AreAllEmpty-LaidOut, LaidOut-by},
      Rotated.{MayStartAt, place_of_cases},
    },
    ring.Ring.into_vec.Invariants.AreOut,
  },
  specs.{Places.{held_at, IsFilled}, Ring.{RingState, place_of}},
}
use Rattle.arraydeque_ring.proofs.ring.Ring.into_vec.Goals as goal

-- k are out, and the next is at `place`
module _ {X : Type 0} {old : RingState X} {k : ℕ} {v : Vec X Global} {ps : List (Option X)} (was : AreOut old k v ps)
    {place : ℕ} (lt : k < length old.items) (fits : length old.items ≤ old.capacity)
    (lies : MayStartAt old.start k old.capacity place) (within : place < old.capacity) where
  here : place_of old.start k old.capacity ≡ place
  here = grind (arith, place_of_cases old.start k old.capacity (omega (arith, was.reads.in_region)))

  held : held_at ps place ≡ slice_get old.items k
  held = grind (arith, here, was.reads.at k (omega arith))

  next_filled : IsFilled ps place
  next_filled = let some = slice_get_some old.items k lt in (some.0, held ∙ some.1)

  next_out : {w : Vec X Global} {qs : List (Option X)} {x : X} → held_at ps place ≡ Some x → qs ≡ set ps place None
      → w.items ≡ v.items ++ x ∷ [] → vec_len w ≡ vec_len v + 1 → vec_capacity w ≡ vec_capacity v
      → AreOut old (k + 1) w qs
  next_out {x = x} is taken pushed len capacity = record {
    len = omega arith;
    exact = omega arith;
    items = grind (arith, get_or_from_slice_get old.items k x x (sym held ∙ is), take_more old.items k x lt);
    reads = rw (taken, ← here) (Holds-set was.reads k None (omega arith) (grind arith) (λ i i_in other. grind arith));
  }

pub take-requires : goal.take-requires
take-requires g c = let ring = bounds _ _ c.self.invariant c.self.view_is in
    next_filled c.loop-k.invariant (omega arith) (omega arith) (inl (omega arith)) (omega arith)

pub loop-k-preserved : goal.loop-k-preserved
loop-k-preserved g c =
    let ring = bounds _ _ c.self.invariant c.self.view_is in let pushed = c.push_reserved.ensures in
    next_out c.loop-k.invariant (omega arith) (omega arith) (inl (omega arith)) (omega arith)
    c.take.ensures.value c.take.ensures.places pushed.items pushed.len pushed.capacity

pub take-requires-in-loop-k-2 : goal.take-requires-in-loop-k-2
take-requires-in-loop-k-2 g c = let ring = bounds _ _ c.self.invariant c.self.view_is in
    next_filled c.loop-k-2.invariant (omega arith) (omega arith) (inr (omega arith)) (omega arith)

pub loop-k-2-preserved : goal.loop-k-2-preserved
loop-k-2-preserved g c =
    let ring = bounds _ _ c.self.invariant c.self.view_is in
    let taken = c.take-in-loop-k-2.ensures in let pushed = c.push_reserved-in-loop-k-2.ensures in
    next_out c.loop-k-2.invariant (omega arith) (omega arith) (inr (omega arith)) (omega arith)
    taken.value taken.places pushed.items pushed.len pushed.capacity

pub drop-slots-requires : goal.drop-slots-requires
drop-slots-requires g c =
    let ring = bounds _ _ c.self.invariant c.self.view_is in
    AreAllEmpty-LaidOut (LaidOut-by {xs = []} (omega arith)
    (Holds-same c.loop-k-2.invariant.reads (λ i lt. grind (arith, slice_get_past)))) refl
