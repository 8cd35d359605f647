use Rattle.std.proofs.Common.{◌+◌, ◌-◌, ◌%◌, ◌<◌, length, ap, subst, ◌∙◌, refl, arith}
use Rattle.arraydeque_ring.{
  proofs.{
    moved.{Flat.{distance_is, same_move}, TwoMoves.{StartsAt, Three, three}},
    places.Rotated.{place_of_cases, place_of-sum},
    slots.Slots.slide_down.{
      Given.Over,
      Goals.{After-capacity-last, then-len-upper, else-len-upper},
    },
  },
  specs.{Moved.run_moved, Places.IsFilled, Ring.place_of},
}
use Rattle.arraydeque_ring.proofs.slots.Slots.slide_down.Goals as goal

-- a run that wraps, as the calls say it: what is before the end, the value that crosses it, and what is past it
round : (g : Over) (c : After-capacity-last g) → let n = c.capacity-last.result in let t = c.args.dst in
    let ps = c.move_out-slots.result.places in
    n - 1 - t < c.args.len
    → Three (t + 0) (t + 1 + 0) (n - 1 - t - 0) (n - 1) 0 1 0 1 (c.args.len - (n - 1 - t) - 1 - 0) ps
    (run_moved t (place_of t 1 n) c.args.len ps)
unfolding StartsAt
round g c wraps =
    let n = c.capacity-last.result in
    let t = c.args.dst in
    let next = place_of t 1 n in
    let same = ap (λ r. length r.places) c.move_out-slots.ensures.region in
    let next_is = place_of_cases t 1 n (omega arith) in
    (three t next c.args.len n (n - 1 - t - 0) (n - t) c.capacity-last.ensures
    (rw (c.capacity-last.ensures, c.move_out-slots.ensures.region) c.requires.filled) (omega arith)
    (grind arith) (grind arith) (grind arith)
    ).0 (grind (arith, distance_is next t n (omega arith) (omega arith)))

pub move_first-requires-clause-can : goal.move_first-requires-clause-can
move_first-requires-clause-can g c =
    let same = ap (λ r. length r.places) c.move_out-slots.ensures.region in
    let ps = c.args.self.now.places in
    record {
      target = omega arith;
      source = omega arith;
      filled = λ k lt. rw c.move_out-slots.ensures.region (subst (IsFilled ps)
          (place_of-sum c.args.dst 1 k (length ps) ∙ ap (λ x. x % length ps) (omega arith))
          (c.requires.filled k (omega arith)));
    }

pub move_first-requires-else-len-upper-clause-can : goal.move_first-requires-else-len-upper-clause-can
move_first-requires-else-len-upper-clause-can g c =
    (round g (goal.at.move_first-requires-else-len-upper-clause-can g c).After-capacity-last (omega arith)).one

pub move_last-requires-clause-can : goal.move_last-requires-clause-can
move_last-requires-clause-can g c = rw (c.move_first-else-len-upper.ensures.all refl)
    (round g (goal.at.move_last-requires-clause-can g c).After-capacity-last (omega arith)).two

pub move_first-requires-else-len-upper-2-clause-can : goal.move_first-requires-else-len-upper-2-clause-can
move_first-requires-else-len-upper-2-clause-can g c =
    rw (c.move_last.ensures.all refl, c.move_first-else-len-upper.ensures.all refl)
    (round g (goal.at.move_first-requires-else-len-upper-2-clause-can g c).After-capacity-last (omega arith)).three

pub returns-clause-places : goal.returns-clause-places
returns-clause-places g c =
    let ps = c.move_out-slots.result.places in
    rw (c.count.ensures, ← c.move_out-slots.ensures.region) (elim c.if-len-upper.branch [
      | then-len-upper w ↦
          rw (w.slots-is, w.move_first.ensures.all refl) (same_move _ _ _ _ _ _ _
          (grind (arith, place_of_cases c.args.dst 1 (length ps))))
      | else-len-upper w ↦ rw (
        w.slots-is,
        w.move_first-else-len-upper-2.ensures.all refl,
        w.move_last.ensures.all refl,
        w.move_first-else-len-upper.ensures.all refl,
        (round g (goal.at.returns-clause-places g c).After-capacity-last (omega arith)).is,
        c.capacity-last.ensures,
      ) refl
    ])
