use Rattle.std.proofs.Common.{◌+◌, ◌-◌, ◌≤◌, length, ap, refl, arith}
use Rattle.arraydeque_ring.{
  proofs.{
    moved.{Flat.same_move, TwoMoves.{StartsAt, Three, three}},
    places.Rotated.place_of_cases,
    slots.Slots.slide_up.{
      Given.Over,
      Goals.{After-capacity-capacity, then-len-upper, else-len-upper},
    },
  },
  specs.{Moved.run_moved, Ring.place_of},
}
use Rattle.arraydeque_ring.proofs.slots.Slots.slide_up.Goals as goal

-- a run that wraps, as the calls say it: what is past the end, the value in the last place, and what is before it
round : (g : Over) (c : After-capacity-capacity g) → let n = c.capacity-capacity.result in let t = c.args.src in
    let ps = c.move_out-slots.result.places in
    n - t ≤ c.args.len → Three 1 0 (c.args.len - (n - t)) 0 (n - 1 + 0) 1 (t + 1) t (n - t - 1) ps
    (run_moved (place_of t 1 n) t c.args.len ps)
unfolding StartsAt
round g c wraps =
    let n = c.capacity-capacity.result in
    let t = c.args.src in
    let next = place_of t 1 n in
    let same = ap (λ r. length r.places) c.move_out-slots.ensures.region in
    (three next t c.args.len n (n - t - 1) (n - t) c.capacity-capacity.ensures
    (rw c.move_out-slots.ensures.region c.requires.filled) (omega arith) (grind arith) (grind arith) (grind arith)
    ).1 (grind arith)

pub move_last-requires-clause-can : goal.move_last-requires-clause-can
move_last-requires-clause-can g c = record {
  target = omega arith;
  source = omega arith;
  filled = rw c.move_out-slots.ensures.region c.requires.filled;
}

pub move_last-requires-else-len-upper-clause-can : goal.move_last-requires-else-len-upper-clause-can
move_last-requires-else-len-upper-clause-can g c =
    (round g (goal.at.move_last-requires-else-len-upper-clause-can g c).After-capacity-capacity (omega arith)).one

pub move_first-requires-clause-can : goal.move_first-requires-clause-can
move_first-requires-clause-can g c = rw (c.move_last-else-len-upper.ensures.all refl)
    (round g (goal.at.move_first-requires-clause-can g c).After-capacity-capacity (omega arith)).two

pub move_last-requires-else-len-upper-2-clause-can : goal.move_last-requires-else-len-upper-2-clause-can
move_last-requires-else-len-upper-2-clause-can g c =
    rw (c.move_first.ensures.all refl, c.move_last-else-len-upper.ensures.all refl)
    (round g (goal.at.move_last-requires-else-len-upper-2-clause-can g c).After-capacity-capacity (omega arith)).three

pub returns-clause-places : goal.returns-clause-places
returns-clause-places g c =
    let ps = c.move_out-slots.result.places in
    rw (c.count.ensures, ← c.move_out-slots.ensures.region) (elim c.if-len-upper.branch [
      | then-len-upper w ↦ rw (w.slots-is, w.move_last.ensures.all refl) (same_move _ _ _ _ _ _ _
          (grind (arith, place_of_cases c.args.src 1 (length ps))))
      | else-len-upper w ↦ rw (
        w.slots-is,
        w.move_last-else-len-upper-2.ensures.all refl,
        w.move_first.ensures.all refl,
        w.move_last-else-len-upper.ensures.all refl,
        (round g (goal.at.returns-clause-places g c).After-capacity-capacity (omega arith)).is,
        c.capacity-capacity.ensures,
      ) refl
    ])
