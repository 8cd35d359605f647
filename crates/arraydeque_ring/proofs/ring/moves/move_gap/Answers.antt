use Rattle.std.proofs.Common.{◌≡◌, ℕ, ◌+◌, ◌-◌, inl, inr, refl, arith}
use Rattle.arraydeque_ring.{
  proofs.{
    gaps.Crossing.{Crosses, crosses, one_on},
    ring.moves.move_gap.{Given.Over, Goals.{After-wrap_add-src, After-wrap_add-dst}},
  },
  specs.{Gaps.gap_moved, Ring.{place_of, rotated}},
}
use Rattle.arraydeque_ring.proofs.ring.moves.move_gap.Goals as goal

up : (g : Over) (c : After-wrap_add-src g) {d : ℕ}
    → d ≡ place_of c.args.start (c.args.to + c.args.gap) c.capacity-capacity.result
    → let a = c.args in let ps = a.slots.now.places in Crosses a.start d c.wrap_add-src.result (a.from - a.to) ps
    (gap_moved a.from a.to a.gap (rotated a.start ps))
up g c at =
    crosses _ _ _ _ _ c.requires (inl (refl, refl, omega arith))
    c.capacity-capacity.ensures at c.wrap_add-src.ensures c.requires.filled_before

down : (g : Over) (c : After-wrap_add-dst g) {s : ℕ}
    → s ≡ place_of c.args.start (c.args.from + c.args.gap) c.capacity-capacity.result
    → let a = c.args in let ps = a.slots.now.places in Crosses a.start c.wrap_add-dst.result s (a.to - a.from) ps
    (gap_moved a.from a.to a.gap (rotated a.start ps))
down g c at =
    crosses _ _ _ _ _ c.requires (inr (refl, refl, omega arith))
    c.capacity-capacity.ensures c.wrap_add-dst.ensures at c.requires.filled_behind

pub slide_up-requires : goal.slide_up-requires
slide_up-requires g c =
    let go = up g c.before.before
    (one_on _ _ c.wrap_add-src.ensures c.capacity-capacity.ensures c.if-gap-eq1.true) in
    grind arith

pub wrap_move-requires : goal.wrap_move-requires
wrap_move-requires g c = (up g c.before.before.before c.wrap_add.ensures).may

pub slide_down-requires : goal.slide_down-requires
slide_down-requires g c =
    let go = down g c.before.before
    (one_on _ _ c.wrap_add-dst.ensures c.capacity-capacity.ensures c.if-gap-eq1-2.true) in
    grind arith

pub wrap_move-requires-else-gap-eq1-2 : goal.wrap_move-requires-else-gap-eq1-2
wrap_move-requires-else-gap-eq1-2 g c = (down g c.before.before.before
    c.wrap_add-else-gap-eq1-2.ensures).may

pub returns-then-gap-eq1-clause-places : goal.returns-then-gap-eq1-clause-places
returns-then-gap-eq1-clause-places g c = rw c.slide_up.ensures.places
    (up g c.before.before.before
    (one_on _ _ c.wrap_add-src.ensures c.capacity-capacity.ensures c.if-gap-eq1.true)).is

pub returns-else-gap-eq1-clause-places : goal.returns-else-gap-eq1-clause-places
returns-else-gap-eq1-clause-places g c = rw c.wrap_move.ensures.places
    (up g (goal.at.returns-else-gap-eq1-clause-places g c).After-wrap_add-src c.wrap_add.ensures).is

pub returns-else-gap-eq1-clause-steps : goal.returns-else-gap-eq1-clause-steps
returns-else-gap-eq1-clause-steps g c = rw (
  c.wrap_move.ensures.steps,
  (up g (goal.at.returns-else-gap-eq1-clause-steps g c).After-wrap_add-src c.wrap_add.ensures).count,
) (grind arith)

pub returns-then-gap-eq1-2-clause-places : goal.returns-then-gap-eq1-2-clause-places
returns-then-gap-eq1-2-clause-places g c = rw c.slide_down.ensures.places
    (down g c.before.before.before
    (one_on _ _ c.wrap_add-dst.ensures c.capacity-capacity.ensures c.if-gap-eq1-2.true)).is

pub returns-else-gap-eq1-2-clause-places : goal.returns-else-gap-eq1-2-clause-places
returns-else-gap-eq1-2-clause-places g c = rw c.wrap_move-else-gap-eq1-2.ensures.places (down g
    (goal.at.returns-else-gap-eq1-2-clause-places g c).After-wrap_add-dst c.wrap_add-else-gap-eq1-2.ensures).is

pub returns-else-gap-eq1-2-clause-steps : goal.returns-else-gap-eq1-2-clause-steps
returns-else-gap-eq1-2-clause-steps g c = rw (
  c.wrap_move-else-gap-eq1-2.ensures.steps,
  (down g (goal.at.returns-else-gap-eq1-2-clause-steps g c).After-wrap_add-dst
      c.wrap_add-else-gap-eq1-2.ensures).count,
) (grind arith)
