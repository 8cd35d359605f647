use Rattle.std.proofs.{Common.arith, lemmas.{Fn.called_at, List.take_all}}
use Rattle.arraydeque_ring.proofs.{
  Opened.opened,
  retained.Retaining.{all_kept, first_goes, next_filled, next_asked, counted, moves_up, goes},
  retained.Retaining.{all_asked, asked_next, unwritten},
  ring.Ring.retain.Goals.{then-keeps, else-keeps},
}
use Rattle.arraydeque_ring.proofs.ring.Ring.retain.Goals as goal

pub returns-then-kept-len-clause-retains : goal.returns-then-kept-len-clause-retains
returns-then-kept-len-clause-retains g c = grind (arith, opened, all_kept)

pub loop-index-init : goal.loop-index-init
loop-index-init g c = grind (arith, opened, first_goes)

pub get-requires : goal.get-requires
get-requires g c = rw c.wrap_add-place.ensures (next_filled c.loop-index.invariant (omega arith))

pub f-keeps-requires : goal.f-keeps-requires
f-keeps-requires g c =
    let so_far = c.loop-index.invariant in
    c.requires _ _ _
    (next_asked so_far (omega arith) _ (rw c.wrap_add-place.ensures at c.get.ensures)) so_far.told.in_turn

pub loop-index-preserved : goal.loop-index-preserved
loop-index-preserved g c =
    let so_far = c.loop-index.invariant in
    let held = rw c.wrap_add-place.ensures at c.get.ensures in
    let is = unwritten so_far (omega arith) _ held in
    let here = next_asked so_far (omega arith) _ held in
    elim c.if-keeps.branch [
      | then-keeps w ↦ rw (
        w.slots-is,
        w.kept-is,
        w.shift.ensures.places,
        w.shift.ensures.steps,
        w.wrap_add-then-keeps.ensures,
        c.wrap_add-place.ensures,
      ) (moves_up so_far (omega arith) _ is so_far.cost
          (asked_next so_far.told here (called_at g.F.FnMut c.f-keeps.ensures w.if-keeps.true))
          (omega (arith, counted so_far, so_far.told.some_gone)))
      | else-keeps w ↦ rw (
        w.slots-is,
        w.kept-is,
        w.take-else-keeps.ensures.places,
        w.take-else-keeps.ensures.steps,
        c.wrap_add-place.ensures,
      ) (goes so_far (omega arith) _ is so_far.cost
          (asked_next so_far.told here (called_at g.F.FnMut c.f-keeps.ensures w.if-keeps.false)))
    ]

pub invariant_of-self : goal.invariant_of-self
invariant_of-self g c = grind (arith, all_asked c.loop-index.invariant (omega arith))

pub returns-clause-retains : goal.returns-clause-retains
returns-clause-retains g c =
    let so_far = c.loop-index.invariant in
    record {
      answers = so_far.answers;
      last = c.loop-index.f;
      one_each = omega arith;
      in_turn = so_far.told.in_turn;
      kept = grind (arith, all_asked so_far (omega arith), so_far.told.same, take_all);
    }

pub returns-clause-no_longer : goal.returns-clause-no_longer
returns-clause-no_longer g c = let so_far = c.loop-index.invariant in
    grind (arith, all_asked so_far (omega arith), counted so_far)
