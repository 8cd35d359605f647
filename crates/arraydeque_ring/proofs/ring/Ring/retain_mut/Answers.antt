use Rattle.std.proofs.{Common.{length, refl, arith}, lemmas.List.take_all, RetainMut.Called-Mut}
use Rattle.arraydeque_ring.proofs.{
  Opened.opened,
  retained.{
    Retaining.{first_stay, next_filled, next_asked, written_filled, gap_empty, moves_up},
    Retaining.{stays_there, goes, all_asked, counted},
    Writing.{none_written, written_next},
  },
  ring.Ring.retain_mut.Goals.{then-keeps, then-kept-index, else-kept-index, else-keeps},
}
use Rattle.arraydeque_ring.proofs.ring.Ring.retain_mut.Goals as goal

pub loop-index-init : goal.loop-index-init
loop-index-init g c = grind (arith, opened, first_stay, none_written)

pub get_mut-requires : goal.get_mut-requires
get_mut-requires g c = rw c.wrap_add-place.ensures (next_filled c.loop-index.invariant (omega arith))

pub f-keeps-requires : goal.f-keeps-requires
f-keeps-requires g c =
    let so_far = c.loop-index.invariant in
    let told = so_far.told in
    c.requires so_far.answers told.pairs _ _ told.was
    (next_asked so_far (omega arith) _ (rw c.wrap_add-place.ensures at c.get_mut.ensures.value)) told.in_turn

pub shift-requires-clause-filled : goal.shift-requires-clause-filled
shift-requires-clause-filled g c =
    rw c.wrap_add-place.ensures (written_filled c.loop-index.invariant (omega arith) _ refl)

pub shift-requires-clause-empty : goal.shift-requires-clause-empty
shift-requires-clause-empty g c =
    rw (c.wrap_add-place.ensures, c.wrap_add.ensures)
    (gap_empty c.loop-index.invariant (omega arith) _ refl (omega arith))

pub take-requires : goal.take-requires
take-requires g c =
    rw c.wrap_add-place.ensures (written_filled c.loop-index.invariant (omega arith) _ refl)

pub loop-index-preserved : goal.loop-index-preserved
loop-index-preserved g c =
    let so_far = c.loop-index.invariant in
    let here = next_asked so_far (omega arith) _ (rw c.wrap_add-place.ensures at c.get_mut.ensures.value) in
    elim c.if-keeps.branch [
      | then-keeps w ↦
          let told = written_next so_far.told here (Called-Mut g.F.FnMut w.if-keeps.ensures) in
          elim w.if-kept-index.branch [
            | then-kept-index v ↦ rw (
              w.slots-is,
              w.kept-is,
              v.slots-is,
              v.shift.ensures.places,
              v.shift.ensures.steps,
              v.wrap_add.ensures,
              c.wrap_add-place.ensures,
            ) (moves_up so_far (omega arith) _ refl (grind (arith, so_far.cost)) told (omega arith))
            | else-kept-index v ↦ rw (w.slots-is, w.kept-is, v.slots-is, c.wrap_add-place.ensures)
                (stays_there so_far (omega arith) _ refl (grind (arith, so_far.cost)) told (omega arith))
          ]
      | else-keeps w ↦ rw (
        w.slots-is,
        w.kept-is,
        w.take.ensures.places,
        w.take.ensures.steps,
        c.wrap_add-place.ensures,
      ) (goes so_far (omega arith) _ refl (grind (arith, so_far.cost))
          (written_next so_far.told here (Called-Mut g.F.FnMut w.if-keeps.ensures)))
    ]

pub invariant_of-self : goal.invariant_of-self
invariant_of-self g c = grind (arith, all_asked c.loop-index.invariant (omega arith))

pub returns-clause-retains : goal.returns-clause-retains
returns-clause-retains g c =
    let so_far = c.loop-index.invariant in
    let told = so_far.told in
    record {
      answers = so_far.answers;
      pairs = told.pairs;
      last = c.loop-index.f;
      one_each = omega arith;
      before = grind (arith, told.was, take_all (length so_far.answers) c.args.self.now.items);
      in_turn = told.in_turn;
      kept = grind (arith, all_asked so_far (omega arith), told.is);
    }

pub returns-clause-no_longer : goal.returns-clause-no_longer
returns-clause-no_longer g c = let so_far = c.loop-index.invariant in
    grind (arith, all_asked so_far (omega arith), counted so_far)
