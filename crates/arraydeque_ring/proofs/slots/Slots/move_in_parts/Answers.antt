use Rattle.std.proofs.Common.{◌+◌, ◌-◌, ◌≤◌, arith}
use Rattle.arraydeque_ring.{
  proofs.{
    moved.TwoMoves.{StartsAt, Three, three},
    places.Rotated.place_of_cases,
    slots.Slots.move_in_parts.{Given.Over, Goals.After-wrap_add},
  },
  specs.Moved.{distance, run_moved},
}
use Rattle.arraydeque_ring.proofs.slots.Slots.move_in_parts.Goals as goal

moves : (g : Over) (c : After-wrap_add g) → let a = c.args in let d = c.wrap_add-dst_near.result in
    let s = c.wrap_add-src_near.result in let e = c.wrap_add-dst_far.result in let t = c.wrap_add-src_far.result in
    let near = c.min-near.result in let far = c.min-far.result in let n = c.capacity-capacity.result in
    let after = run_moved a.dst a.src a.len a.self.now.places in
    (a.len ≤ distance a.src a.dst n
    → Three a.dst a.src near d s (far - near) e t (a.len - far) a.self.now.places after)
    × (distance a.src a.dst n + a.len ≤ n
    → Three e t (a.len - far) d s (far - near) a.dst a.src near a.self.now.places after)
unfolding StartsAt
moves g c =
    let n = c.capacity-capacity.result in
    let a = c.args in
    let near = c.min-near.result in
    let far = c.min-far.result in
    three _ _ _ n near far c.capacity-capacity.ensures c.requires.filled (omega arith) (grind arith)
    (grind (arith, place_of_cases a.dst near n (omega arith), place_of_cases a.src near n (omega arith)))
    (grind (arith, place_of_cases a.dst far n (omega arith), place_of_cases a.src far n (omega arith)))

pub move_run-requires-then-len-wrap_add : goal.move_run-requires-then-len-wrap_add
move_run-requires-then-len-wrap_add g c = rw c.move_run.ensures
    ((moves g (goal.at.move_run-requires-then-len-wrap_add g c).After-wrap_add).0 (omega arith)).two

pub move_run-requires-then-len-wrap_add-2 : goal.move_run-requires-then-len-wrap_add-2
move_run-requires-then-len-wrap_add-2 g c = rw (c.move_run-then-len-wrap_add.ensures, c.move_run.ensures)
    ((moves g (goal.at.move_run-requires-then-len-wrap_add-2 g c).After-wrap_add).0 (omega arith)).three

pub returns-then-len-wrap_add : goal.returns-then-len-wrap_add
returns-then-len-wrap_add g c = rw (
  c.move_run-then-len-wrap_add-2.ensures,
  c.move_run-then-len-wrap_add.ensures,
  c.move_run.ensures,
  ((moves g (goal.at.returns-then-len-wrap_add g c).After-wrap_add).0 (omega arith)).is,
) (grind arith)

pub move_run-requires-else-len-wrap_add : goal.move_run-requires-else-len-wrap_add
move_run-requires-else-len-wrap_add g c =
    ((moves g (goal.at.move_run-requires-else-len-wrap_add g c).After-wrap_add).1 (grind arith)).one

pub move_run-requires-else-len-wrap_add-2 : goal.move_run-requires-else-len-wrap_add-2
move_run-requires-else-len-wrap_add-2 g c = rw c.move_run-else-len-wrap_add.ensures
    ((moves g (goal.at.move_run-requires-else-len-wrap_add-2 g c).After-wrap_add).1 (grind arith)).two

pub move_run-requires-else-len-wrap_add-3 : goal.move_run-requires-else-len-wrap_add-3
move_run-requires-else-len-wrap_add-3 g c =
    rw (c.move_run-else-len-wrap_add-2.ensures, c.move_run-else-len-wrap_add.ensures)
    ((moves g (goal.at.move_run-requires-else-len-wrap_add-3 g c).After-wrap_add).1 (grind arith)).three

pub returns-else-len-wrap_add : goal.returns-else-len-wrap_add
returns-else-len-wrap_add g c = rw (
  c.move_run-else-len-wrap_add-3.ensures,
  c.move_run-else-len-wrap_add-2.ensures,
  c.move_run-else-len-wrap_add.ensures,
  ((moves g (goal.at.returns-else-len-wrap_add g c).After-wrap_add).1 (grind arith)).is,
) (grind arith)
