use Rattle.std.proofs.Common.{◌≡◌, ℕ, ◌<◌, ◌≤◌, length, None}
use Rattle.arraydeque_ring.specs.{Moved.held_after, Places.held_at}
use Rattle.arraydeque_ring_tests.proofs.block_moves.move_beside.Given as goal

abbrev pub invariant-loop-place : goal.invariant-loop-place
invariant-loop-place g l = record {
  long : length l.slots.places ≡ length l.row;
  gone : (x : ℕ) → x < l.place-counter → held_at l.slots.places x ≡ None;
  left : (x : ℕ) → l.place-counter ≤ x → x < length l.row →
      held_at l.slots.places x ≡ held_after l.dst l.src l.len l.row x;
}
