use Rattle.std.proofs.Common.{◌≡◌, ℕ, ◌<◌, ◌≤◌, length, None}
use Rattle.arraydeque_ring.specs.Places.{held_at}
use Rattle.arraydeque_ring_tests.proofs.block_moves.region_of.Given as goal

abbrev pub invariant-loop-place : goal.invariant-loop-place
invariant-loop-place l = record {
  long : length l.slots.places ≡ length l.row;
  done : (x : ℕ) → x < l.place → held_at l.slots.places x ≡ held_at l.row x;
  left : (x : ℕ) → l.place ≤ x → x < length l.row → held_at l.slots.places x ≡ None;
}
