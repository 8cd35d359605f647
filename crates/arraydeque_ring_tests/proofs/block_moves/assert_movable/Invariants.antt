use Rattle.std.proofs.Common.{ℕ, ◌<◌, ◌⊎◌, length}
use Rattle.arraydeque_ring.specs.{Moved.distance, Places.{IsFilled, IsEmpty}, Ring.place_of}
use Rattle.arraydeque_ring_tests.proofs.block_moves.assert_movable.Given as goal

abbrev pub invariant-loop-k : goal.invariant-loop-k
invariant-loop-k g l = record {
  filled : (j : ℕ) → j < l.k → IsFilled l.row (place_of l.src j (length l.row));
  free : (j : ℕ) → j < l.k → let place = place_of l.dst j (length l.row) in
      (distance l.src place (length l.row) < l.len) ⊎ IsEmpty l.row place;
}
