-- The ring's words that contracts of the deque use, passed on to crates that list the deque alone.
pub use Rattle.arraydeque_ring.specs.Changed.{InsertMovesFewest, RemoveMovesFewest}
pub use Rattle.arraydeque_ring.specs.Changed.{DrainMovesFewest, RotateMovesFewest, IsFewest}
pub use Rattle.arraydeque_ring.specs.Changed.{changed_insert, changed_remove, changed_drain}
pub use Rattle.arraydeque_ring.specs.Changed.{changed_rotate}
pub use Rattle.arraydeque_ring.specs.Computed.{ComputesAt, ComputesAtMut, Changes}
pub use Rattle.arraydeque_ring.specs.Loans.{LoanState, remaining}
pub use Rattle.arraydeque_ring.specs.Retained.{Retains, MayBeAsked, count_moved}
pub use Rattle.arraydeque_ring.specs.Retained.{RetainsMut, MayBeAskedMut}
pub use Rattle.arraydeque_ring.specs.Retained.{WrittenAs, as_were, as_left}
pub use Rattle.arraydeque_ring.specs.Ring.{RingState, place_of, up_by, down_by, IsInOnePiece}
pub use Rattle.arraydeque_ring.specs.Ring.{ClonesAreSame, CloneMayFail}
pub use Rattle.arraydeque_ring.specs.Runs.{as_many}
pub use Rattle.arraydeque_ring.specs.Sides.{moves_to_insert, moves_to_remove, moves_to_drain}
pub use Rattle.arraydeque_ring.specs.Sides.{moves_to_rotate, start_rotated}
pub use Rattle.arraydeque_ring.specs.Sides.{start_opened, start_closed}
pub use Rattle.arraydeque_ring.specs.Steps.{Steps, no_steps, more_puts, more_takes, more_moves}
pub use Rattle.arraydeque_ring.specs.Steps.{more_exchanges, more_lends, Rearranges}
