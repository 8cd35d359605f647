-- The part of a list that a range names, and what a drain of it makes of a deque.
use Rattle.std.specs.{
  List.remove_range,
  Prelude.{◌≡◌, ◌-◌, ◌≤◌, ℕ, List, length, slice_range, unwrap_or},
}
use Rattle.arraydeque_ring.specs.{
  Changed.DrainMovesFewest,
  Sides.{moves_to_drain, start_closed},
  Steps.{more_moves, more_takes},
}
use Rattle.arraydeque.specs.{declared.range.RangeArgument.{Ghosts}, Deque.{DequeState, as_ring}}

-- the items from the index `from` up to the index `to`, which is not among them
pub record Span : Type 0 where
  pub from : ℕ
  pub to : ℕ

-- the part of the list xs that a range names: a bound left open is the front of xs, or its end
abbrev pub span_of : {R X : Type 0} → Ghosts R ℕ → R → List X → Span
span_of argument range xs = record {
  from = unwrap_or (argument.names_start range) 0;
  to = unwrap_or (argument.names_end range) (length xs);
}

-- the range is one of the list xs: its bounds are in order, and it ends within the list
abbrev pub IsRangeOf : {R X : Type 0} → Ghosts R ℕ → R → List X → Type 0
IsRangeOf argument range xs =
    let span = span_of argument range xs in (span.from ≤ span.to) × (span.to ≤ length xs)

-- at the capacity n the items from one index up to another are drained, and the gap is closed
pub record IsDrained {X : Type 0} (n from to : ℕ) (old : DequeState X) (xs : List X)
    (new : DequeState X) : Type 0 where
  pub drained : xs ≡ slice_range old.items from to
  pub items : new.items ≡ remove_range old.items from to
  pub start : new.start ≡ start_closed from (to - from) (as_ring n old)
  pub steps : new.steps
      ≡ more_moves (moves_to_drain from to (length old.items)) (more_takes (to - from) old.steps)
  pub fewest : DrainMovesFewest from to (as_ring n old) new.start
