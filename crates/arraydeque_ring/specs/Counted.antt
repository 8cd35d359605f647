-- How the counts grow, by the kind of step. What a step reads and writes is counted by the leaves
-- that do so.
use Rattle.std.specs.Prelude.{ℕ, ◌+◌}
use Rattle.arraydeque_ring.specs.{
  declared.slots.StepKind.{StepKind, TheVariants.{Put, Take, Move, Exchange}},
  Steps.Steps,
}

-- the steps, with n more of a kind
abbrev pub counted : StepKind → ℕ → Steps → Steps
counted Put n s = record s { puts = s.puts + n }
counted Take n s = record s { takes = s.takes + n }
counted Move n s = record s { moves = s.moves + n }
counted Exchange n s = record s { exchanges = s.exchanges + n }
