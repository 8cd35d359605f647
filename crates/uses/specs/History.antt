-- What a history holds.
use Rattle.std.specs.Prelude.{List}

-- the states before the present one, oldest first, and those that were undone, the next one first
pub record Timeline (X : Type 0) : Type 0 where
  pub past : List X
  pub present : X
  pub undone : List X
