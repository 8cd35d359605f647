-- What the places of a region hold.
use Rattle.std.specs.{
  Prelude.{◌≡◌, ℕ, ◌<◌, List, length, replicate, slice_index_or, Option, Some, None},
}
use Rattle.arraydeque_ring.specs.Steps.{Steps, no_steps}

-- a region: what each place holds, from the first to the last, and the steps so far
pub record Region (X : Type 0) : Type 0 where
  pub places : List (Option X)
  pub steps : Steps

module _ {X : Type 0} where
  -- n empty places, and nothing done yet
  abbrev pub empty_region : ℕ → Region X
  empty_region n = record { places = replicate n None; steps = no_steps }

  -- what the place holds, and None past the last one
  abbrev pub held_at : List (Option X) → ℕ → Option X
  held_at ps place = slice_index_or ps place None

  -- the place holds a value
  abbrev pub IsFilled : List (Option X) → ℕ → Type 0
  IsFilled ps place = (x : X) × (held_at ps place ≡ Some x)

  -- the region has the place, and it holds nothing
  abbrev pub IsEmpty : List (Option X) → ℕ → Type 0
  IsEmpty ps place = (place < length ps) × (held_at ps place ≡ None)

  -- no place holds a value
  abbrev pub AreAllEmpty : List (Option X) → Type 0
  AreAllEmpty ps = ps ≡ replicate (length ps) None
