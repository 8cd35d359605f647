-- What it means to move a run of empty places, and to close it.
use Rattle.std.specs.{
  List.{insert_slice, remove_range},
  Prelude.{◌≡◌, ℕ, ◌+◌, ◌-◌, ◌<◌, ◌≤◌, List, length, min, replicate, Option, None, nat_lt},
  Prelude.if◌then◌else◌,
}
use Rattle.arraydeque_ring.specs.{
  Places.Region,
  Ring.{place_of, rotated},
  Runs.{IsEmptyRun, IsFilledRun},
  Steps.more_moves,
}

-- the places, with the `gap` empty ones from the index `from` on moved to the index `to`
abbrev pub gap_moved : {X : Type 0} → ℕ → ℕ → ℕ → List (Option X) → List (Option X)
gap_moved from to gap ps = insert_slice (remove_range ps from (from + gap)) to (replicate gap None)

-- where values start once the gap between those before it and those behind it is closed: as many
-- places up if those before it move
abbrev pub first_closed : ℕ → ℕ → ℕ → ℕ → ℕ → ℕ
first_closed before gap behind capacity start =
    if nat_lt before behind then place_of start gap capacity else start

module _ {X : Type 0} (from before gap behind : ℕ) where
  -- from the place `from` on, round the end: `before` values, `gap` empty places, `behind` values,
  -- and no other value
  pub record MayClose (ps : List (Option X)) : Type 0 where
    pub some : 0 < gap
    pub in_region : from < length ps
    pub within : before + gap + behind ≤ length ps
    pub filled_before : IsFilledRun (rotated from ps) 0 before
    pub empty : IsEmptyRun (rotated from ps) before gap
    pub filled_behind : IsFilledRun (rotated from ps) (before + gap) behind
    pub others_empty :
        let len = before + gap + behind in IsEmptyRun (rotated from ps) len (length ps - len)

  -- the gap is behind all values, which start at `first` now: the fewer of them moved
  pub record Closes (old : Region X) (first : ℕ) (new : Region X) : Type 0 where
    pub start : first ≡ first_closed before gap behind (length old.places) from
    pub places : rotated first new.places ≡
        gap_moved before (before + behind) gap (rotated from old.places)
    pub steps : new.steps ≡ more_moves (min before behind) old.steps
