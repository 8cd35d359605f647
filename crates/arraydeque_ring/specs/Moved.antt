-- A run of values that moves to other places, all at once, round the region's end.
use Rattle.std.specs.{
  List.range_with_len,
  Prelude.{ℕ, ◌+◌, ◌-◌, ◌*◌, ◌<◌, ◌≤◌, ◌⊎◌, List, length, map, Bool, ◌||◌, ◌==◌, nat_le, nat_lt},
  Prelude.{if◌then◌else◌, Option, None},
}
use Rattle.arraydeque_ring.specs.{Places.{held_at, IsFilled, IsEmpty}, Ring.place_of}

-- how many places up from `from` the place `to` is, round the end of n places
abbrev pub distance : ℕ → ℕ → ℕ → ℕ
distance from to n = place_of to (n - from) n

-- whether the place is one of the len places from `from` on, round the end of n places
abbrev pub is_among : ℕ → ℕ → ℕ → ℕ → Bool
is_among from len n place = nat_lt (distance from place n) len

-- of n places, the len from dst on don't meet those from src on at both their ends
abbrev pub MeetAtOneEndAtMost : ℕ → ℕ → ℕ → ℕ → Type 0
MeetAtOneEndAtMost dst src len n = (len ≤ distance src dst n) ⊎ (distance src dst n + len ≤ n)

-- whether a block may have n items of `size` bytes each: it is one item, or has at most 32 kB
abbrev pub is_block : ℕ → ℕ → Bool
is_block n size = (n == 1) || nat_le (n * size) 32768

module _ {X : Type 0} where
  -- the len places from `from` on, round the end, hold values
  abbrev pub IsFilledRound : ℕ → ℕ → List (Option X) → Type 0
  IsFilledRound from len ps = (k : ℕ) → k < len → IsFilled ps (place_of from k (length ps))

  -- each of the len places from dst on, round the end, is among the len from src on, or is empty
  abbrev pub IsFreeRound : ℕ → ℕ → ℕ → List (Option X) → Type 0
  IsFreeRound dst src len ps = (k : ℕ) → k < len →
      let place = place_of dst k (length ps) in
      (distance src place (length ps) < len) ⊎ IsEmpty ps place

  -- what a place holds once the values in the len places from src on have moved to those from dst
  -- on, all at once: a target holds what its source held, a source that is no target holds
  -- nothing, and every other place holds what it held before
  abbrev pub held_after : ℕ → ℕ → ℕ → List (Option X) → ℕ → Option X
  held_after dst src len ps place =
      let n = length ps in
      if is_among dst len n place then held_at ps (place_of src (distance dst place n) n)
      else (if is_among src len n place then None else held_at ps place)

  -- the places after that move
  abbrev pub run_moved : ℕ → ℕ → ℕ → List (Option X) → List (Option X)
  run_moved dst src len ps = map (held_after dst src len ps) (range_with_len 0 (length ps))

  -- a run of len values from src on can move to the places from dst on: neither passes the end
  pub record CanMoveRun (dst src len : ℕ) (ps : List (Option X)) : Type 0 where
    pub target : dst + len ≤ length ps
    pub source : src + len ≤ length ps
    pub filled : IsFilledRound src len ps

  -- a run of len values from src on can move to the places from dst on, round the end
  pub record CanMove (dst src len : ℕ) (ps : List (Option X)) : Type 0 where
    pub dst_in_region : dst < length ps
    pub src_in_region : src < length ps
    pub apart : MeetAtOneEndAtMost dst src len (length ps)
    pub filled : IsFilledRound src len ps
