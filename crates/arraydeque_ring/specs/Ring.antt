-- A list in the places of a region, round the region's end.
use Rattle.std.specs.{
  List.Contains,
  Prelude.{◌≡◌, ℕ, ◌+◌, ◌-◌, ◌*◌, ◌%◌, ◌≤◌, nat_lt, if◌then◌else◌, List, [], ◌∷◌, ◌++◌, length},
  Prelude.{Any, map, take, drop, replicate, Option, Some, None, Bool, true, false, is_some},
}
use Rattle.arraydeque_ring.specs.Steps.{Steps, no_steps}

-- a ring: its items from front to back, how many there may be, the place of the first, and the
-- steps of its region
pub record RingState (X : Type 0) : Type 0 where
  pub items : List X
  pub capacity : ℕ
  pub start : ℕ
  pub steps : Steps

-- the place of item k, where the first item stands at `start`
abbrev pub place_of : ℕ → ℕ → ℕ → ℕ
place_of start k capacity = (start + k) % capacity

-- the start after it went k places up, one by one, in a region of n places
abbrev pub up_by : ℕ → ℕ → ℕ → ℕ
up_by k start n = if nat_lt 0 k then place_of start k n else start

-- the start after it went k places down, one by one, in a region of n places
abbrev pub down_by : ℕ → ℕ → ℕ → ℕ
down_by k start n = if nat_lt 0 k then place_of start (k * (n - 1)) n else start

module _ {X : Type 0} where
  abbrev pub empty_ring : ℕ → RingState X
  empty_ring n = record { items = []; capacity = n; start = 0; steps = no_steps }

  -- the list lies in one piece: from its start on, it ends at or before the region's end
  abbrev pub IsInOnePiece : RingState X → Type 0
  IsInOnePiece ring = ring.start + length ring.items ≤ ring.capacity

  -- the list read from the index `start` on, and on from its first item at its end
  abbrev pub rotated : ℕ → List X → List X
  rotated start xs = drop start xs ++ take start xs

  -- the values that are there, in order
  abbrev pub values : List (Option X) → List X
  values [] = []
  values (None ∷ ps) = values ps
  values (Some x ∷ ps) = x ∷ values ps

  -- which places hold a value
  unfoldable pub filled : List (Option X) → List Bool
  filled ps = map is_some ps

-- of the places whose fillings are given, the len from `start` on, round the end, are filled, and
-- no others
abbrev pub FilledFrom : ℕ → ℕ → List Bool → Type 0
FilledFrom start len fs = rotated start fs ≡ replicate len true ++ replicate (length fs - len) false

-- each clone that may be made of an item of the list is that item once more
abbrev pub ClonesAreSame : {X : Type 0} → (X → X → Type 0) → List X → Type 0
ClonesAreSame {X} IsClone xs = (x y : X) → Contains xs x → IsClone x y → y ≡ x

-- the clone of some item of the list may fail
abbrev pub CloneMayFail : {X : Type 0} → (X → Type 0) → List X → Type 0
CloneMayFail IsInfallible xs = Any (λ x. ¬ IsInfallible x) xs
