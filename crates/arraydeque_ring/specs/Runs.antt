-- Runs of places, and of a list's items: which are filled or empty, and what it means to empty one,
-- to write one, to turn two round or to exchange two.
use Rattle.std.specs.{
  List.{refill, splice},
  Prelude.{◌≡◌, ℕ, ◌+◌, ◌-◌, ◌≤◌, List, ◌++◌, length, map, take, drop, replicate, Option, Some},
  Prelude.None,
}

module _ {X : Type 0} where
  -- the len places from the place `from` on hold the values xs
  abbrev pub HoldsRun : List (Option X) → ℕ → ℕ → List X → Type 0
  HoldsRun ps from len xs = take len (drop from ps) ≡ map Some xs

  -- the region has the len places from the place `from` on, and each holds a value
  abbrev pub IsFilledRun : List (Option X) → ℕ → ℕ → Type 0
  IsFilledRun ps from len = (from + len ≤ length ps) × ((xs : List X) × HoldsRun ps from len xs)

  -- there are the len places from the index `from` on, and none of them holds a value
  abbrev pub IsEmptyRun : List (Option X) → ℕ → ℕ → Type 0
  IsEmptyRun ps from len = (from + len ≤ length ps) × (take len (drop from ps) ≡ replicate len None)

  -- the places, with nothing in the len from the index `at` on
  abbrev pub run_emptied : ℕ → ℕ → List (Option X) → List (Option X)
  run_emptied at len ps = splice ps at (at + len) (replicate len None)

  -- the places, with the values ws from the place `from` on
  abbrev pub with_run : ℕ → List X → List (Option X) → List (Option X)
  with_run from ws ps = splice ps from (from + length ws) (map Some ws)

  -- the values ws, cut or filled up from xs to as many as xs has
  abbrev pub as_many : List X → List X → List X
  as_many xs ws = refill (length xs) xs ws

  -- the m items from the index `at` on, and the n behind them, in each other's place
  abbrev pub run_rotated : ℕ → ℕ → ℕ → List X → List X
  run_rotated at m n xs = take at xs
      ++ (take n (drop (at + m) xs) ++ (take m (drop at xs) ++ drop (at + m + n) xs))

  -- the list with the len items from the index a on exchanged with those from b on, which come
  -- later
  abbrev pub runs_exchanged : ℕ → ℕ → ℕ → List X → List X
  runs_exchanged a b len xs =
      let between = take (b - (a + len)) (drop (a + len) xs) in
      take a xs
      ++ (take len (drop b xs) ++ (between ++ (take len (drop a xs) ++ drop (b + len) xs)))
