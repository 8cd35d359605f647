-- What a running median is of.
use Rattle.std.specs.{
  List.Sorted.{IsNonDecreasing, IsPermutation},
  Prelude.{◌≡◌, ℕ, ◌<◌, ◌/◌, List, length, slice_get, Option},
}

-- ys is xs in order
pub record IsInOrder (xs ys : List ℕ) : Type 0 where
  pub same : IsPermutation xs ys
  pub rises : IsNonDecreasing ys

-- the middle of a list's numbers in order: of an even number of them the greater of the middle two
abbrev pub IsMedian : List ℕ → Option ℕ → Type 0
IsMedian xs median = (ys : List ℕ) × IsInOrder xs ys × (median ≡ slice_get ys (length ys / 2))

-- a window of n samples or fewer, with room for one, and its samples in order
pub record Ordered (n : ℕ) (window ordered : List ℕ) : Type 0 where
  pub some : 0 < n
  pub order : IsInOrder window ordered
