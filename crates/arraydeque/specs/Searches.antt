-- Where a search of a list ends.
use Rattle.std.specs.{
  Prelude.{◌≡◌, ℕ, true, false, List, IfOk},
  declared.{cmp.Ordering.{Ordering, TheVariants.Less}, result.Result.Result},
  Ordering.{is_lt, ordering_index},
  List.{AllWithin, Sorted.{IsNonDecreasingBy, IsPartitionedBy, IsPartitionPoint}},
}

-- n is the number of the items that ord calls less, if these come first
abbrev pub IsLessCount : {X : Type 0} → (X → Ordering) → List X → ℕ → Type 0
IsLessCount ord xs n = IsPartitionedBy (λ y. is_lt (ord y)) xs
    → IsPartitionPoint (λ y. is_lt (ord y) ≡ true) (λ y. is_lt (ord y) ≡ false) xs n

-- if the answers rise, all items before one that is found are less
abbrev pub IsFirstFound : {X : Type 0} → (X → Ordering) → List X → Result ℕ ℕ → Type 0
IsFirstFound ord xs r = IsNonDecreasingBy (λ y. ordering_index (ord y)) xs
    → IfOk r (AllWithin (λ y. ord y ≡ Less) xs 0)
