-- What a source of items gives, once it is turned into an iterator.
use Rattle.std.specs.{
  Iterator.Runs.Run,
  Option.option_map,
  Prelude.{◌≡◌, ℕ, ◌<◌, ◌≤◌, List, length, take, slice_index_or, Option, Some, true},
}

-- whatever iterator the source becomes may be called
abbrev pub IsIterable : {Source S : Type 0} → (Source → S → Type 0) → (S → Type 0) → Source → Type 0
IsIterable {S = S} becomes can source = (it : S) → becomes source it → can it

-- each item of a run is the one of xs at its index, as std's ItemsAre says it
abbrev pub IsReadOff : {S A : Type 0} {gives : S → Option A → S → Type 0}
    → Run gives → List A → Type 0
IsReadOff {A = A} run xs = (k : ℕ) (d : A)
    → k < run.len → option_map (λ x. x) (run.at k) ≡ Some (slice_index_or xs k d)

module _ {Source S A : Type 0} (becomes : Source → S → Type 0)
    (gives : S → Option A → S → Type 0) (source : Source) where
  -- the source became an iterator whose calls gave at most n items, and fewer only if a None
  -- came after them, and P holds of these items; of a list that they were read off, they are the
  -- first n, and the whole list if it has as many
  pub record TakesFrom (n : ℕ) (P : List A → Type 0) : Type 0 where
    pub iterator : S
    pub became : becomes source iterator
    pub run : Run gives
    pub from_it : run.from ≡ iterator
    pub at_most : run.len ≤ n
    pub or_all : run.len < n → run.whole ≡ true
    pub holds : P run.items
    pub first : (xs : List A) → run.len ≤ length xs → IsReadOff run xs
        → (run.whole ≡ true → run.len ≡ length xs) → run.items ≡ take n xs
    pub same : (xs : List A) → run.len ≡ length xs → IsReadOff run xs → run.items ≡ xs

  -- the source became an iterator whose calls gave items and then the first None, and P holds of
  -- these items; of a list that they were read off and that has as many, they are the whole list
  pub record TakesAll (P : List A → Type 0) : Type 0 where
    pub iterator : S
    pub became : becomes source iterator
    pub run : Run gives
    pub from_it : run.from ≡ iterator
    pub to_end : run.whole ≡ true
    pub holds : P run.items
    pub same : (xs : List A) → run.len ≡ length xs → IsReadOff run xs → run.items ≡ xs
