-- What is taken of an iterator.
use Rattle.std.specs.{
  Iterator.{Yields, Drains, Count, IsFinite},
  Prelude.{◌≡◌, ℕ, ◌≤◌, List, length, Bool, Option, None, true, false},
}

module _ {S A : Type 0} (gives : S → Option A → S → Type 0) (from : S) where
  -- calls took the iterator from `from` to `to` and gave at most n items, and fewer only if a
  -- None came after them, which `ended` tells, and P holds of these items
  pub record Fills (to : S) (n : ℕ) (ended : Bool) (P : List A → Type 0) : Type 0 where
    pub items : List A
    pub last : S
    pub yielded : Yields gives from items last
    pub at_most : length items ≤ n
    pub none : ended ≡ true → gives last None to
    pub all : ended ≡ false → (last ≡ to) × (length items ≡ n)
    pub holds : P items

  -- calls gave items and then the first None, and P holds of these items
  pub record Ends (P : List A → Type 0) : Type 0 where
    pub items : List A
    pub drains : Drains gives from items
    pub holds : P items

-- an iterator that hasn't ended may be called further, and is finite if it was before
abbrev pub GoesOn : {S : Type 0} → (S → Type 0) → (S → Count) → S → S → Bool → Type 0
GoesOn can left from to ended = ended ≡ false → can to × (IsFinite (left from) → IsFinite (left to))
