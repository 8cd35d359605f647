-- The items before a partition point, and those from it on, as what a test accepts and rejects.
use Rattle.std.{
  proofs.Common.{◌≡◌, ℕ, ◌≤◌, zero, suc, Bool, true, false, not, List, [], ◌∷◌, length, take, drop, ap, arith},
  specs.List.{filter, Sorted.IsPartitionPoint},
}

module _ {X : Type 0} (p : X → Bool) where
  abbrev Parts : List X → ℕ → Type 0
  Parts = IsPartitionPoint (λ y. p y ≡ true) (λ y. p y ≡ false)

  later : (x : X) (xs : List X) (k : ℕ) → Parts (x ∷ xs) (suc k) → Parts xs k
  later x xs k parts = (
    λ j d low lt. parts.0 (suc j) d (omega arith) (omega arith),
    λ j d le lt. parts.1 (suc j) d (omega arith) (omega arith),
  )

  none_later : (x : X) (xs : List X) → Parts (x ∷ xs) 0 → Parts xs 0
  none_later x xs parts = (
    λ j d low lt. absurd (omega arith),
    λ j d le lt. parts.1 (suc j) d (omega arith) (omega arith),
  )

  -- those before it are accepted
  pub take-filter : (xs : List X) (k : ℕ) → k ≤ length xs → Parts xs k → take k xs ≡ filter p xs
  take-filter [] k le parts = grind arith
  take-filter (x ∷ xs) zero le parts =
      rw (parts.1 0 x (omega arith) (omega arith)) (take-filter xs 0 (omega arith) (none_later x xs parts))
  take-filter (x ∷ xs) (suc k) le parts =
      rw (parts.0 0 x (omega arith) (omega arith))
      (ap (λ l. x ∷ l) (take-filter xs k (omega arith) (later x xs k parts)))

  -- those from it on are rejected
  pub drop-filter : (q : X → Bool) → ((x : X) → q x ≡ not (p x)) → (xs : List X) (k : ℕ) → k ≤ length xs
      → Parts xs k → drop k xs ≡ filter q xs
  drop-filter q other [] k le parts = grind arith
  drop-filter q other (x ∷ xs) zero le parts =
      let fails = parts.1 0 x (omega arith) (omega arith) in
      rw (other x, fails) (ap (λ l. x ∷ l) (drop-filter q other xs 0 (omega arith) (none_later x xs parts)))
  drop-filter q other (x ∷ xs) (suc k) le parts =
      let passes = parts.0 0 x (omega arith) (omega arith) in
      rw (other x, passes) (drop-filter q other xs k (omega arith) (later x xs k parts))
