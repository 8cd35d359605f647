-- The first items of a list, and what comes behind some of them.
use Rattle.std.proofs.{
  Common.{◌≡◌, ℕ, ◌<◌, zero, suc, inl, inr, List, [], ◌∷◌, length, min, take, drop, slice_get},
  Common.{IfNone, refl, sym, ap, ◌∙◌, arith},
  lemmas.{Bool.cases_lt, List.take_all},
  Math.Seq.take-length,
}

module _ {X : Type 0} where
  -- to take no more than there are is to take as many
  pub take-min : (n : ℕ) (xs : List X) → take (min n (length xs)) xs ≡ take n xs
  take-min n xs = elim (cases_lt n (length xs)) [
    | inl less ↦ ap (λ m. take m xs) (omega arith)
    | inr all ↦ ap (λ m. take m xs) (omega arith) ∙ take-length xs ∙ sym (take_all n xs all)
  ]

  -- what comes behind the first c of the first n items comes behind the first c of all
  pub first-taken : (c n : ℕ) (xs : List X) → c < n
      → slice_get (drop c (take n xs)) 0 ≡ slice_get (drop c xs) 0
  first-taken c zero xs less = absurd (omega arith)
  first-taken c (suc n) [] less = grind arith
  first-taken zero (suc n) (x ∷ xs) less = refl
  first-taken (suc c) (suc n) (x ∷ xs) less = first-taken c n xs (omega arith)

  -- a list without a first item is empty
  pub none-first : (xs : List X) (P : Type 0) → (length xs ≡ 0 → P) → IfNone (slice_get xs 0) P
  none-first [] P empty = empty refl
  none-first (x ∷ xs) P empty = tt
