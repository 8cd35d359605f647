-- Times that rise, of which those that are no longer recent go at the front.
use Rattle.std.{
  proofs.{
    Common.{◌≡◌, ◌≤◌, ◌<◌, ◌-◌, ℕ, List, [], ◌∷◌, nat_lt, Option},
    Common.{None, Bool, not, drop, inl, inr, subst, arith},
    lemmas.{Bool.{cases_lt, Decides.nat_tests}, List.Sorted.IsNonDecreasingBy-drop},
  },
  specs.{Borrow.MutBor, Fn.{Once, FnOnceReturnsAtMut}},
  specs.List.{Retain.PopsFrontIf, Sorted.IsNonDecreasing},
}
use Rattle.uses.specs.Limiter.{recent}

module _ (span now : ℕ) where
  -- behind a recent time all are
  recent-all : (x : ℕ) (xs : List ℕ) → IsNonDecreasing (x ∷ xs) → now - x < span → recent span now (x ∷ xs) ≡ x ∷ xs
  recent-all x [] rises is = grind (arith, nat_tests)
  recent-all x (y ∷ ys) rises is =
      let le : x ≤ y = rises 0 1 0 (omega arith) (omega arith) in
      let rest = recent-all y ys (IsNonDecreasingBy-drop (λ t. t) 1 (x ∷ y ∷ ys) rises) (omega arith) in
      grind (arith, nat_tests, rest)

  -- of a closure that tests whether a time is no longer recent, a pop
  module _ {F : Type 0} (g : Once F (MutBor ℕ × Unit {0}) (Bool × (MutBor ℕ × Unit {0}))) (f : F)
      (says : (x : ℕ) (b : Bool) (y : ℕ) → FnOnceReturnsAtMut g f x b y → (b ≡ not (nat_lt (now - x) span)) × (y ≡ x))
      (old new : List ℕ) (r : Option ℕ) where
    -- takes such a time out
    pub pop-old : PopsFrontIf g old new f r → recent span now new ≡ recent span now old
    pop-old (inl none) = grind (arith, none.0, none.1)
    pop-old (inr (xs, x, b, y, was, met, is, left)) =
        let said = says x b y met in
        elim (cases_lt (now - x) span) [
          | inl low ↦ grind (arith, nat_tests, said.0, said.1, was, left)
          | inr high ↦ grind (arith, nat_tests, said.0, said.1, was, left)
        ]

    module _ (rises : IsNonDecreasing old) where
      pub pop-rises : PopsFrontIf g old new f r → IsNonDecreasing new
      pop-rises (inl none) = rw none.1 (λ i j d le lt. absurd (omega (arith, lt)))
      pop-rises (inr (xs, x, b, y, was, met, is, left)) =
          let said = says x b y met in
          elim (cases_lt (now - x) span) [
            | inl low ↦
                let same : new ≡ old = grind (arith, nat_tests, said.0, said.1, was, left) in rw same rises
            | inr high ↦
                let tail : new ≡ drop 1 old = grind (arith, nat_tests, said.0, was, left) in
                rw tail (IsNonDecreasingBy-drop (λ t. t) 1 old rises)
          ]

      -- or leaves those that are all recent
      pub pop-none : PopsFrontIf g old new f r → r ≡ None → new ≡ recent span now new
      pop-none (inl none) empty = grind (arith, none.0, none.1)
      pop-none (inr (xs, x, b, y, was, met, is, left)) empty =
          let said = says x b y met in
          elim (cases_lt (now - x) span) [
            | inl low ↦
                let all = recent-all x xs (subst (λ l. IsNonDecreasing l) was rises) low in
                grind (arith, nat_tests, said.0, said.1, left, all)
            | inr high ↦ absurd (grind (arith, nat_tests, said.0, is, empty))
          ]
