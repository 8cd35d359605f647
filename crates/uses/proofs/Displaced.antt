-- A window's samples in order, once a sample came and one that it displaced went.
use Rattle.std.{
  proofs.{
    Common.{◌≡◌, ℕ, ◌<◌, List, [], ◌∷◌, ◌++◌, length, drop, Option, None, Some, option_to_list, IfSome},
    Common.{Contains, refl, ap, cond, arith},
    lemmas.List.{
      length-append,
      Sorted.{length_permutation, Contains-permutation},
      Sums.{sum_by-cons, sum_by-append},
    },
  },
  specs.List.{sum_by, Sorted.IsPermutation},
}
use Rattle.uses.proofs.Counted.{SameCounts-permutation, permutation_from_counts}

-- what a push displaces is there
pub displaced_there : (n : ℕ) (recent ordered : List ℕ) (o : Option ℕ) → 0 < n → IsPermutation recent ordered
    → IfSome o (λ gone. 0 < n → recent ≡ gone ∷ drop 1 recent) → IfSome o (Contains ordered)
displaced_there n recent ordered None some was first = tt
displaced_there n recent ordered (Some gone) some was first =
    Contains-permutation recent ordered gone was (rw (first some) (0, omega arith, refl))

module _ (recent left ordered : List ℕ) (x : ℕ) (o : Option ℕ)
    (window : option_to_list o ++ left ≡ recent ++ x ∷ []) (was : IsPermutation recent ordered) where
  module _ (between : List ℕ) (out : IsPermutation ordered (option_to_list o ++ between)) where
    pub room_between : length between < length left
    room_between =
        let all = ap length window in
        omega (
          arith,
          all,
          length_permutation recent ordered was,
          length_permutation ordered (option_to_list o ++ between) out,
          length-append (option_to_list o) left,
          length-append recent (x ∷ []),
          length-append (option_to_list o) between,
        )

    pub in_window : (after : List ℕ) → IsPermutation (x ∷ between) after → IsPermutation left after
    in_window after put = permutation_from_counts left after (λ p.
        let f : ℕ → ℕ = λ y. cond (p y) 1 0 in
        let all = ap (sum_by f) window in
        omega (
          arith,
          all,
          SameCounts-permutation recent ordered was p,
          SameCounts-permutation ordered (option_to_list o ++ between) out p,
          SameCounts-permutation (x ∷ between) after put p,
          sum_by-append f (option_to_list o) left,
          sum_by-append f recent (x ∷ []),
          sum_by-append f (option_to_list o) between,
          sum_by-cons f x between,
          sum_by-cons f x [],
        ))
