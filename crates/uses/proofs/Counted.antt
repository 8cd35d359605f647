-- Lists of which as many numbers pass any test: they have the same ones.
use Rattle.std.{
  proofs.{
    Common.{◌≡◌, ℕ, ◌<◌, ◌==◌, suc, Bool, true, false, List, [], ◌∷◌, length, get_or, count_by},
    Common.{refl, sym, cond, arith},
    lemmas.{
      Bool.Decides.nat_tests,
      List.{
        Sorted.{IsPermutation-refl, IsPermutation-cons, IsPermutation-remove, IsPermutation-sym},
        Sorted.{IsPermutation-trans, sum_by-IsPermutation},
        Sums.{sum_by-cons, sum_by-remove},
      },
    },
  },
  specs.List.{remove, Sorted.IsPermutation},
}

-- where a list has a number that it has some of
abbrev Place : List ℕ → ℕ → Type 0
Place xs x = (j : ℕ) × (j < length xs) × (get_or xs j x ≡ x)

place_by : (b : Bool) (y x : ℕ) (ys : List ℕ) → (y == x) ≡ b → (0 < count_by (λ z. z == x) ys → Place ys x)
    → 0 < count_by (λ z. z == x) (y ∷ ys) → Place (y ∷ ys) x
place_by true y x ys is tail some = (0, omega arith, grind (arith, nat_tests))
place_by false y x ys is tail some =
    let p = tail (grind (arith, is, sum_by-cons (λ z. cond (z == x) 1 0) y ys)) in
    (suc p.0, omega (arith, p.1), p.2)

place : (xs : List ℕ) (x : ℕ) → 0 < count_by (λ z. z == x) xs → Place xs x
place [] x some = absurd (omega arith)
place (y ∷ ys) x some = place_by (y == x) y x ys refl (place ys x) some

-- as many of either list pass any test
abbrev pub SameCounts : List ℕ → List ℕ → Type 0
SameCounts xs ys = (p : ℕ → Bool) → count_by p xs ≡ count_by p ys

pub SameCounts-permutation : (xs ys : List ℕ) → IsPermutation xs ys → SameCounts xs ys
SameCounts-permutation xs ys is p = sym (sum_by-IsPermutation (λ y. cond (p y) 1 0) xs ys is)

none_of : (ys : List ℕ) → SameCounts [] ys → IsPermutation [] ys
none_of [] same = IsPermutation-refl []
none_of (y ∷ ys) same =
    let h = same (λ _. true) in absurd (omega (arith, h, sum_by-cons (λ z. cond true 1 0) y ys))

pub permutation_from_counts : (xs ys : List ℕ) → SameCounts xs ys → IsPermutation xs ys
permutation_from_counts [] ys same = none_of ys same
permutation_from_counts (x ∷ xs) ys same =
    let test : ℕ → ℕ = λ z. cond (z == x) 1 0 in
    let h = same (λ z. z == x) in
    let one : test x ≡ 1 = grind (arith, nat_tests) in
    let p = place ys x (omega (arith, h, one, sum_by-cons test x xs)) in
    let rest = remove ys p.0 in
    let rest_same : SameCounts xs rest = λ q.
    let f : ℕ → ℕ = λ z. cond (q z) 1 0 in
    let is : f (get_or ys p.0 x) ≡ f x = rw p.2 refl in
    omega (arith, same q, is, sum_by-cons f x xs, sum_by-remove f ys p.0 x p.1) in
    IsPermutation-trans (x ∷ xs) (x ∷ rest) ys
    (IsPermutation-cons x xs rest (permutation_from_counts xs rest rest_same))
    (IsPermutation-sym ys (x ∷ rest) (IsPermutation-remove ys p.0 x p.1 (sym p.2)))
