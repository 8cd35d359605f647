-- The sum of the samples, as one comes and another leaves.
use Rattle.std.proofs.{
  Common.{◌≡◌, ℕ, ◌+◌, ◌-◌, ◌*◌, ◌≤◌, ◌<◌, ◌^◌, List, [], ◌∷◌, ◌++◌, All, length, sum},
  Common.{Option, Some, None, option_to_list, unwrap_or, zero-add, refl, sym, ap, ◌∙◌},
  Common.arith,
  lemmas.List.Sums.{sum_by-append, sum_by_push, sum_by-le},
}

-- the kept ones sum up to what was there and what came, without what left
pub sum-kept : (out kept old : List ℕ) (x : ℕ) → out ++ kept ≡ old ++ x ∷ [] → sum out + sum kept ≡ sum old + x
sum-kept out kept old x same = sym (sum_by-append (λ y. y) out kept) ∙ ap sum same ∙ sum_by_push (λ y. y) old x

pub sum-option : (r : Option ℕ) → sum (option_to_list r) ≡ unwrap_or r 0
sum-option None = refl
sum-option (Some x) = zero-add x

-- few small samples have a sum that fits, also with one more
pub sum-fits : (n : ℕ) (old : List ℕ) (x : ℕ) → length old ≤ n → n ≤ 2 ^ 32 → All (λ y. y < 2 ^ 32) old → x < 2 ^ 32
    → sum old + x < 2 ^ 64
sum-fits n old x within few small fits =
    let each : All (λ y. y ≤ 2 ^ 32 - 1) old = λ k d h. let y = small k d h in omega arith in
    let most : sum old ≤ length old * (2 ^ 32 - 1) = sum_by-le (λ y. y) (2 ^ 32 - 1) old each in
    omega arith
