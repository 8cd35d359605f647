-- A part of a list that is read in two.
use Rattle.std.proofs.{
  Common.{◌≡◌, ℕ, ◌-◌, ◌≤◌, List, ◌++◌, length, slice_range, min, arith},
  lemmas.{Bool.Decides.nat_tests, Grind.common_steps, List.{places, same_lists}},
}

pub range_in_two : {X : Type 0} (xs ys zs : List X) (a b i j k l : ℕ) → xs ++ ys ≡ zs → a ≤ b → b ≤ length zs
    → i ≡ min a (length xs) → j ≡ min b (length xs) → k ≡ a - length xs → l ≡ b - length xs
    → slice_range xs i j ++ slice_range ys k l ≡ slice_range zs a b
range_in_two xs ys zs a b i j k l joined order within at_i at_j at_k at_l =
    rw (← joined, at_i, at_j, at_k, at_l) (same_lists _ _ (grind (arith, common_steps, joined))
    (λ n d lt. grind (arith, nat_tests, places, joined)))
