-- What is left of a dot product, as more is added up.
use Rattle.std.proofs.{
  Common.{◌≡◌, ◌≤◌, ◌<◌, ◌+◌, ℕ, ℤ, ◌+ℤ◌, ◌*ℤ◌, pos, List, [], ◌∷◌, length, drop, get_or, slice_get},
  Common.{Some, drop-cons, refl, arith},
  lemmas.{Grind.common_steps, Option.{get_or_from_slice_get, slice_get_within}},
}
use Rattle.uses.specs.Filter.{dot}

pub dot-step : (cs xs : List ℤ) (i : ℕ) (x : ℤ) → i < length cs → slice_get xs i ≡ Some x
    → dot (drop i cs) (drop i xs) ≡ get_or cs i (pos 0) *ℤ x +ℤ dot (drop (i + 1) cs) (drop (i + 1) xs)
dot-step cs xs i x within is =
    let there = slice_get_within xs i x is in
    let same = get_or_from_slice_get xs i x (pos 0) is in
    grind (arith, drop-cons, same)

none : (cs : List ℤ) → dot cs [] ≡ pos 0
none [] = refl
none (c ∷ cs) = refl

pub dot-end : (cs xs : List ℤ) (i : ℕ) → length xs ≤ i → dot (drop i cs) (drop i xs) ≡ pos 0
dot-end cs xs i past = grind (arith, common_steps, none)
