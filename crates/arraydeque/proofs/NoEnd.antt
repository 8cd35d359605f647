-- Only an empty list has no item at its ends.
use Rattle.std.{
  proofs.Common.{◌≡◌, ◌-◌, List, [], ◌∷◌, length, slice_get, Option, Some, None, refl},
  specs.Option.{option_map, IfNone},
}
use Rattle.arraydeque_ring.proofs.LastPopped.{nothing_last}

module _ {B X : Type 0} (v : B → X) where
  pub no_first : (r : Option B) (xs : List X) → option_map v r ≡ slice_get xs 0 → IfNone r (xs ≡ [])
  no_first None [] none = refl
  no_first None (x ∷ xs) none = cc
  no_first (Some r) xs some = tt

  pub no_last : (r : Option B) (xs : List X) → option_map v r ≡ slice_get xs (length xs - 1) → IfNone r (xs ≡ [])
  no_last None xs none = nothing_last xs none
  no_last (Some r) xs some = tt
