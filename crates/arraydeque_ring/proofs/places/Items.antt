-- The item at each index of a list that is made of others, and two lists that have the same at each.
use Rattle.std.proofs.{
  Common.{◌≡◌, ℕ, zero, suc, ◌+◌, ◌-◌, ◌<◌, inl, inr, List, [], ◌∷◌, ◌++◌, length, map, take, drop},
  Common.{set, get_or, slice_get, nat_lt, ◌==◌, if◌then◌else◌, Option, Some, None, refl, arith},
  lemmas.{
    Grind.common_steps,
    List.{drop-map, map-set, get_or-drop, ext_get_or},
    Option.{slice_get_cases, slice_get_past},
  },
}

module _ {X : Type 0} where
  -- an index below the length has an item
  pub slice_get_some : (xs : List X) (k : ℕ) → k < length xs → (x : X) × (slice_get xs k ≡ Some x)
  slice_get_some xs k lt = elim (slice_get_cases xs k).1 [ inl at ↦ (at.0, at.2) | inr past ↦ absurd (omega arith) ]

  pub get_or-map_Some : (xs : List X) (k : ℕ) → get_or (map Some xs) k None ≡ slice_get xs k
  get_or-map_Some [] k = refl
  get_or-map_Some (x ∷ xs) zero = refl
  get_or-map_Some (x ∷ xs) (suc k) = get_or-map_Some xs k

  pub slice_get-append : (xs ys : List X) (k : ℕ)
      → slice_get (xs ++ ys) k ≡ (if nat_lt k (length xs) then slice_get xs k else slice_get ys (k - length xs))
  slice_get-append [] ys k = grind arith
  slice_get-append (x ∷ xs) ys zero = grind arith
  slice_get-append (x ∷ xs) ys (suc k) = grind (arith, slice_get-append xs ys k)

  pub slice_get-take : (n : ℕ) (xs : List X) (k : ℕ)
      → slice_get (take n xs) k ≡ (if nat_lt k n then slice_get xs k else None)
  slice_get-take zero xs k = grind arith
  slice_get-take (suc n) [] k = grind arith
  slice_get-take (suc n) (x ∷ xs) zero = grind arith
  slice_get-take (suc n) (x ∷ xs) (suc k) = grind (arith, slice_get-take n xs k)

  pub slice_get-drop : (n : ℕ) (xs : List X) (k : ℕ) → slice_get (drop n xs) k ≡ slice_get xs (n + k)
  slice_get-drop n xs k = rw (← get_or-map_Some (drop n xs) k, ← drop-map, get_or-drop) (get_or-map_Some xs (n + k))

  pub slice_get-set : (xs : List X) (i k : ℕ) (x : X) → i < length xs
      → slice_get (set xs i x) k ≡ (if k == i then Some x else slice_get xs k)
  slice_get-set xs i k x lt =
      rw (← get_or-map_Some (set xs i x) k) (grind (arith, common_steps, map-set, get_or-map_Some))

  -- two lists of places are one where each place holds the same
  pub same_places : (ps qs : List (Option X)) → length ps ≡ length qs
      → ((x : ℕ) → x < length qs → get_or ps x None ≡ get_or qs x None) → ps ≡ qs
  same_places ps qs long same = ext_get_or None ps qs long (λ x lt. same x (omega arith))

-- for `grind`: the item at an index of such a list
pub ruleset items = (slice_get-append, slice_get-take, slice_get-drop, slice_get-set, slice_get_past)
