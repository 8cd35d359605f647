-- A list of places that begins with items and goes on with nothing.
use Rattle.std.proofs.{
  Common.{◌≡◌, ℕ, zero, suc, ◌+◌, List, [], ◌∷◌, ◌++◌, map, length, drop, get_or, replicate},
  Common.{slice_get, Option, Some, None, true, false, refl, sym, ap, ◌∙◌, arith},
  lemmas.{Grind.common_steps, List.{append-nil, nil_from_length}},
}
use Rattle.arraydeque_ring.{proofs.places.Items.get_or-map_Some, specs.Ring.{values, filled}}

module _ {X : Type 0} where
  -- the items, and then k empty places
  abbrev pub and_empty : List X → ℕ → List (Option X)
  and_empty xs k = map Some xs ++ replicate k None

  pub length-and_empty : (xs : List X) (k : ℕ) → length (and_empty xs k) ≡ length xs + k
  length-and_empty xs k = grind (arith, common_steps)

  pub get_or-and_empty : (xs : List X) (k i : ℕ) → get_or (and_empty xs k) i None ≡ slice_get xs i
  get_or-and_empty xs k i = grind (arith, common_steps, get_or-map_Some xs i)

  pub values-and_empty : (xs : List X) (k : ℕ) → values (and_empty xs k) ≡ xs
  values-and_empty [] zero = refl
  values-and_empty [] (suc k) = values-and_empty [] k
  values-and_empty (x ∷ xs) k = ap (λ l. x ∷ l) (values-and_empty xs k)

  pub values-map_Some : (xs : List X) → values (map Some xs) ≡ xs
  values-map_Some xs = ap values (sym (append-nil (map Some xs))) ∙ values-and_empty xs 0

  pub filled-and_empty : (xs : List X) (k : ℕ)
      → filled (and_empty xs k) ≡ replicate (length xs) true ++ replicate k false
  unfolding filled
  filled-and_empty [] zero = refl
  filled-and_empty [] (suc k) = ap (λ l. false ∷ l) (filled-and_empty [] k)
  filled-and_empty (x ∷ xs) k = ap (λ l. true ∷ l) (filled-and_empty xs k)

  -- places of which the first n are filled, and no others
  pub and_empty_from : (ps : List (Option X)) (n k : ℕ) → filled ps ≡ replicate n true ++ replicate k false
      → (ps ≡ and_empty (values ps) k) × (length (values ps) ≡ n)
  unfolding filled
  and_empty_from [] zero zero e = (refl, refl)
  and_empty_from [] zero (suc k) e = absurd (cc)
  and_empty_from [] (suc n) k e = absurd (cc)
  and_empty_from (None ∷ ps) zero zero e = absurd (cc)
  and_empty_from (None ∷ ps) zero (suc k) e =
      let rest = and_empty_from ps zero k (ap (drop 1) e) in
      let nothing = nil_from_length (values ps) rest.1 in
      (rw nothing (ap (λ l. None ∷ l) (rest.0 ∙ ap (λ l. and_empty l k) nothing)), rest.1)
  and_empty_from (None ∷ ps) (suc n) k e = absurd (cc)
  and_empty_from (Some x ∷ ps) zero zero e = absurd (cc)
  and_empty_from (Some x ∷ ps) zero (suc k) e = absurd (cc)
  and_empty_from (Some x ∷ ps) (suc n) k e = let rest = and_empty_from ps n k (ap (drop 1) e) in
      (ap (λ l. Some x ∷ l) rest.0, ap suc rest.1)
