-- What an iterator gave whose items were copied.
use Rattle.std.{
  proofs.Common.{◌≡◌, List, [], ◌∷◌, map, Option, Some, None, refl, ap},
  specs.{Borrow.Bor, Iterator.{Yields, Drains}, Prelude.option_copied},
}

module _ {C S A : Type 0} (steps : S → Option (Bor A) → S → Type 0) (source : C → S) where
  -- an answer is the copy of one of the source
  abbrev copies : C → Option A → C → Type 0
  copies s r t = (o : Option (Bor A)) × steps (source s) o (source t) × (r ≡ option_copied o)

  some_copied : (u v : S) (x : A) (o : Option (Bor A)) → steps u o v → Some x ≡ option_copied o
      → (b : Bor A) × steps u (Some b) v × (b.now ≡ x)
  some_copied u v x None k is = absurd cc
  some_copied u v x (Some b) k is = (b, k, cc)

  none_copied : (u v : S) (o : Option (Bor A)) → steps u o v → None ≡ option_copied o → steps u None v
  none_copied u v None k is = k
  none_copied u v (Some b) k is = absurd cc

  yields_copied : (s : C) (xs : List A) (t : C) → Yields copies s xs t
      → (bs : List (Bor A)) × Yields steps (source s) bs (source t) × (map (λ b. b.now) bs ≡ xs)
  yields_copied s [] t y = ([], ap source y, refl)
  yields_copied s (x ∷ xs) t y =
      let one = some_copied (source s) (source y.0) x y.1.0 y.1.1 y.1.2 in
      let rest = yields_copied y.0 xs t y.2 in
      (one.0 ∷ rest.0, (source y.0, one.1, rest.1), cc)

  pub drains_copied : (s : C) (xs : List A) → Drains copies s xs
      → (bs : List (Bor A)) × Drains steps (source s) bs × (map (λ b. b.now) bs ≡ xs)
  drains_copied s xs d =
      let last = d.1 in
      let all = yields_copied s xs last.0 last.1 in
      let none = none_copied (source last.0) (source d.0) last.2.0 last.2.1 last.2.2 in
      (all.0, (source d.0, (source last.0, all.1, none)), all.2)
