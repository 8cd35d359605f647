-- What is written instead of as many items of a list, or of as many places, and runs that lie apart.
use Rattle.std.{
  proofs.{
    Common.{◌≡◌, ℕ, ◌+◌, ◌≤◌, ◌⊎◌, List, map, length, take, drop, Option, Some, refl, sym, ◌∙◌},
    Common.arith,
    lemmas.{
      Grind.common_steps,
      List.{places, same_lists, nil_from_length, take_at, take-append-drop, drop-drop},
    },
  },
  specs.List.{length_refill, splice},
}
use Rattle.arraydeque_ring.specs.{Loans.AreApart, Runs.{as_many, with_run}}

module _ {Y : Type 0} where
  -- the list, with ws instead of the n items from the index i on
  abbrev pub placed : ℕ → ℕ → List Y → List Y → List Y
  placed i n ws ps = splice ps i (i + n) ws

  -- those n items
  abbrev pub run : List Y → ℕ → ℕ → List Y
  run ps i n = take n (drop i ps)

  -- to place no items changes nothing
  pub placed_nothing : (i : ℕ) (ws ps : List Y) → length ws ≡ 0 → placed i 0 ws ps ≡ ps
  placed_nothing i ws ps e = rw (nil_from_length ws e, sym (drop-drop 0 i ps)) (take-append-drop i ps)

-- of two runs that lie in order the first leaves what is behind it, and either may be written first
module _ {Y : Type 0} (i m j n : ℕ) (ps : List Y) (apart : i + m ≤ j) (within : j + n ≤ length ps) where
  pub run-take : run (take j ps) i m ≡ run ps i m
  run-take = same_lists _ _ (grind (arith, places)) (λ k d lt. grind (arith, places))

  module _ (us : List Y) (many : length us ≡ m) where
    pub take-placed : take j (placed i m us ps) ≡ placed i m us (take j ps)
    take-placed = same_lists _ _ (grind (arith, places)) (λ k d lt. grind (arith, places))

    pub drop-placed : drop (j + n) (placed i m us ps) ≡ drop (j + n) ps
    drop-placed = same_lists _ _ (grind (arith, places)) (λ k d lt. grind (arith, places))

    pub placed-either : (vs : List Y) → length vs ≡ n
        → placed i m us (placed j n vs ps) ≡ placed j n vs (placed i m us ps)
    placed-either vs many' = same_lists _ _ (grind (arith, places)) (λ k d lt. grind (arith, places))

-- two runs apart: one lies before the other, or one is empty
pub apart_cases : (a m b n : ℕ) → AreApart a m b n → ((a + m ≤ b) ⊎ (b + n ≤ a)) ⊎ ((m ≡ 0) ⊎ (n ≡ 0))
apart_cases a m b n apart = grind (arith, apart a, apart b)

module _ {X : Type 0} where
  pub length-as_many : (xs ws : List X) → length (as_many xs ws) ≡ length xs
  length-as_many xs ws = sym (length_refill (length xs) xs ws refl)

  -- as many values as there are stay as they are
  pub as_many-same : (xs ws : List X) → length ws ≡ length xs → as_many xs ws ≡ ws
  as_many-same xs ws e = take_at ws (drop (length ws) xs) (length xs) e

  pub as_many-twice : (xs ws : List X) → as_many xs (as_many xs ws) ≡ as_many xs ws
  as_many-twice xs ws = as_many-same xs (as_many xs ws) (length-as_many xs ws)

  -- as many instead of m items, as `with_run` writes them
  pub as_run : (i : ℕ) (xs us : List X) (ps : List (Option X)) {m : ℕ} → length xs ≡ m → length us ≡ m
      → placed i m (map Some us) ps ≡ with_run i (as_many xs us) ps
  as_run i xs us ps long same = rw (as_many-same xs us (same ∙ sym long), sym same)

  pub length-with_run : (from : ℕ) (ws : List X) (ps : List (Option X)) → from + length ws ≤ length ps
      → length (with_run from ws ps) ≡ length ps
  length-with_run from ws ps within = grind (arith, common_steps, within)
