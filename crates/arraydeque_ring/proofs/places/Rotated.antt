-- A list read from an index on, round its end.
use Rattle.std.proofs.{
  Common.{◌≡◌, ℕ, zero, suc, ◌+◌, ◌-◌, ◌%◌, ◌<◌, ◌≤◌, ◌⊎◌, ◌==◌, List, map, length},
  Common.{get_or, sym, ap, ◌∙◌, arith},
  lemmas.List.{places, map-append, drop-map, take-map},
  Math.Nat.{mod-eq_of_lt, mod-eq-sub-mod, mod-add-mod, add_assoc},
}
use Rattle.arraydeque_ring.specs.{Moved.distance, Ring.{place_of, rotated}}

-- a place is the sum itself below the end, and the sum less the capacity past it
pub place_of_cases : (t k n : ℕ) → t + k < n + n
    → ((t + k < n) × (place_of t k n ≡ t + k)) ⊎ ((n ≤ t + k) × (place_of t k n + n ≡ t + k))
place_of_cases t k n within = grind (arith, mod-eq_of_lt, mod-eq-sub-mod)

-- a place lies in the region
pub place_of-lt : (t k n : ℕ) → t + k < n + n → place_of t k n < n
place_of-lt t k n within = grind arith

-- to go up from src by the distance to dst is to come there
pub up_from : (dst src n : ℕ) → dst < n → src < n → place_of src (distance src dst n) n ≡ dst
up_from dst src n a b = grind arith

-- the index 0 has the start itself
pub place_of-zero : (t n : ℕ) → t ≤ n - 1 → place_of t 0 n ≡ t
place_of-zero t zero le = let none : t ≡ 0 = omega arith in ap (λ m. place_of m 0 0) none ∙ sym none
place_of-zero t (suc n) le = mod-eq_of_lt (omega arith) ∙ omega arith

-- from the first place on an index is a place
pub place_of-first : (k n : ℕ) → k < n → place_of 0 k n ≡ k
place_of-first k n lt = mod-eq_of_lt (omega arith) ∙ omega arith

-- to go up by i and then by x is to go up by both
pub place_of-sum : (t i x n : ℕ) → place_of (place_of t i n) x n ≡ place_of t (i + x) n
place_of-sum t i x n = mod-add-mod (t + i) n x ∙ ap (λ m. m % n) (add_assoc t i x)

-- two indexes have two places
pub one_place : (t i j n : ℕ) → t ≤ n → i < n → j < n → (place_of t i n == place_of t j n) ≡ (i == j)
one_place t i j n a b c = grind (arith, place_of_cases t i n (omega arith), place_of_cases t j n (omega arith))

-- a run from the index i on may start at the place p: the place of i, or the region's end in its stead
abbrev pub MayStartAt : ℕ → ℕ → ℕ → ℕ → Type 0
MayStartAt t i n p = (p ≡ t + i) ⊎ (p + n ≡ t + i)

pub MayStartAt-place_of : (t i n : ℕ) → t + i < n + n → MayStartAt t i n (place_of t i n)
MayStartAt-place_of t i n within = grind (arith, place_of_cases t i n within)

-- and its items stand side by side, as far as the end
pub place_of-run : (t i j n p : ℕ) → MayStartAt t i n p → p + j < n → t ≤ n → i + j < n → place_of t (i + j) n ≡ p + j
place_of-run t i j n p at a b c = grind (arith, place_of_cases t (i + j) n (omega arith))

module _ {X : Type 0} where
  pub length-rotated : (t : ℕ) (xs : List X) → length (rotated t xs) ≡ length xs
  length-rotated t xs = grind (arith, places)

  -- the item at the index k stands at the place of k
  pub get_or-rotated : (t k n : ℕ) (xs : List X) (d : X) → length xs ≡ n → t ≤ n → k < n
      → get_or (rotated t xs) k d ≡ get_or xs (place_of t k n) d
  get_or-rotated t k n xs d long a b = grind (arith, places)

pub rotated-map : {X Y : Type 0} (f : X → Y) (t : ℕ) (xs : List X) → rotated t (map f xs) ≡ map f (rotated t xs)
rotated-map f t xs = rw (map-append, drop-map, take-map)
