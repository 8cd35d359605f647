-- Runs that move round the end: what is read afterwards, from a place from which on neither side passes it.
use Rattle.std.proofs.{
  Common.{◌≡◌, ℕ, ◌+◌, ◌<◌, ◌≤◌, List, length, Option, ◌∙◌, arith},
  lemmas.Bool.Decides.nat_tests,
}
use Rattle.arraydeque_ring.{
  proofs.{
    moved.Flat.{distance_is, length-moved, look, moved_at},
    places.{Holds.Holds, Rotated.{place_of_cases, place_of-lt, place_of-sum}},
  },
  specs.{Moved.{distance, run_moved}, Ring.place_of},
}

-- a distance is the same, wherever places are counted from
pub distance-rotated : (t i x n : ℕ) → t < n → i ≤ n → x < n
    → distance (place_of t i n) (place_of t x n) n ≡ distance i x n
distance-rotated t i x n a b c = grind (arith, place_of_cases)

-- what is read once a run has moved from the index j on to the index i on
pub Holds-moved : {X : Type 0} {n t : ℕ} {f : ℕ → Option X} {ps : List (Option X)} → Holds n t f ps → (i j len : ℕ)
    → t < n → i + len ≤ n → j + len ≤ n
    → Holds n t (look f i j len) (run_moved (place_of t i (length ps)) (place_of t j (length ps)) len ps)
Holds-moved {n = n} {t = t} {ps = ps} h i j len t_in i_in j_in = record {
  length_is = length-moved _ _ len ps ∙ h.length_is;
  in_region = h.in_region;
  at = λ x lt. moved_at _ _ len ps (place_of t x n) h.length_is (place_of-lt t x n (omega arith)) ∙ rw (
    h.length_is,
    distance-rotated t i x n t_in (omega arith) lt,
    distance-rotated t j x n t_in (omega arith) lt,
    place_of-sum t j (distance i x n) n,
    distance_is i x n (omega arith) lt,
    distance_is j x n (omega arith) lt,
  ) (grind (arith, nat_tests));
}
