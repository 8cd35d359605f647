-- After an insert, a removal or a drain no placement of the list gives fewer items another place
-- than the lesser side has, and the ring's gives just so many.
use Rattle.std.proofs.{
  Common.{◌≡◌, ℕ, zero, suc, ◌+◌, ◌-◌, ◌<◌, ◌≤◌, inl, inr, min, Bool, false, not, nat_lt, ◌==◌},
  Common.{if◌then◌else◌, arith},
  lemmas.Bool.{cases_lt, Decides.nat_tests},
  Math.Nat.add_comm,
}
use Rattle.arraydeque_ring.{
  proofs.places.Rotated.{one_place, place_of_cases, place_of-sum},
  specs.{
    Changed.{count_below, changed_insert, changed_remove, changed_drain, IsFewest},
    Gaps.first_closed,
    Ring.place_of,
    Sides.{moves_to_insert, moves_to_remove, moves_to_drain},
  },
}

-- a test that is f below s and b from e on, and fails between them
pub count_sides : (p : ℕ → Bool) (f b : Bool) (s e n : ℕ) → s ≤ e
    → ((k : ℕ) → k < n → p k ≡ (if nat_lt k s then f else (if nat_lt k e then false else b)))
    → count_below p n ≡ (if f then min s n else 0) + (if b then n - e else 0)
count_sides p f b s e zero le each = grind arith
count_sides p f b s e (suc n) le each = let rest = count_sides p f b s e n le (λ k lt. each k (omega arith)) in
    grind arith

-- from two starts an item has the same place only where they are one
pub one_start : (c t u k : ℕ) → t < c → u < c → k ≤ c → (place_of t k c == place_of u k c) ≡ (t == u)
one_start c t u k a b le = rw (add_comm t k, add_comm u k) (one_place k t u c le a b)

module _ (i n c t : ℕ) (t_in : t < c) (i_in : i ≤ n) (room : n < c) where
  -- the items before the index stay where the start stays, those behind it where the start goes one place down
  inserted : (u : ℕ) → u < c
      → changed_insert i n c t u ≡ (if not (t == u) then min i n else 0)
      + (if not (t == place_of u 1 c) then n - i else 0)
  inserted u u_in =
      count_sides _ (not (t == u)) (not (t == place_of u 1 c)) i i n (omega arith)
      (λ k lt. grind (
        arith,
        one_start c t u k t_in u_in (omega arith),
        one_start c t (place_of u 1 c) k t_in (omega arith) (omega arith),
        place_of-sum u 1 k c,
      ))

  pub fewest_insert : IsFewest (moves_to_insert i n) c (changed_insert i n c t)
      (if nat_lt i (n - i) then place_of t (c - 1) c else t)
  fewest_insert = record {
    least = λ u lt. grind (arith, inserted u lt, place_of_cases u 1 c (omega arith));
    met = grind (
      arith,
      inserted t t_in,
      inserted (place_of t (c - 1) c) (omega arith),
      place_of_cases t 1 c (omega arith),
      place_of_cases t (c - 1) c (omega arith),
      place_of_cases (place_of t (c - 1) c) 1 c (omega arith),
    );
  }

module _ (s e n c t : ℕ) (t_in : t ≤ c - 1) (in_order : s ≤ e) (e_in : e ≤ n) (within : n ≤ c) where
  -- the items before the range stay where the start stays, those behind it where the start goes on by so many places
  drained : (u : ℕ) → u < c → changed_drain s e n c t u
      ≡ (if not (t == u) then min s n else 0)
      + (if not (place_of t (e - s) c == u) then n - e else 0)
  drained u u_in =
      let gap = e - s in
      count_sides _ (not (t == u)) (not (place_of t gap c == u)) s e n in_order
      (λ k lt. grind (
        arith,
        nat_tests,
        one_start c t u k (omega arith) u_in (omega arith),
        one_start c (place_of t gap c) u (k - gap) (omega arith) u_in (omega arith),
        place_of-sum t gap (k - gap) c,
      ))

  pub fewest_drain : IsFewest (moves_to_drain s e n) c (changed_drain s e n c t)
      (first_closed s (e - s) (n - (s + (e - s))) c t)
  fewest_drain = record {
    least = λ u lt. grind (arith, drained u lt, place_of_cases t (e - s) c (omega arith));
    met = elim (cases_lt 0 c) [
      | inl some ↦ grind (
        arith,
        nat_tests,
        drained t (omega arith),
        drained (place_of t (e - s) c) (omega arith),
        place_of_cases t (e - s) c (omega arith),
      )
      | inr none ↦ let no : n ≡ 0 = omega arith in rw no (grind arith)
    ];
  }

pub fewest_remove : (i n c t : ℕ) → t < c → i < n → n ≤ c
    → IsFewest (moves_to_remove i n) c (changed_remove i n c t) (first_closed i 1 (n - (i + 1)) c t)
fewest_remove i n c t t_in i_in within =
    let all = fewest_drain i (i + 1) n c t (omega arith) (omega arith) (omega arith) within in
    let count : moves_to_drain i (i + 1) n ≡ moves_to_remove i n = grind arith in
    let one : i + 1 - i ≡ 1 = omega arith in
    rw (count, one) at all
