-- A run of values that moves across a run of empty places, read from the start on.
use Rattle.std.proofs.{
  Common.{◌≡◌, ◌≢◌, ◌==◌, ℕ, ◌+◌, ◌-◌, ◌<◌, ◌≤◌, ◌⊎◌, inl, inr, List, length, nat_lt},
  Common.{if◌then◌else◌, Option, None, max, refl, sym, ap, ◌∙◌, arith},
  lemmas.{Bool.Decides.nat_tests, Grind.common_steps, List.places},
}
use Rattle.arraydeque_ring.{
  proofs.{
    moved.{Flat.{distance_is, look}, Round.{Holds-moved, distance-rotated}},
    places.{
      Filled.{filled_in_run, empty_in_run},
      Holds.{Holds, Holds-of_rotated, rotated-Holds},
      Rotated.{place_of-sum, one_place, length-rotated},
    },
  },
  specs.{
    Gaps.gap_moved,
    Moved.{distance, MeetAtOneEndAtMost, IsFilledRound, IsFreeRound, run_moved},
    Places.held_at,
    Ring.{place_of, rotated},
    Runs.{IsEmptyRun, IsFilledRun},
  },
}

module _ {X : Type 0} (from to gap : ℕ) (ps : List (Option X)) (from_in : from + gap ≤ length ps)
    (to_in : to + gap ≤ length ps) where
  pub length-gap_moved : length (gap_moved from to gap ps) ≡ length ps
  length-gap_moved = grind (arith, common_steps)

  -- what the place x holds once a gap has moved, and where it was
  pub get_or-gap_moved : (x : ℕ) → held_at (gap_moved from to gap ps) x ≡ (if nat_lt x to
      then (if nat_lt x from then held_at ps x else held_at ps (x + gap)) else (if nat_lt x (to + gap) then None
      else (if nat_lt (x - gap) from then held_at ps (x - gap) else held_at ps x)))
  get_or-gap_moved x = grind (arith, nat_tests, places)

-- a place of an empty run, by its number
pub empty_at : {X : Type 0} (ps : List (Option X)) (from len : ℕ) → IsEmptyRun ps from len → (x : ℕ) → from ≤ x
    → x < from + len → held_at ps x ≡ None
empty_at ps from len run x a b =
    ap (held_at ps) {y = from + (x - from)} (omega arith) ∙ empty_in_run ps from len (x - from) run (omega arith)

-- what `move_gap` asks: a gap, and the values between it and the index that it moves to
abbrev pub MayMove : {X : Type 0} → ℕ → ℕ → ℕ → ℕ → List (Option X) → Type 0
MayMove t from to gap ps = record {
  some : 0 < gap;
  in_region : t < length ps;
  within : max from to + gap ≤ length ps;
  empty : IsEmptyRun (rotated t ps) from gap;
  filled_before : IsFilledRun (rotated t ps) to (from - to);
  filled_behind : IsFilledRun (rotated t ps) (from + gap) (to - from);
}

-- the len values from s on may move to the places from d on, as `wrap_move` asks,
-- and what that comes to, read from t on
pub record Crosses {X : Type 0} (t d s len : ℕ) (ps after : List (Option X)) : Type 0 where
  pub may : record {
    dst_in_region : d < length ps;
    src_in_region : s < length ps;
    apart : MeetAtOneEndAtMost d s len (length ps);
    filled : IsFilledRound s len ps;
    free : IsFreeRound d s len ps;
  }
  pub count : (if d == s then 0 else len) ≡ len
  pub is : rotated t (run_moved d s len ps) ≡ after

apart_by : (t i j len n : ℕ) → t < n → i + len ≤ n → j + len ≤ n
    → MeetAtOneEndAtMost (place_of t i n) (place_of t j n) len n
apart_by t i j len n t_in a b = grind (arith, distance-rotated t j i n t_in, distance_is j i n)

count_by : (t i j len n : ℕ) → t < n → i + len ≤ n → j + len ≤ n → i ≢ j
    → (if place_of t i n == place_of t j n then 0 else len) ≡ len
count_by t i j len n t_in a b other = grind (arith, one_place t i j n (omega arith))

-- a gap goes from one index to another where the len values between them, from the index j on, go the other way, to i
abbrev Passes : ℕ → ℕ → ℕ → ℕ → ℕ → ℕ → Type 0
Passes from to gap i j len = ((i ≡ to + gap) × (j ≡ to) × (to + len ≡ from))
    ⊎ ((i ≡ from) × (j ≡ from + gap) × (from + len ≡ to))

goes_to : (t from to gap i j len x n : ℕ) → t < n → x < n → Passes from to gap i j len → j + len ≤ n → i ≤ x
    → x < i + len → (distance (place_of t j n) (place_of t x n) n < len) ⊎ ((from ≤ x) × (x < from + gap))
goes_to t from to gap i j len x n t_in x_in ways within a b =
    rw (distance-rotated t j x n t_in (omega arith) x_in)
    (grind arith)

look-gap_moved : {X : Type 0} (from to gap i j len x : ℕ) (qs : List (Option X)) → from + gap ≤ length qs
    → to + gap ≤ length qs → (from ≤ x → x < from + gap → held_at qs x ≡ None) → Passes from to gap i j len
    → look (held_at qs) i j len x ≡ held_at (gap_moved from to gap qs) x
look-gap_moved from to gap i j len x qs from_in to_in none ways =
    elim ways [ inl up ↦ grind arith | inr down ↦ grind arith ]
    ∙ sym (get_or-gap_moved from to gap qs from_in to_in x)

pub crosses : {X : Type 0} {t len d s m : ℕ} {ps : List (Option X)} (from to gap i j : ℕ) → MayMove t from to gap ps
    → Passes from to gap i j len → m ≡ length ps → d ≡ place_of t i m → s ≡ place_of t j m
    → IsFilledRun (rotated t ps) j len → Crosses t d s len ps (gap_moved from to gap (rotated t ps))
crosses {t = t} {len = len} {ps = ps} from to gap i j asked ways long at_d at_s filled =
    let t_in = asked.in_region in
    let n = length ps in
    let qs = rotated t ps in
    let wide = length-rotated t ps in
    let none = empty_at qs from gap asked.empty in
    let reads : Holds n t (held_at qs) ps = Holds-of_rotated refl wide (omega arith) (λ k lt. refl) in
    let moved = Holds-moved reads i j len t_in (omega arith) (omega arith) in
    rw (at_d, at_s, long) (record {
      may = record {
        dst_in_region = omega arith;
        src_in_region = omega arith;
        apart = apart_by t i j len n t_in (omega arith) (omega arith);
        filled = λ k lt. let v = filled_in_run qs j len k filled lt in
            (v.0, rw (place_of-sum t j k n) (reads.at (j + k) (omega arith) ∙ v.1));
        free = λ k lt. rw (place_of-sum t i k n) (elim (goes_to t from to gap i j len (i + k) n t_in (omega arith)
            ways (omega arith) (omega arith) (omega arith)) [
              | inl source ↦ inl source
              | inr gap ↦ inr (
                omega arith,
                reads.at (i + k) (omega arith) ∙ none (i + k) gap.0 gap.1,
              )
            ]);
      };
      count = count_by t i j len n t_in (omega arith) (omega arith) (omega arith);
      is = rotated-Holds moved (length-gap_moved from to gap qs (omega arith) (omega arith) ∙ wide)
          (λ x lt. look-gap_moved from to gap i j len x qs (omega arith) (omega arith) (none x) ways);
    })

-- behind a gap of one place comes the next place
pub one_on : {gap s m n : ℕ} (t i : ℕ) → s ≡ place_of t i m → m ≡ n → gap ≡ 1 → place_of s 1 n ≡ place_of t (i + gap) m
one_on {n = n} t i at long one = rw (at, one, long) (place_of-sum t i 1 n)
