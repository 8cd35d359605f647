-- What the places of a ring hold, read from its start on: first its items, then nothing.
use Rattle.std.proofs.{
  Common.{◌≡◌, ℕ, ◌+◌, ◌-◌, ◌<◌, ◌≤◌, List, [], length, take, drop, set, get_or, replicate},
  Common.{nat_lt, if◌then◌else◌, slice_get, Option, Some, None, is_some, refl, sym, ap, ◌∙◌, swap},
  Common.arith,
  lemmas.{
    Grind.common_steps,
    List.{append-nil, length-drop, length-map, length-replicate, length-set, Edits.swap_is},
    Option.slice_get-get_or,
  },
}
use Rattle.arraydeque_ring.{
  proofs.places.{
    AndEmpty.{and_empty, length-and_empty, get_or-and_empty, values-and_empty, values-map_Some},
    AndEmpty.{filled-and_empty, and_empty_from},
    Filled.holds_run_of,
    Holds.{Holds, Holds-each, Holds-of_rotated, Holds-rotated, rotated-Holds, Holds-from},
    Holds.Holds-set,
    Items.{items, slice_get_some, same_places},
    Rotated.{MayStartAt, place_of-run, place_of-zero, place_of_cases, length-rotated, rotated-map},
  },
  specs.{
    Places.{held_at, IsFilled, AreAllEmpty},
    Ring.{place_of, rotated, values, filled, FilledFrom},
    Runs.{HoldsRun, IsFilledRun},
  },
}

-- the n places hold the items from the place t on, round the end, and nothing else
pub record LaidOut {X : Type 0} (n t : ℕ) (xs : List X) (ps : List (Option X)) : Type 0 where
  pub length_is : length ps ≡ n
  pub in_region : t ≤ n - 1
  pub within : length xs ≤ n
  pub at : (k : ℕ) → k < n → held_at ps (place_of t k n) ≡ slice_get xs k

module _ {X : Type 0} {n t : ℕ} {xs : List X} {ps : List (Option X)} where
  pub holds : LaidOut n t xs ps → Holds n t (slice_get xs) ps
  holds l = record { length_is = l.length_is; in_region = l.in_region; at = l.at }

  pub LaidOut-by : length xs ≤ n → Holds n t (slice_get xs) ps → LaidOut n t xs ps
  LaidOut-by within h = record { length_is = h.length_is; in_region = h.in_region; within = within; at = h.at }

  -- where the list that begins at t has the items and then k empty places
  pub LaidOut-from : (k : ℕ) → length ps ≡ n → t ≤ n - 1 → rotated t ps ≡ and_empty xs k → LaidOut n t xs ps
  LaidOut-from k long within e =
      let all = sym (ap length e) ∙ length-rotated t ps ∙ long in
      LaidOut-by (omega (arith, length-and_empty xs k))
      (Holds-of_rotated e all within (λ i lt. get_or-and_empty xs k i))

-- empty places hold the empty list
pub LaidOut-nothing : {X : Type 0} (n : ℕ) → LaidOut {X = X} n 0 [] (replicate n None)
LaidOut-nothing n = LaidOut-from n (length-replicate n None) (omega arith) (append-nil (replicate n None))

-- places of which len from the start on are filled hold the values in them
pub LaidOut-values : {X : Type 0} (t len : ℕ) (ps : List (Option X)) → t ≤ length ps - 1 → FilledFrom t len (filled ps)
    → LaidOut (length ps) t (values (rotated t ps)) ps × (length (values (rotated t ps)) ≡ len)
unfolding filled
LaidOut-values t len ps within e =
    let from = and_empty_from (rotated t ps) len (length (filled ps) - len) (sym (rotated-map is_some t ps) ∙ e) in
    (LaidOut-from (length (filled ps) - len) refl within from.0, from.1)

module _ {X : Type 0} {n t : ℕ} {xs : List X} {ps : List (Option X)} (l : LaidOut n t xs ps) where
  pub length_within : length xs ≤ n
  length_within = l.within

  pub rotated-LaidOut : rotated t ps ≡ and_empty xs (n - length xs)
  rotated-LaidOut = rotated-Holds (holds l) (omega (arith, length-and_empty xs (n - length xs)))
      (λ k lt. sym (get_or-and_empty xs (n - length xs) k))

  -- the values that are there are the items
  pub values-LaidOut : values (rotated t ps) ≡ xs
  values-LaidOut = ap values rotated-LaidOut ∙ values-and_empty xs (n - length xs)

  -- and as many places from the start on are filled
  pub FilledFrom-LaidOut : (m : ℕ) → length xs ≡ m → FilledFrom t m (filled ps)
  unfolding filled
  FilledFrom-LaidOut m e = grind (arith, length-map, rotated-map, rotated-LaidOut, filled-and_empty)

  -- the place of an item is filled
  pub IsFilled-place_of : (k : ℕ) → k < length xs → IsFilled ps (place_of t k n)
  IsFilled-place_of k lt = let some = slice_get_some xs k lt in (some.0, l.at k (omega arith) ∙ some.1)

  -- the start holds the first item
  pub held_at-start : 0 < n → held_at ps t ≡ slice_get xs 0
  held_at-start lt = rw (place_of-zero t n l.in_region) at (l.at 0 lt)

  pub IsFilled-start : 0 < length xs → IsFilled ps t
  IsFilled-start some = rw (place_of-zero t n l.in_region) at (IsFilled-place_of 0 some)

  -- read from the start on, the len items from the index i on are a run
  pub HoldsRun-rotated : (i len : ℕ) → i + len ≤ length xs → HoldsRun (rotated t ps) i len (take len (drop i xs))
  HoldsRun-rotated i len le =
      holds_run_of _ i i len xs le (omega (arith, length-rotated t ps))
      (λ k lt. Holds-rotated (holds l) (i + k) (omega arith))

  -- they stand from the place p on
  pub HoldsRun-LaidOut : (i p len : ℕ) → MayStartAt t i n p → i + len ≤ length xs → p + len ≤ n
      → HoldsRun ps p len (take len (drop i xs))
  HoldsRun-LaidOut i p len at within fits =
      holds_run_of ps p i len xs within (omega arith)
      (λ k lt. rw (place_of-run t i k n p at (omega arith) (omega arith) (omega arith)) at (l.at (i + k) (omega arith)))

  pub IsFilledRun-LaidOut : (i p len : ℕ) → MayStartAt t i n p → i + len ≤ length xs → p + len ≤ n
      → IsFilledRun ps p len
  IsFilledRun-LaidOut i p len at within fits =
      (omega arith, (_, HoldsRun-LaidOut i p len at within fits))

  -- and a run that is read there is of those items
  pub same_run : (i p len : ℕ) (ys : List X) → MayStartAt t i n p → i + len ≤ length xs → p + len ≤ n
      → HoldsRun ps p len ys → ys ≡ take len (drop i xs)
  same_run i p len ys at within fits held =
      sym (values-map_Some ys) ∙ ap values (sym held ∙ HoldsRun-LaidOut i p len at within fits)
      ∙ values-map_Some (take len (drop i xs))

  -- with no items every place is empty
  pub AreAllEmpty-LaidOut : length xs ≡ 0 → AreAllEmpty ps
  AreAllEmpty-LaidOut none = same_places _ _ (sym (length-replicate (length ps) None)) (λ x lt.
      Holds-each (holds l) x (omega (arith, length-replicate {A = Option X} (length ps) None))
      ∙ grind (arith, common_steps))

  -- the first item is taken off
  pub LaidOut-take_front : 0 < length xs → LaidOut n (place_of t 1 n) (drop 1 xs) (set ps t None)
  LaidOut-take_front some =
      let out = Holds-set (holds l) {g = λ k. if nat_lt 0 k then slice_get xs k else None} 0 None (omega arith) refl
      (λ i lt other. grind arith) in
      rw (place_of-zero t n l.in_region) at
      (LaidOut-by {xs = drop 1 xs} (omega (arith, length-drop 1 xs)) (Holds-from out 1 (omega arith) (omega arith)
      (λ k lt. grind (arith, items, place_of_cases 1 k n))))

  -- another value in the place of an item is another item
  pub LaidOut-set : (k : ℕ) (x : X) → k < length xs → LaidOut n t (set xs k x) (set ps (place_of t k n) (Some x))
  LaidOut-set k x lt = LaidOut-by (omega (arith, length-set xs k x)) (Holds-set (holds l) k (Some x) (omega arith)
      (grind (arith, items)) (λ i i_in other. grind (arith, items)))

-- to exchange the places of two items is to exchange the items
pub LaidOut-swap : {X : Type 0} {n t : ℕ} {xs : List X} {ps : List (Option X)} → LaidOut n t xs ps → (i j : ℕ)
    → i < length xs → j < length xs → LaidOut n t (swap xs i j) (swap ps (place_of t i n) (place_of t j n))
LaidOut-swap {n = n} {t = t} {xs = xs} {ps = ps} l i j i_in j_in =
    let d = (slice_get_some xs i i_in).0 in
    rw (
      ← swap_is xs i j d i_in j_in,
      ← swap_is ps (place_of t i n) (place_of t j n) None (omega arith) (omega arith),
      l.at j (omega arith) ∙ slice_get-get_or xs j d j_in,
      l.at i (omega arith) ∙ slice_get-get_or xs i d i_in,
    ) (LaidOut-set (LaidOut-set l i (get_or xs j d) i_in) j (get_or xs i d)
    (omega (arith, length-set xs i (get_or xs j d))))
