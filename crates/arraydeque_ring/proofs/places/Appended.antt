-- Items that are laid behind a list, in one run of places.
use Rattle.std.proofs.{
  Common.{◌≡◌, ℕ, ◌+◌, ◌-◌, ◌≤◌, List, ◌++◌, length, take, drop, get_or, slice_get, nat_lt},
  Common.{if◌then◌else◌, Option, None, replicate, refl, inl, ◌∙◌, arith},
  lemmas.{
    Bool.Decides.nat_tests,
    Grind.common_steps,
    List.{length-append, append_assoc, drop-drop},
    Option.slice_get_past,
  },
  Math.Seq.take-add,
}
use Rattle.arraydeque_ring.{
  proofs.{
    loans.Placed.length-with_run,
    places.{
      Filled.empty_run_of,
      Holds.{Holds, Holds-same},
      Items.{items, get_or-map_Some},
      LaidOut.{LaidOut, LaidOut-by, LaidOut-nothing, holds},
      Rotated.{MayStartAt, place_of_cases, place_of-run, place_of-sum},
    },
  },
  specs.{Ring.{RingState, up_by}, Runs.{IsEmptyRun, with_run}, Steps.{more_puts, more_takes}},
}

module _ {X : Type 0} where
  -- what a place holds once a run is written: the run's value, or what it held
  pub get_or-with_run : (at : ℕ) (ys : List X) (ps : List (Option X)) (x : ℕ) → at + length ys ≤ length ps →
      get_or (with_run at ys ps) x None ≡ (if nat_lt x at then get_or ps x None
      else (if nat_lt x (at + length ys) then slice_get ys (x - at) else get_or ps x None))
  get_or-with_run at ys ps x le =
      grind (arith, common_steps, get_or-map_Some ys (x - at))

  -- a run of indexes is written, from the index i on
  pub Holds-run : {n t : ℕ} {f : ℕ → Option X} {ps : List (Option X)} → Holds n t f ps → (i place : ℕ) (ys : List X)
      → MayStartAt t i n place → place + length ys ≤ n → i + length ys ≤ n → Holds n t (λ k. if nat_lt k i then f k
      else (if nat_lt k (i + length ys) then slice_get ys (k - i) else f k)) (with_run place ys ps)
  Holds-run {n} {t} {ps = ps} h i place ys lies fits room =
      record {
        length_is = length-with_run place ys ps (omega arith) ∙ h.length_is;
        in_region = h.in_region;
        at = λ k lt. grind (arith, get_or-with_run place ys ps, place_of_cases t k n (omega arith));
      }

  module _ {n t : ℕ} {xs : List X} {ps : List (Option X)} (l : LaidOut n t xs ps) where
    pub LaidOut-appended : (ys : List X) (place : ℕ) → MayStartAt t (length xs) n place →
        place + length ys ≤ n → length xs + length ys ≤ n → LaidOut n t (xs ++ ys) (with_run place ys ps)
    LaidOut-appended ys place lies fits room =
        LaidOut-by (omega (arith, length-append xs ys))
        (Holds-same (Holds-run (holds l) (length xs) place ys lies fits room) (λ k lt. grind (arith, items)))

    -- as many items are written in their stead, where the list lies in one piece
    pub LaidOut-written : (ys : List X) → length ys ≡ length xs → t + length ys ≤ n → LaidOut n t ys (with_run t ys ps)
    LaidOut-written ys many fits =
        LaidOut-by (omega arith) (Holds-same (Holds-run (holds l) 0 t ys (inl (omega arith)) fits (omega arith))
        (λ k lt. grind (arith, items)))

    -- the places behind the list are empty
    pub IsEmptyRun-from : (i place count : ℕ) → length xs ≤ i → MayStartAt t i n place → place + count ≤ n
        → i + count ≤ n → IsEmptyRun ps place count
    IsEmptyRun-from i place count past lies fits room =
        empty_run_of ps place count (omega arith) (λ x from to.
        let j = x - place in
        let on : x ≡ place + j = omega arith in
        rw (on, ← place_of-run t i j n place lies (omega arith) (omega arith) (omega arith))
        (l.at (i + j) (omega arith) ∙ slice_get_past xs (i + j) (omega arith)))

    pub IsEmptyRun-behind : (place count : ℕ) → MayStartAt t (length xs) n place →
        place + count ≤ n → length xs + count ≤ n → IsEmptyRun ps place count
    IsEmptyRun-behind place count = IsEmptyRun-from (length xs) place count (omega arith)

-- in a new region items are written from the first place on
pub LaidOut-new : {X : Type 0} (xs : List X) (n : ℕ) → length xs ≤ n
    → LaidOut n 0 xs (with_run 0 xs (replicate n None))
LaidOut-new xs n within = LaidOut-appended (LaidOut-nothing n) xs 0 (inl refl) (omega arith) (omega arith)

-- to go up by j places and then by k is to go up by both
pub up_by-both : (j k s n : ℕ) → up_by k (up_by j s n) n ≡ up_by (j + k) s n
up_by-both j k s n = grind (arith, nat_tests, place_of-sum s j k n)

module _ {X : Type 0} where
  -- a ring with the first m items of another behind its own, and that other ring without them
  abbrev pub joined : ℕ → RingState X → RingState X → RingState X
  joined m r o = record r { items = r.items ++ take m o.items; steps = more_puts m r.steps }

  abbrev pub shed : ℕ → RingState X → RingState X
  shed m o = record o { items = drop m o.items; start = up_by m o.start o.capacity; steps = more_takes m o.steps }

  pub joined-both : (j k : ℕ) (r o : RingState X) → joined k (joined j r o) (shed j o) ≡ joined (j + k) r o
  joined-both j k r o = grind (arith, append_assoc, take-add j k o.items)

  pub shed-both : (j k : ℕ) (o : RingState X) → shed k (shed j o) ≡ shed (j + k) o
  shed-both j k o = grind (arith, drop-drop, up_by-both)
