-- Runs that move where neither side passes the region's end.
use Rattle.std.proofs.{
  Common.{◌≡◌, ◌≢◌, ℕ, ◌+◌, ◌-◌, ◌<◌, ◌≤◌, ◌⊎◌, inl, inr, List, ◌++◌, length, take, drop, get_or, set},
  Common.{nat_lt, if◌then◌else◌, Option, None, refl, sym, ◌∙◌, arith},
  lemmas.{
    Bool.Decides.nat_tests,
    Grind.common_steps,
    List.{length-set, places, FromFn.{length-map-range_with_len, get_or-map-range_with_len}},
  },
  Math.Nat.mod-eq_of_lt,
}
use Rattle.arraydeque_ring.{
  proofs.places.{Items.same_places, Rotated.{place_of_cases, up_from}},
  specs.{
    Moved.{distance, held_after, run_moved},
    Places.{Region, held_at},
    Ring.place_of,
    Runs.run_emptied,
    Steps.Steps,
  },
}

-- the distance between two places, of which the first may be the end
pub distance_is : (from to n : ℕ) → from ≤ n → to < n
    → distance from to n ≡ (if nat_lt to from then to + n - from else to - from)
distance_is from to n a b = grind (arith, place_of_cases to (n - from) n (omega arith))

module _ {X : Type 0} where
  pub length-moved : (dst src len : ℕ) (ps : List (Option X)) → length (run_moved dst src len ps) ≡ length ps
  length-moved dst src len ps = length-map-range_with_len (held_after dst src len ps) 0 (length ps)

  -- what a place holds after a move
  pub moved_at : {n : ℕ} (dst src len : ℕ) (ps : List (Option X)) (x : ℕ) → length ps ≡ n → x < n
      → held_at (run_moved dst src len ps) x ≡ (if nat_lt (distance dst x n) len
      then held_at ps (place_of src (distance dst x n) n)
      else (if nat_lt (distance src x n) len then None else held_at ps x))
  moved_at dst src len ps x long lt = rw (← long) (get_or-map-range_with_len (held_after dst src len ps) 0 (length ps) x
      x None (omega arith) (omega arith))

  abbrev pub other : (ℕ → Option X) → ℕ → ℕ → ℕ → Option X
  other f j len x = if nat_lt x j then f x else (if nat_lt x (j + len) then None else f x)

  -- what stands at the index x once the len values from j on have moved to those from i on,
  -- where f says what stood there
  abbrev pub look : (ℕ → Option X) → ℕ → ℕ → ℕ → ℕ → Option X
  look f i j len x =
      if nat_lt x i then other f j len x else (if nat_lt x (i + len) then f (j + (x - i)) else other f j len x)

  pub flat_at : (i j len : ℕ) (ps : List (Option X)) (x : ℕ) → i + len ≤ length ps → j + len ≤ length ps → x < length ps
      → get_or (run_moved i j len ps) x None ≡ look (λ y. get_or ps y None) i j len x
  flat_at i j len ps x a b lt =
      let n = length ps in
      let d = distance_is i x n (omega arith) lt in
      let e = distance_is j x n (omega arith) lt in
      moved_at i j len ps x refl lt ∙ rw d (grind (arith, nat_tests, mod-eq_of_lt {n = j + (x - i)} {m = n}))

  -- the source emptied, and its values written over the target
  pub moved_parts : (ps : List (Option X)) (dst src len : ℕ) → src + len ≤ length ps → dst + len ≤ length ps
      → (let es = run_emptied src len ps in
      take dst es ++ (take len (drop src ps) ++ drop (dst + len) es)) ≡ run_moved dst src len ps
  moved_parts ps dst src len a b =
      let es = run_emptied src len ps in
      same_places _ _ (grind (arith, places, length-moved dst src len ps)) (λ x lt.
      let in_it : x < length ps = omega (arith, length-moved dst src len ps) in
      let held : (y : ℕ) → get_or es y None ≡ other (λ z. get_or ps z None) src len y =
      λ y. grind (arith, places) in
      grind (arith, nat_tests, places) ∙ sym (flat_at dst src len ps x b a in_it))

  -- where no value moves, or all of a run have, nothing is left to move
  moved_none : (dst src : ℕ) (ps : List (Option X)) → run_moved dst src 0 ps ≡ ps
  moved_none dst src ps = same_places _ _ (length-moved dst src 0 ps)
      (λ x lt. moved_at dst src 0 ps x refl lt ∙ grind arith)

  pub all_moved : (dst src len : ℕ) (now : Region X) {whole : List (Option X)} {steps : Steps} → len ≡ 0
      → run_moved dst src len now.places ≡ whole → now.steps ≡ steps → now ≡ record { places = whole; steps = steps }
  all_moved dst src len now none is same = rw (← is, ← same, none, moved_none dst src now.places) refl

  -- and any places will do
  pub same_move : (d s e t l m : ℕ) (ps : List (Option X)) → (l ≡ m) × ((l ≡ 0) ⊎ ((d ≡ e) × (s ≡ t)))
      → run_moved d s l ps ≡ run_moved e t m ps
  same_move d s e t l m ps (same, inl none) = rw (← same, none) (moved_none d s ps ∙ sym (moved_none e t ps))
  same_move d s e t l m ps (same, inr to) = rw (same, to.0, to.1) refl

  -- or where a run moves to where it is
  pub moved_nowhere : (at len : ℕ) (ps : List (Option X)) → at < length ps → run_moved at at len ps ≡ ps
  moved_nowhere at len ps lt = same_places _ _ (length-moved at at len ps)
      (λ x x_in. moved_at at at len ps x refl x_in ∙ grind (arith, up_from x at (length ps) x_in lt))

  -- one value moves, out of its place and into the other
  pub moved_one : (dst src : ℕ) (ps : List (Option X)) → dst < length ps → src < length ps → dst ≢ src
      → set (set ps src None) dst (held_at ps src) ≡ run_moved dst src 1 ps
  moved_one dst src ps a b apart =
      let long = length-moved dst src 1 ps in
      same_places _ _ (grind (arith, length-set, long)) (λ x lt. grind (arith, nat_tests, common_steps, length-set)
      ∙ sym (flat_at dst src 1 ps x (omega arith) (omega arith) (omega (arith, long))))
