-- A run of places that is emptied, one place after another.
use Rattle.std.proofs.{
  Common.{◌≡◌, ℕ, ◌+◌, ◌-◌, ◌<◌, ◌≤◌, ◌==◌, List, length, set, get_or, nat_lt, if◌then◌else◌},
  Common.{Option, None, arith, rules},
  lemmas.{Grind.common_steps, List.places},
}
use Rattle.arraydeque_ring.{proofs.places.Items.same_places, specs.Runs.run_emptied}

module _ {X : Type 0} where
  -- what a place holds once c is written to the place i
  pub get_or-written : (ps : List (Option X)) (i x : ℕ) (c : Option X) → i < length ps
      → get_or (set ps i c) x None ≡ (if x == i then c else get_or ps x None)
  get_or-written ps i x c lt = grind (arith, common_steps)

  module _ (at k : ℕ) (ps : List (Option X)) where
    pub length-run_emptied : at + k ≤ length ps → length (run_emptied at k ps) ≡ length ps
    length-run_emptied le = grind (arith, common_steps)

    pub get_or-run_emptied : (x : ℕ) → at + k ≤ length ps → get_or (run_emptied at k ps) x None
        ≡ (if nat_lt x at then get_or ps x None else (if nat_lt x (at + k) then None else get_or ps x None))
    get_or-run_emptied x le = grind (arith, common_steps)

  -- the places from `at` up to i are empty
  module _ (ps : List (Option X)) (at i : ℕ) (le : at ≤ i) (lt : i < length ps) where
    -- the next place is as it was, and the run is longer with it
    pub next_unchanged : get_or (run_emptied at (i - at) ps) i None ≡ get_or ps i None
    next_unchanged = grind (arith, get_or-run_emptied at (i - at) ps i)

    pub next_emptied : set (run_emptied at (i - at) ps) i None ≡ run_emptied at (i + 1 - at) ps
    next_emptied = same_places _ _ (search (rules, places)) (λ x x_in.
        grind (
          arith,
          get_or-written,
          length-run_emptied at (i - at) ps,
          get_or-run_emptied at (i - at) ps x,
          get_or-run_emptied at (i + 1 - at) ps x,
        ))
