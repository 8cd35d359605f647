-- A run of places that is written with items from an iterator, one place after another.
use Rattle.std.proofs.{
  Common.{◌≡◌, ℕ, ◌+◌, ◌-◌, ◌<◌, ◌≤◌, List, [], ◌∷◌, ◌++◌, length, reverse, set, Option, Some},
  Common.{false, arith, rules},
  lemmas.List.{get_or-set_same, places, same_lists, length-map, map-append, length-append},
  lemmas.List.{length-reverse, reverse-append, length_push},
}
use Rattle.arraydeque_ring.{proofs.fills.FromIterator.Fills-one, specs.{Fills.Fills, Runs.with_run}}

-- one item more, in the place behind the run or before it
module _ {X : Type 0} (at : ℕ) (xs : List X) (ps : List (Option X)) (within : at + length xs ≤ length ps) (x : X)
    (place : ℕ) where
  pub with_run-behind : place ≡ at + length xs → place < length ps
      → set (with_run at xs ps) place (Some x) ≡ with_run at (xs ++ x ∷ []) ps
  with_run-behind here lt = rw (map-append, length-append) (same_lists _ _ (search (rules, places))
      (λ j d j_in. grind (arith, places, get_or-set_same, length-map xs Some)))

  pub with_run-before : place + 1 ≡ at → set (with_run at xs ps) place (Some x) ≡ with_run place (x ∷ xs) ps
  with_run-before here =
      same_lists _ _ (search (rules, places)) (λ j d lt. grind (arith, places, get_or-set_same))

-- n items that came from an iterator were written to the places ps, which are qs now
module _ {S X : Type 0} (gives : S → Option X → S → Type 0) (from to : S) (n at : ℕ) (ps qs : List (Option X)) where
  -- from the place `at` on
  abbrev pub Upwards : Type 0
  Upwards = Fills gives from to n false (λ xs. (length xs ≡ n) × (qs ≡ with_run at xs ps))

  -- or downwards from there, so that they stand in reverse
  abbrev pub Downwards : Type 0
  Downwards = Fills gives from to n false (λ xs. (length xs ≡ n) × (qs ≡ with_run (at - n) (reverse xs) ps))

-- and then x came
module _ {S X : Type 0} {gives : S → Option X → S → Type 0} {from mid to : S} {n : ℕ} (at : ℕ)
    (ps : List (Option X)) (x : X) {qs rs : List (Option X)} (came : gives mid (Some x) to) where
  pub one_up : Upwards gives from mid n at ps qs → at + n < length ps → rs ≡ set qs (at + n) (Some x)
      → Upwards gives from to (n + 1) at ps rs
  one_up was within is = Fills-one gives was x came _ (
    omega (arith, length_push was.items x),
    rw (is, was.holds.1) (with_run-behind at _ ps (omega arith) x _ (omega arith) within),
  )

  pub one_down : Downwards gives from mid n at ps qs → n < at → at ≤ length ps → rs ≡ set qs (at - 1 - n) (Some x)
      → Downwards gives from to (n + 1) at ps rs
  one_down was some within is = let next : at - 1 - n ≡ at - (n + 1) = omega arith in
      Fills-one gives was x came _ (
        omega (arith, length_push was.items x),
        rw (is, was.holds.1, next, reverse-append was.items (x ∷ [])) (with_run-before _ (reverse was.items) ps
            (omega (arith, length-reverse was.items)) x _ (omega arith)),
      )
