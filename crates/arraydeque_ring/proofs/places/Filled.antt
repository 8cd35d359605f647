-- Places and runs of them: what is filled, empty, and exchanged.
use Rattle.std.proofs.{
  Common.{◌≡◌, ◌≢◌, ℕ, zero, suc, ◌+◌, ◌<◌, ◌≤◌, List, [], ◌∷◌, ◌++◌, length, take, drop, set},
  Common.{get_or, slice_get, swap, length-set, Option, Some, None, refl, sym, ap, ◌∙◌, subst},
  Common.{add-one, arith},
  lemmas.{
    Grind.common_steps,
    List.{length-map, length-take, length-drop, map-append, take_more, get_or-drop},
    List.{get_or-replicate, get_or_past, get_or-set_other, Edits.swap_is},
  },
}
use Rattle.arraydeque_ring.{
  proofs.places.Items.{items, get_or-map_Some, slice_get_some, same_places},
  specs.{Places.{held_at, IsFilled}, Runs.{HoldsRun, IsFilledRun, IsEmptyRun}},
}

module _ {X : Type 0} where
  -- a filled place is one of the region's
  pub filled_within : (ps : List (Option X)) (i : ℕ) (x : X) → get_or ps i None ≡ Some x → i < length ps
  filled_within ps i x e = grind (arith, get_or_past ps i None)

  -- a filled run has as many values as places
  pub length_filled : (ps : List (Option X)) (from len : ℕ) (run : IsFilledRun ps from len) → length run.1.0 ≡ len
  length_filled ps from len run =
      omega (arith, simp (length-map, length-take, length-drop) at (ap length run.1.1))

  -- a place of a run holds what is read in the run
  in_run : (ps qs : List (Option X)) (from len k : ℕ) → take len (drop from ps) ≡ qs → k < len
      → held_at ps (from + k) ≡ held_at qs k
  in_run ps qs from len k is lt =
      rw (← is) (grind (arith, common_steps))

  -- so each place of a filled run is filled
  pub filled_in_run : (ps : List (Option X)) (from len k : ℕ) → IsFilledRun ps from len → k < len
      → IsFilled ps (from + k)
  filled_in_run ps from len k run lt =
      let some = slice_get_some run.1.0 k (omega (arith, length_filled ps from len run)) in
      (some.0, in_run ps _ from len k run.1.1 lt ∙ get_or-map_Some run.1.0 k ∙ some.1)

  -- and each place of an empty run is empty
  pub empty_in_run : (ps : List (Option X)) (from len k : ℕ) → IsEmptyRun ps from len → k < len
      → held_at ps (from + k) ≡ None
  empty_in_run ps from len k run lt = in_run ps _ from len k run.1 lt ∙ get_or-replicate len k None None lt

  -- two values that are taken out and put into each other's place
  pub exchanged : (ps : List (Option X)) (i j : ℕ) (x y : X) → i ≢ j → get_or ps i None ≡ Some x
      → get_or (set ps i None) j None ≡ Some y
      → set (set (set (set ps i None) j None) i (Some y)) j (Some x) ≡ swap ps i j
  exchanged ps i j x y apart at_i at_j =
      let y_was = sym (get_or-set_other ps i j None None (λ e. apart (sym e))) ∙ at_j in
      same_places _ _ (simp length-set) (λ k lt. grind (arith, common_steps))
      ∙ swap_is ps i j None (filled_within ps i x at_i) (filled_within ps j y y_was)

  -- a run is filled, or empty, where each of its places is
  pub filled_run_of : (ps : List (Option X)) (from len : ℕ) → from + len ≤ length ps
      → ((x : ℕ) → from ≤ x → x < from + len → IsFilled ps x) → IsFilledRun ps from len
  filled_run_of ps from zero le each = (omega arith, ([], refl))
  filled_run_of ps from (suc len) le each =
      let front = filled_run_of ps from len (omega arith) (λ x a b. each x a (omega arith)) in
      let last = each (from + len) (omega arith) (omega arith) in (
        le,
        (
          front.1.0 ++ last.0 ∷ [],
          rw (
            ← add-one len,
            take_more (drop from ps) len None (omega (arith, length-drop from ps)),
            front.1.1,
            get_or-drop,
            last.1,
            map-append,
          ),
        ),
      )

  -- a filled place is a filled run of one
  pub is_filled_run : (ps : List (Option X)) (i : ℕ) → IsFilled ps i → IsFilledRun ps i 1
  is_filled_run ps i held = filled_run_of ps i 1 (omega (arith, filled_within ps i held.0 held.1))
      (λ x a b. subst (IsFilled ps) (omega arith) held)

  pub empty_run_of : (ps : List (Option X)) (from len : ℕ) → from + len ≤ length ps
      → ((x : ℕ) → from ≤ x → x < from + len → held_at ps x ≡ None) → IsEmptyRun ps from len
  empty_run_of ps from len le each =
      (le, same_places _ _ (grind (arith, common_steps)) (λ x lt. grind (arith, common_steps)))

  -- a run holds the items that its places hold, here those from the index i on
  pub holds_run_of : (ps : List (Option X)) (from i len : ℕ) (xs : List X) → i + len ≤ length xs
      → from + len ≤ length ps → ((k : ℕ) → k < len → held_at ps (from + k) ≡ slice_get xs (i + k))
      → HoldsRun ps from len (take len (drop i xs))
  holds_run_of ps from i len xs within le each =
      let ys = take len (drop i xs) in
      same_places _ _ (grind (arith, common_steps))
      (λ k lt. grind (arith, common_steps, items) ∙ sym (get_or-map_Some ys k))
