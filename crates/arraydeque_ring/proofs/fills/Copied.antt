-- An empty run that is written in two parts, one behind the other.
use Rattle.std.proofs.{
  Common.{◌≡◌, ℕ, ◌+◌, ◌-◌, ◌≤◌, List, ◌++◌, length, take, drop, Option, ◌∙◌, ap, sym, arith},
  lemmas.{
    Grind.common_steps,
    List.{drop_all, length-append, length-drop, take-append-drop, take_rest},
  },
  Math.Nat.add_assoc,
}
use Rattle.arraydeque_ring.{
  proofs.{
    loans.Placed.length-with_run,
    places.{
      Appended.get_or-with_run,
      Filled.{empty_in_run, empty_run_of},
      Items.{slice_get-append, same_places},
    },
  },
  specs.Runs.{with_run, IsEmptyRun},
}

module _ {X : Type 0} (at n len : ℕ) (le : n ≤ len) (ps : List (Option X)) (empty : IsEmptyRun ps at len) where
  pub first_empty : IsEmptyRun ps at n
  first_empty = empty_run_of ps at n (omega (arith, empty.0))
      (λ x a b. grind (arith, empty_in_run ps at len (x - at) empty))

  module _ (xs : List X) (long : length xs ≡ n) where
    rest_empty : IsEmptyRun (with_run at xs ps) (at + n) (len - n)
    rest_empty = empty_run_of _ (at + n) (len - n) (grind (arith, common_steps, empty.0, long))
        (λ x a b. grind (arith, common_steps, empty.0, long, empty_in_run ps at len (x - at) empty))

    with_run-append : (ys : List X) → length ys ≡ len - n
        → with_run (at + n) ys (with_run at xs ps) ≡ with_run at (xs ++ ys) ps
    with_run-append ys long' =
        let ws = with_run at xs ps in
        let all = length-append xs ys in
        let as_long : length ws ≡ length ps = length-with_run at xs ps (omega (arith, empty.0)) in
        same_places _ _ (length-with_run (at + n) ys ws (omega (arith, empty.0)) ∙ as_long
        ∙ sym (length-with_run at (xs ++ ys) ps (omega (arith, empty.0)))) (λ k lt. grind (
          arith,
          slice_get-append,
          get_or-with_run at xs ps k (omega (arith, empty.0)),
          get_or-with_run (at + n) ys ws k (omega (arith, empty.0)),
          get_or-with_run at (xs ++ ys) ps k (omega (arith, empty.0)),
        ))

-- of the items xs, those from the index i on go into an empty run, and of these the first n as a block
module _ {X : Type 0} (from i n : ℕ) (xs : List X) (le : n ≤ length xs - i) (ps : List (Option X))
    (empty : IsEmptyRun ps (from + i) (length xs - i)) (block : List X)
    (is : block ≡ take n (take (length xs - i) (drop i xs))) where
  long : length block ≡ n
  long = grind (arith, common_steps, is)

  pub block_leaves : IsEmptyRun (with_run (from + i) block ps) (from + (i + n)) (length xs - (i + n))
  block_leaves =
      let fewer : length xs - (i + n) ≡ length xs - i - n = omega arith in
      rw (← add_assoc from i n, fewer) (rest_empty (from + i) n (length xs - i) le ps empty block long)

  pub block_written : with_run (from + (i + n)) (drop (i + n) xs) (with_run (from + i) block ps)
      ≡ with_run (from + i) (drop i xs) ps
  block_written =
      let rest : drop (i + n) xs ≡ drop n (drop i xs) = grind (arith, common_steps) in
      let same : block ++ drop (i + n) xs ≡ drop i xs =
      rw (is, take_rest xs i, rest) (take-append-drop n (drop i xs)) in
      rw (← add_assoc from i n) (with_run-append (from + i) n (length xs - i) le ps empty block long _
      (omega (arith, length-drop (i + n) xs)) ∙ ap (λ ys. with_run (from + i) ys ps) same)

-- once the last item is written, nothing is left
pub with_run-none : {X : Type 0} (at k : ℕ) (xs : List X) (ps : List (Option X)) → length xs ≤ k
    → with_run at (drop k xs) ps ≡ ps
with_run-none at k xs ps all = rw (drop_all k xs all) (grind (arith, common_steps))

-- for `grind`: what is left once all is written
pub ruleset all_written = with_run-none
