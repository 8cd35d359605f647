-- Two runs that are rotated or exchanged, read place by place: where what a place holds came from.
use Rattle.std.{
  proofs.{
    Common.{◌≡◌, ℕ, ◌+◌, ◌-◌, ◌<◌, ◌≤◌, List, length, get_or, set, nat_lt, if◌then◌else◌, Option},
    Common.{None, sym, ap, ◌∙◌, arith, rules},
    lemmas.{
      Bool.Decides.nat_tests,
      Grind.common_steps,
      List.{places, same_lists, length-set, set_comm, Edits.swap_is},
    },
  },
  specs.Prelude.swap,
}
use Rattle.arraydeque_ring.{
  proofs.places.{Filled.{empty_in_run, filled_in_run}, Items.same_places},
  specs.{
    Places.{held_at, IsFilled, IsEmpty},
    Runs.{run_rotated, runs_exchanged, IsEmptyRun, IsFilledRun},
  },
}

-- the place whose value the place x has, once m values from `at` on and the k behind them have changed places
abbrev pub rotated_from : ℕ → ℕ → ℕ → ℕ → ℕ
rotated_from at m k x =
    if nat_lt x at then x else (if nat_lt x (at + k) then x + m else (if nat_lt x (at + k + m) then x - k else x))

module _ {X : Type 0} (at m k : ℕ) (ps : List (Option X)) (within : at + m + k ≤ length ps) where
  pub length-run_rotated : length (run_rotated at m k ps) ≡ length ps
  length-run_rotated = grind (arith, common_steps)

  pub get_or-run_rotated : (x : ℕ) → get_or (run_rotated at m k ps) x None ≡ get_or ps (rotated_from at m k x) None
  get_or-run_rotated x = grind (arith, places)

-- the place whose value the place x has, once n values from a on are exchanged with those from b on
abbrev pub exchanged_from : ℕ → ℕ → ℕ → ℕ → ℕ
exchanged_from a b n x = if nat_lt x a then x else
    (if nat_lt x (a + n) then x - a + b else (if nat_lt x b then x else (if nat_lt x (b + n) then x - b + a else x)))

module _ {X : Type 0} (a b n : ℕ) (ps : List (Option X)) (before : a + n ≤ b) (within : b + n ≤ length ps) where
  pub length-runs_exchanged : length (runs_exchanged a b n ps) ≡ length ps
  length-runs_exchanged = grind (arith, common_steps)

  pub get_or-runs_exchanged : (x : ℕ)
      → get_or (runs_exchanged a b n ps) x None ≡ get_or ps (exchanged_from a b n x) None
  get_or-runs_exchanged x = grind (arith, nat_tests, places)

module _ {X : Type 0} (a b : ℕ) (ps : List (Option X)) where
  -- no run is exchanged
  pub runs_exchanged_none : a + 0 ≤ b → b + 0 ≤ length ps → runs_exchanged a b 0 ps ≡ ps
  runs_exchanged_none before within = same_lists _ _ (search (rules, places)) (λ j d lt. grind (arith, places))

  -- a run longer by m is exchanged in two steps
  pub runs_exchanged_both : (n m : ℕ) → a + (n + m) ≤ b → b + (n + m) ≤ length ps
      → runs_exchanged (a + n) (b + n) m (runs_exchanged a b n ps) ≡ runs_exchanged a b (n + m) ps
  runs_exchanged_both n m before within =
      let once = runs_exchanged a b n ps in
      let long = length-runs_exchanged a b n ps (omega arith) (omega arith) in
      same_places _ _ (search (rules, places)) (λ x lt.
      get_or-runs_exchanged (a + n) (b + n) m once (omega arith) (omega arith) x
      ∙ get_or-runs_exchanged a b n ps (omega arith) (omega arith) (exchanged_from (a + n) (b + n) m x)
      ∙ ap (λ i. get_or ps i None) (grind (arith, nat_tests))
      ∙ sym (get_or-runs_exchanged a b (n + m) ps before within x))

  -- two places are two runs of one
  swap-runs : a < b → b < length ps → swap ps a b ≡ runs_exchanged a b 1 ps
  swap-runs before within =
      sym (swap_is ps a b None (omega arith) within) ∙ same_places _ _
      (simp length-set (sym (length-runs_exchanged a b 1 ps (omega arith) (omega arith)))) (λ x lt.
      grind (arith, common_steps, get_or-runs_exchanged a b 1 ps (omega arith) (omega arith) x))

-- the pairs of two runs are exchanged one after another: the pair k comes next
module _ {X : Type 0} (a b k len : ℕ) (ps : List (Option X)) (lt : k < len) (before : a + len ≤ b) where
  module _ (within : b + len ≤ length ps) where
    still : (x : ℕ) → exchanged_from a b k x ≡ x → held_at (runs_exchanged a b k ps) x ≡ held_at ps x
    still x same = get_or-runs_exchanged a b k ps (omega arith) (omega arith) x ∙ ap (held_at ps) same

    pub runs_exchanged_more : swap (runs_exchanged a b k ps) (a + k) (b + k) ≡ runs_exchanged a b (k + 1) ps
    runs_exchanged_more = swap-runs (a + k) (b + k) _ (omega arith)
        (omega (arith, length-runs_exchanged a b k ps)) ∙ runs_exchanged_both a b ps k 1 (omega arith) (omega arith)

  module _ (second : IsFilledRun ps b len) where
    pub next_second : IsFilled (runs_exchanged a b k ps) (b + k)
    next_second = let was = filled_in_run ps b len k second lt in grind (arith, still)

    pub next_first : IsFilledRun ps a len → IsFilled (runs_exchanged a b k ps) (a + k)
    next_first first = let was = filled_in_run ps a len k first lt in grind (arith, still)

    module _ (first : IsEmptyRun ps a len) where
      still_empty : held_at (runs_exchanged a b k ps) (a + k) ≡ None
      still_empty = still second.0 (a + k) (grind arith) ∙ empty_in_run ps a len k first lt

      pub next_empty : IsEmpty (runs_exchanged a b k ps) (a + k)
      next_empty = (omega (arith, second.0, length-runs_exchanged a b k ps), still_empty)

      -- and to move a value to an empty place is to exchange it with nothing
      pub runs_moved_more : let now = runs_exchanged a b k ps in
          set (set now (b + k) None) (a + k) (held_at now (b + k)) ≡ runs_exchanged a b (k + 1) ps
      runs_moved_more = grind (arith, length-runs_exchanged, set_comm, still_empty, swap_is, runs_exchanged_more)
