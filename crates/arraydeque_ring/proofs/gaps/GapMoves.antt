-- A gap among the items of a ring that moves: it opens for an item, or is moved to an end of them, and so closed.
use Rattle.std.proofs.{
  Common.{◌≡◌, ℕ, ◌+◌, ◌-◌, ◌<◌, ◌≤◌, List, [], ◌++◌, length, slice_get, max, Option, None, refl},
  Common.{sym, ap, ◌∙◌, arith},
  lemmas.{Bool.Decides.nat_tests, List.length-append},
}
use Rattle.arraydeque_ring.{
  proofs.{
    gaps.{
      Crossing.{MayMove, length-gap_moved, get_or-gap_moved, empty_at},
      Gapped.{Gapped, gapped},
    },
    places.{
      Filled.{filled_run_of, empty_run_of},
      Holds.{Holds, Holds-of_rotated, Holds-rotated, rotated-Holds, Holds-from},
      Items.{items, slice_get_some},
      LaidOut.{LaidOut, holds},
      Rotated.{place_of_cases, length-rotated},
    },
  },
  specs.{Gaps.{MayClose, gap_moved}, Places.{held_at, IsFilled}, Ring.{place_of, rotated}},
}

pub may_move : {X : Type 0} (t from to gap : ℕ) (ps : List (Option X)) {ts : List (Option X)} → rotated t ps ≡ ts
    → 0 < gap → t < length ps → max from to + gap ≤ length ps
    → ((x : ℕ) → from ≤ x → x < from + gap → held_at ts x ≡ None) → ((x : ℕ) → to ≤ x → x < from → IsFilled ts x)
    → ((x : ℕ) → from + gap ≤ x → x < to + gap → IsFilled ts x) → MayMove t from to gap ps
may_move t from to gap ps {ts = ts} is some t_in within none before behind =
    let wide = ap length (sym is) ∙ length-rotated t ps in
    rw is (record {
      some = some;
      in_region = t_in;
      within = within;
      empty = empty_run_of ts from gap (omega arith) none;
      filled_before = filled_run_of ts to (from - to) (omega arith) (λ x a b. before x a (omega arith));
      filled_behind = filled_run_of ts (from + gap) (to - from) (omega arith) (λ x a b. behind x a (omega arith));
    })

-- where there is room, there is a gap behind all items, or before them, from a start one place down
module _ {X : Type 0} {n t : ℕ} {xs : List X} {ps : List (Option X)} (l : LaidOut n t xs ps)
    (room : length xs < n) where
  pub Gapped-behind : Gapped n t xs 1 [] ps
  Gapped-behind = grind (arith, items)

  pub Gapped-before : Gapped n (place_of t (n - 1) n) [] 1 xs ps
  Gapped-before = record {
    within = omega arith;
    reads = Holds-from (holds l) (n - 1) (omega arith) (omega arith)
        (λ k lt. grind (arith, items, place_of_cases (n - 1) k n));
  }

module _ {X : Type 0} {n t : ℕ} {xs : List X} {gap : ℕ} {ys : List X} {ps : List (Option X)}
    (p : Gapped n t xs gap ys ps) where
  gap_at : (x : ℕ) → x < n → held_at (rotated t ps) x ≡ gapped xs gap ys x
  gap_at x lt = Holds-rotated p.reads x lt

  module _ (from to : ℕ) (front : length xs ≡ from) where
    -- a gap may move to any index
    pub gap_may_move : 0 < gap → to ≤ from + length ys → MayMove t from to gap ps
    gap_may_move some le =
        may_move t from to gap ps refl some (omega arith) (omega arith)
        (λ x a b. gap_at x (omega arith) ∙ grind arith)
        (λ x a b. let v = slice_get_some xs x (omega arith) in
        (v.0, gap_at x (omega arith) ∙ grind arith))
        (λ x a b. let v = slice_get_some ys (x - (from + gap)) (omega arith) in
        (v.0, gap_at x (omega arith) ∙ grind arith))

    -- and then it is there, among the same items
    pub gap_moves : {us vs : List X} (s : ℕ) (qs : List (Option X)) → us ++ vs ≡ xs ++ ys → length us ≡ to → s ≤ n - 1
        → rotated s qs ≡ gap_moved from to gap (rotated t ps) → Gapped n s us gap vs qs
    gap_moves {us} {vs} s qs same there s_in is =
        let wide = length-rotated t ps in
        let many : length us + length vs ≡ length xs + length ys =
        omega (arith, length-append us vs, length-append xs ys, ap length same) in
        let item : (j : ℕ) → slice_get (us ++ vs) j ≡ slice_get (xs ++ ys) j = λ j. ap (λ l. slice_get l j) same in
        record {
          within = omega arith;
          reads = Holds-of_rotated is
              (length-gap_moved from to gap (rotated t ps) (omega arith) (omega arith) ∙ wide ∙ p.reads.length_is) s_in
              (λ x lt. get_or-gap_moved from to gap (rotated t ps) (omega arith) (omega arith) x
              ∙ grind (
                arith,
                nat_tests,
                items,
                gap_at x lt,
                gap_at (x - gap),
                gap_at (x + gap),
                item x,
                item (x - gap),
              ));
        }

  -- it may be closed
  pub may_close : (i m : ℕ) → 0 < gap → length xs ≡ i → length ys ≡ m → MayClose t i gap m ps
  may_close i m some front back =
      let up = gap_may_move i 0 front some (omega arith) in
      let down = gap_may_move i (i + m) front some (omega arith) in
      let before : i - 0 ≡ i = omega arith in
      let behind : i + m - i ≡ m = omega arith in
      record {
        some = some;
        in_region = up.in_region;
        within = omega arith;
        filled_before = rw before at up.filled_before;
        empty = up.empty;
        filled_behind = rw behind at down.filled_behind;
        others_empty = empty_run_of _ (i + gap + m) (length ps - (i + gap + m)) (omega (arith, length-rotated t ps))
            (λ x a b. gap_at x (omega arith) ∙ grind (arith, items));
      }

-- moving a gap before all values leaves, read from behind the gap, what moving it behind them leaves
pub closed_up : {X : Type 0} (t i gap m : ℕ) (ps qs : List (Option X)) → MayClose t i gap m ps
    → rotated t qs ≡ gap_moved i 0 gap (rotated t ps)
    → rotated (place_of t gap (length ps)) qs ≡ gap_moved i (i + m) gap (rotated t ps)
closed_up t i gap m ps qs may is =
    let n = length ps in
    let ts = rotated t ps in
    let wide : length ts ≡ n = length-rotated t ps in
    let none = empty_at ts (i + gap + m) (n - (i + gap + m)) may.others_empty in
    let reads : Holds n t (held_at (gap_moved i 0 gap ts)) qs =
    Holds-of_rotated is (length-gap_moved i 0 gap ts (omega arith) (omega arith) ∙ wide) (omega arith) (λ k lt. refl) in
    rotated-Holds (Holds-from reads gap (omega arith) (omega arith) (λ k lt. refl))
    (length-gap_moved i (i + m) gap ts (omega arith) (omega arith) ∙ wide) (λ x lt.
    get_or-gap_moved i 0 gap ts (omega arith) (omega arith) (place_of gap x n)
    ∙ grind (arith, nat_tests, place_of_cases gap x n (omega arith))
    ∙ sym (get_or-gap_moved i (i + m) gap ts (omega arith) (omega arith) x))
