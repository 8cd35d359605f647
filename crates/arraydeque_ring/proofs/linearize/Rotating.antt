-- A region while it is rotated: pass after pass, values come to their places.
use Rattle.std.proofs.{
  Common.{◌≡◌, ℕ, ◌+◌, ◌-◌, ◌<◌, ◌≤◌, ◌⊎◌, List, length, min, Option, is_some, sym, ap, ◌∙◌, arith},
  lemmas.{Bool.Decides.nat_tests, List.append-nil},
}
use Rattle.arraydeque_ring.{
  proofs.{
    linearize.Underway.{are_rotated, Underway, underway, len_within, filled_now, empty_now},
    moved.Reads.{length-run_rotated, get_or-run_rotated, exchanged_from, length-runs_exchanged},
    moved.Reads.{get_or-runs_exchanged, runs_exchanged_both},
    places.{Filled.{filled_run_of, empty_run_of}, Rotated.{length-rotated, rotated-map}},
  },
  specs.{
    Places.held_at,
    Ring.{rotated, filled, FilledFrom},
    Runs.{IsEmptyRun, run_rotated, IsFilledRun, runs_exchanged},
  },
}

-- a pass: of `run` values that come to their places, x do by an exchange, and the others move into empty places
pub record Pass {X : Type 0} (dst next count x : ℕ) (ps : List (Option X)) : Type 0 where
  pub a_filled : IsFilledRun ps dst x
  pub b_filled : IsFilledRun ps next x
  pub empty : IsEmptyRun (runs_exchanged dst next x ps) (dst + x) (count - x)
  pub filled : IsFilledRun (runs_exchanged dst next x ps) (next + x) (count - x)

-- the places are on their way from `old`, where len values begin at `start`, to `old` read from `start` on
pub record Rotating {X : Type 0} (capacity start len dst next : ℕ) (old ps : List (Option X)) : Type 0 where
  pub fills : FilledFrom start len (filled old)
  pub length_is : length ps ≡ capacity
  pub in_order : dst ≤ next
  pub in_region : next < capacity
  pub placed : dst ≤ len
  pub left : rotated start old ≡ run_rotated dst (next - dst) (capacity - next) ps

module _ {X : Type 0} {capacity start len dst next : ℕ} {old ps : List (Option X)}
    (t : Rotating capacity start len dst next old ps) where
  pub still_fills : FilledFrom 0 len (filled (run_rotated dst (next - dst) (capacity - next) ps))
  unfolding filled
  still_fills = rw (← t.left, append-nil, ← rotated-map is_some start old, length-rotated start (filled old)) t.fills

  before : Underway dst (next - dst) (capacity - next) len ps
  before = underway still_fills (omega arith)

  pub Rotating-fits : len ≤ capacity
  Rotating-fits = omega (arith, len_within before)

  module _ {count x : ℕ} (wraps : capacity - next < len - dst) (most : count ≡ min (capacity - next) (next - dst))
      (both : x ≡ min (len - dst - (capacity - next)) count) where
    pub Rotating-pass : Pass dst next count x ps
    Rotating-pass =
        let rs = runs_exchanged dst next x ps in
        let long = length-runs_exchanged dst next x ps (omega arith) (omega arith) in
        let stays : (y : ℕ) → exchanged_from dst next x y ≡ y → held_at rs y ≡ held_at ps y =
        λ y same. get_or-runs_exchanged dst next x ps (omega arith) (omega arith) y ∙ ap (held_at ps) same in
        let filled = filled_now before in
        let none = empty_now before in
        record {
          a_filled = filled_run_of ps dst x (omega arith) (λ y a b. filled y (omega arith) (grind arith));
          b_filled = filled_run_of ps next x (omega arith) (λ y a b. filled y (omega arith) (grind (arith, nat_tests)));
          empty = empty_run_of rs (dst + x) (count - x) (omega arith)
              (λ y a b. stays y (grind arith) ∙ none y (omega arith) (grind arith));
          filled = filled_run_of rs (next + x) (count - x) (omega arith) (λ y a b.
              let is = filled y (omega arith) (grind (arith, nat_tests)) in
              (is.0, stays y (grind (arith, nat_tests)) ∙ is.1));
        }

    -- after it the others stand where they did, or one run further on
    pub Rotating-passed : {next_then : ℕ}
        → ((capacity - next ≤ count) × (next_then ≡ next)) ⊎ ((count < capacity - next) × (next_then ≡ next + count))
        → Rotating capacity start len (dst + count) next_then old
        (runs_exchanged (dst + x) (next + x) (count - x) (runs_exchanged dst next x ps))
    Rotating-passed {next_then} ways =
        let all : x + (count - x) ≡ count = omega arith in
        let long = length-runs_exchanged dst next count ps (omega arith) (omega arith) in
        let gap = next_then - (dst + count) in
        rw (runs_exchanged_both dst next ps x (count - x) (omega arith) (omega arith), all) (record {
          fills = t.fills;
          length_is = long ∙ t.length_is;
          in_order = omega arith;
          in_region = omega arith;
          placed = omega arith;
          left = t.left ∙ sym (are_rotated dst (next - dst) (capacity - next) ps _ (omega arith)
              (length-run_rotated (dst + count) gap (capacity - next_then) _ (omega arith) ∙ long) (λ y lt.
              get_or-run_rotated (dst + count) gap (capacity - next_then) _ (omega arith) y
              ∙ get_or-runs_exchanged dst next count ps (omega arith) (omega arith) _
              ∙ ap (held_at ps) (grind (arith, nat_tests))));
        })
