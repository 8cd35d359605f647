-- A region while its list is laid in one piece: the first values are in their places, and two runs behind them have
-- still to change places.
use Rattle.std.proofs.{
  Common.{◌≡◌, ℕ, ◌+◌, ◌-◌, ◌<◌, ◌≤◌, List, length, slice_get, nat_lt, if◌then◌else◌, Option, None},
  Common.{sym, ap, ◌∙◌, arith},
  lemmas.{Bool.Decides.nat_tests, List.append-nil, Option.slice_get_past},
}
use Rattle.arraydeque_ring.{
  proofs.{
    gaps.{Crossing.{MayMove, length-gap_moved, get_or-gap_moved}, GapMoves.may_move},
    moved.Reads.{rotated_from, length-run_rotated, get_or-run_rotated, length-runs_exchanged},
    moved.Reads.get_or-runs_exchanged,
    places.{
      Filled.{filled_run_of, empty_run_of},
      Holds.Holds-first,
      Items.{slice_get_some, same_places},
      LaidOut.{LaidOut, holds, LaidOut-values},
    },
  },
  specs.{
    Gaps.gap_moved,
    Places.{held_at, IsFilled},
    Ring.{rotated, values, filled, FilledFrom},
    Runs.{IsEmptyRun, run_rotated, IsFilledRun, runs_exchanged},
  },
}

-- places that each hold what `rotated_from` says are the rotated ones
pub are_rotated : {X : Type 0} (at m k : ℕ) (ps qs : List (Option X)) → at + m + k ≤ length ps → length qs ≡ length ps
    → ((x : ℕ) → x < length ps → held_at qs x ≡ held_at ps (rotated_from at m k x)) → qs ≡ run_rotated at m k ps
are_rotated at m k ps qs within long each = grind (arith, length-run_rotated, same_places, get_or-run_rotated)

-- once the run of `gap` from the index dst on and the run of `behind` that follows it to the end change places, the
-- first len places are filled, and no others
pub record Underway {X : Type 0} (dst gap behind len : ℕ) (ps : List (Option X)) : Type 0 where
  pub whole : dst + gap + behind ≡ length ps
  pub fills : FilledFrom 0 len (filled (run_rotated dst gap behind ps))

pub underway : {X : Type 0} {dst gap behind len : ℕ} {ps : List (Option X)}
    → FilledFrom 0 len (filled (run_rotated dst gap behind ps)) → dst + gap + behind ≡ length ps
    → Underway dst gap behind len ps
underway fills whole = record { whole = whole; fills = fills }

module _ {X : Type 0} {dst gap behind len : ℕ} {ps : List (Option X)} (u : Underway dst gap behind len ps) where
  abbrev list : List X
  list = values (rotated 0 (run_rotated dst gap behind ps))

  laid : LaidOut (length ps) 0 list (run_rotated dst gap behind ps) × (length list ≡ len)
  laid = rw (length-run_rotated dst gap behind ps (omega arith)) at
      (LaidOut-values 0 len (run_rotated dst gap behind ps) (omega arith) u.fills)

  pub len_within : len ≤ length ps
  len_within = omega (arith, laid.0.within, laid.1)

  -- what a place holds now
  held_now : (x : ℕ) → x < length ps → held_at ps x ≡ slice_get list (rotated_from dst behind gap x)
  held_now x lt =
      let y = rotated_from dst behind gap x in
      let back : rotated_from dst gap behind y ≡ x = grind arith in
      ap (held_at ps) (sym back) ∙ sym (get_or-run_rotated dst gap behind ps (omega arith) y)
      ∙ Holds-first (holds laid.0) y (grind arith)

  pub filled_now : (x : ℕ) → x < length ps → rotated_from dst behind gap x < len → IsFilled ps x
  filled_now x lt some = let v = slice_get_some list _ (omega (arith, laid.1)) in (v.0, held_now x lt ∙ v.1)

  pub empty_now : (x : ℕ) → x < length ps → len ≤ rotated_from dst behind gap x → held_at ps x ≡ None
  empty_now x lt past = held_now x lt ∙ slice_get_past list _ (omega (arith, laid.1))

  -- the values that are left may stand behind the gap, in one piece
  module _ (placed : dst ≤ len) (fits : len ≤ dst + behind) where
    pub last_may_move : 0 < gap → MayMove 0 dst len gap ps
    last_may_move some =
        may_move 0 dst len gap ps (append-nil ps) some (omega arith) (omega arith)
        (λ x a b. empty_now x (omega arith) (grind arith)) (λ x a b. absurd (omega arith))
        (λ x a b. filled_now x (omega arith) (grind arith))

    pub last_moved : gap_moved dst len gap ps ≡ run_rotated dst gap behind ps
    last_moved =
        are_rotated dst gap behind ps _ (omega arith) (length-gap_moved dst len gap ps (omega arith) (omega arith))
        (λ x lt. get_or-gap_moved dst len gap ps (omega arith) (omega arith) x
        ∙ grind (arith, nat_tests, empty_now x, empty_now (x + gap), empty_now (x - behind)))

  -- or there is room for the values behind the gap: the ones in front of it move up by as many
  -- places, and those behind it come into their places
  module _ (next : ℕ) (room : (dst + gap ≡ next) × (dst + behind ≤ len) × (len ≤ next) × (0 < behind)) where
    between : (x : ℕ) → len - behind ≤ x → x < next → held_at ps x ≡ None
    between x a b = empty_now x (omega arith) (grind arith)

    pub room_for_first : MayMove 0 (len - behind) dst behind ps
    room_for_first =
        may_move 0 (len - behind) dst behind ps (append-nil ps) (omega arith) (omega arith) (omega arith)
        (λ x a b. between x a (omega arith))
        (λ x a b. filled_now x (omega arith) (grind arith)) (λ x a b. absurd (omega arith))

    -- what the region comes to then
    abbrev moved_up : List (Option X)
    moved_up = gap_moved (len - behind) dst behind ps

    long : length moved_up ≡ length ps
    long = length-gap_moved (len - behind) dst behind ps (omega arith) (omega arith)

    made_room : (x : ℕ) → x < length ps → held_at moved_up x ≡ (if nat_lt x dst then held_at ps x
        else (if nat_lt x (dst + behind) then None
        else (if nat_lt x next then held_at ps (x - behind) else held_at ps x)))
    made_room x lt = get_or-gap_moved (len - behind) dst behind ps (omega arith) (omega arith) x
        ∙ grind (arith, between x, between (x - behind))

    pub room_made : IsEmptyRun moved_up dst behind × IsFilledRun moved_up next behind
    room_made = (
      empty_run_of _ dst behind (omega (arith, long)) (λ x a b. made_room x (omega arith) ∙ grind arith),
      filled_run_of _ next behind (omega (arith, long)) (λ x a b.
          let v = filled_now x (omega arith) (grind arith) in (v.0, made_room x (omega arith) ∙ grind arith)),
    )

    pub first_moved : runs_exchanged dst next behind moved_up ≡ run_rotated dst gap behind ps
    first_moved =
        let within : next + behind ≤ length moved_up = omega (arith, long) in
        are_rotated dst gap behind ps _ (omega arith)
        (length-runs_exchanged dst next behind moved_up (omega arith) within ∙ long) (λ x lt.
        get_or-runs_exchanged dst next behind moved_up (omega arith) within x ∙ grind (
          arith,
          nat_tests,
          made_room x lt,
          made_room (x - dst + next),
          made_room (x - next + dst),
          between (x - behind),
        ))
