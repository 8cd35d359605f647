-- A rotation is a gap that closes: read from the first item that goes to the front, the ring's empty places stand
-- before the items that go behind. And no placement of the list gives fewer items another place.
use Rattle.std.proofs.{
  Common.{◌≡◌, ℕ, suc, refl, ◌+◌, ◌-◌, ◌<◌, ◌≤◌, ◌==◌, ◌++◌, length, take, drop, inl, inr, min, not},
  Common.{if◌then◌else◌, nat_lt, List, [], ◌∷◌, Option, None, set, arith},
  lemmas.{
    Bool.{cases_lt, Decides.nat_tests},
    Grind.common_steps,
    List.{length-append, length-take-le, length-drop, length_push, append-nil, drop_all, drop_more},
    Option.get_or_from_slice_get,
  },
}
use Rattle.arraydeque_ring.{
  proofs.{
    gaps.{
      Fewest.{count_sides, one_start},
      GapMoves.{may_close, Gapped-behind, Gapped-before, gap_moves},
      Gapped.{Gapped, Gapped-taken_one, LaidOut-gap_last, LaidOut-put},
    },
    Opened.{Opened, Shows, shows, Become, become},
    places.{
      Holds.{Holds-from, Holds-same},
      Items.items,
      LaidOut.{LaidOut-by, LaidOut-take_front, IsFilled-start, IsFilled-place_of, held_at-start, holds},
      Rotated.{place_of_cases, place_of-sum, place_of-zero},
    },
  },
  specs.{
    Changed.{changed_rotate, IsFewest},
    declared.ring.Ring.TheInside.Inside,
    Gaps.{MayClose, first_closed, gap_moved},
    Places.held_at,
    Ring.{RingState, place_of, rotated},
    Sides.{moves_to_rotate, start_rotated},
  },
}

module _ {X : Type 0} {r : Inside X} {v : RingState X} (o : Opened r v) (m : ℕ) (le : m ≤ length v.items)
    (some : 0 < v.capacity) where
  abbrev t : ℕ
  t = place_of r.start m v.capacity

  turned_gap : Gapped v.capacity t (drop m v.items) (v.capacity - r.len) (take m v.items) r.slots.places
  turned_gap =
      let front = length-take-le m v.items le in
      let back = length-drop m v.items in
      let within = o.laid.within in
      record {
        within = omega (arith, o.len);
        reads = Holds-from (holds o.laid) m some (omega arith)
            (λ k lt. grind (arith, items, o.len, place_of_cases m k v.capacity));
      }

  many : length (drop m v.items ++ take m v.items) ≡ r.len
  many = grind (arith, length-append, length-drop, length-take-le)

  pub may_turn : r.len < v.capacity → MayClose t (r.len - m) (v.capacity - r.len) m r.slots.places
  may_turn room = may_close turned_gap _ _ (omega arith) (omega (arith, length-drop m v.items, o.len))
      (length-take-le m v.items le)

  pub turned : (s : ℕ) (ps : List (Option X))
      → s ≡ first_closed (r.len - m) (v.capacity - r.len) m v.capacity t
      → rotated s ps ≡ gap_moved (r.len - m) (r.len - m + m) (v.capacity - r.len) (rotated t r.slots.places)
      → Shows v.capacity s r.len (drop m v.items ++ take m v.items) ps
  turned s ps here is = shows (LaidOut-gap_last (gap_moves turned_gap (r.len - m) (r.len - m + m)
      (omega (arith, length-drop m v.items, o.len)) s ps (append-nil (drop m v.items ++ take m v.items))
      (omega (arith, many, o.len)) (grind (arith, here)) is)) _ many

  -- in a full ring there is no gap to close
  pub turned_full : r.len ≡ v.capacity
      → Shows v.capacity t r.len (drop m v.items ++ take m v.items) r.slots.places
  turned_full full = shows (LaidOut-by (omega (arith, many))
      (Holds-same turned_gap.reads (λ k lt. grind (arith, items)))) _ many

  pub start_turned : first_closed (r.len - m) (v.capacity - r.len) m v.capacity t
      ≡ start_rotated m v
  start_turned = grind (arith, common_steps, place_of-sum)

-- where only the first item goes behind the others it moves into the place behind the last
pub turned_one : {X : Type 0} {r : Inside X} {v : RingState X} → Opened r v → 0 < r.len → r.len < v.capacity
    → Become v.capacity (place_of r.start 1 v.capacity) r.len (drop 1 v.items ++ take 1 v.items)
    (set (set r.slots.places r.start None) (place_of r.start r.len v.capacity) (held_at r.slots.places r.start))
turned_one {r = r} {v = v} o some room =
    let first = IsFilled-start o.laid (omega (arith, o.len)) in
    let is : take 1 v.items ≡ first.0 ∷ [] = grind (arith, items, held_at-start o.laid (omega arith), first.1) in
    let long = length-drop 1 v.items in
    let behind : place_of (place_of r.start 1 v.capacity) (r.len - 1) v.capacity ≡ place_of r.start r.len v.capacity =
    grind (arith, place_of-sum r.start 1 (r.len - 1) v.capacity) in
    let taken = LaidOut-take_front o.laid (omega (arith, o.len)) in
    let put = LaidOut-put (r.len - 1) first.0 (Gapped-behind taken (omega (arith, o.len, long)))
    (omega (arith, o.len, long)) in
    rw (is, first.1) (become (rw behind at put) _ (omega (arith, o.len, long, length_push (drop 1 v.items) first.0)))

-- and where only the last goes before them, into the place before the first
pub turned_last : {X : Type 0} {r : Inside X} {v : RingState X} → Opened r v → (m : ℕ) → m + 1 ≡ r.len
    → r.len < v.capacity → let n = v.capacity in let last = place_of r.start m n in
    Become n (place_of r.start (n - 1) n) r.len (drop m v.items ++ take m v.items)
    (set (set r.slots.places last None) (place_of r.start (n - 1) n) (held_at r.slots.places last))
turned_last {r = r} {v = v} o m len room =
    let last = IsFilled-place_of o.laid m (omega (arith, o.len)) in
    let none = drop_all (suc m) v.items (omega (arith, o.len)) in
    let is : drop m v.items ≡ last.0 ∷ [] =
    grind (arith, none, o.laid.at m, last.1, drop_more v.items m last.0, get_or_from_slice_get v.items m last.0) in
    let long = length-take-le m v.items (omega (arith, o.len)) in
    let taken = LaidOut-gap_last (rw none at (Gapped-taken_one o.laid m (omega (arith, o.len)))) in
    let gap = Gapped-before taken (omega (arith, long)) in
    let put = LaidOut-put 0 last.0 gap refl in
    rw (is, last.1) (become (rw (place_of-zero _ v.capacity gap.reads.in_region) at put) _ (omega (arith, long)))

module _ (m n c t : ℕ) (t_in : t ≤ c - 1) (m_in : m ≤ n) (within : n ≤ c) where
  -- the others stay where the start goes up by the first m, and these where it goes down by the others
  rotated_changes : (u : ℕ) → u < c → changed_rotate m n c t u
      ≡ (if not (t == place_of u (n - m) c) then min m n else 0)
      + (if not (place_of t m c == u) then n - m else 0)
  rotated_changes u u_in =
      count_sides _ (not (t == place_of u (n - m) c)) (not (place_of t m c == u)) m m n (omega arith)
      (λ k lt. grind (
        arith,
        nat_tests,
        one_start c t (place_of u (n - m) c) k (omega arith) (omega arith) (omega arith),
        one_start c (place_of t m c) u (k - m) (omega arith) u_in (omega arith),
        place_of-sum t m (k - m) c,
        place_of-sum u (n - m) k c,
      ))

  pub fewest_rotate : IsFewest (moves_to_rotate m n c) c (changed_rotate m n c t)
      (let others = n - m in place_of t (if nat_lt others m then c - others else m) c)
  fewest_rotate = record {
    least = λ u lt. grind (
      arith,
      nat_tests,
      rotated_changes u lt,
      place_of_cases t m c (omega arith),
      place_of_cases u (n - m) c (omega arith),
    );
    met = elim (cases_lt 0 c) [
      | inl some ↦
          let up = place_of t m c in
          let down = place_of t (c - (n - m)) c in
          grind (
            arith,
            nat_tests,
            rotated_changes up (omega arith),
            rotated_changes down (omega arith),
            place_of_cases t m c (omega arith),
            place_of_cases t (c - (n - m)) c (omega arith),
            place_of_cases up (n - m) c (omega arith),
            place_of_cases down (n - m) c (omega arith),
          )
      | inr none ↦ let no : n ≡ 0 = omega arith in rw no (grind arith)
    ];
  }
