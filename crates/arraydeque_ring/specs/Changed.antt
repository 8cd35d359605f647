-- How many kept items have other places after an insert, a removal, a drain or a rotation, wherever
-- the new list starts, and that each moves the fewest. Items are told apart by their indexes.
use Rattle.std.specs.{
  Prelude.{◌≡◌, ℕ, zero, suc, ◌+◌, ◌-◌, ◌<◌, ◌≤◌, Bool, false, not, nat_lt, ◌==◌, if◌then◌else◌},
  Prelude.length,
}
use Rattle.arraydeque_ring.specs.{
  Ring.{RingState, place_of},
  Sides.{moves_to_insert, moves_to_remove, moves_to_drain, moves_to_rotate},
}

-- how many numbers below n pass the test
abbrev pub count_below : (ℕ → Bool) → ℕ → ℕ
count_below test zero = 0
count_below test (suc n) = if test n then suc (count_below test n) else count_below test n

-- whether the item at `index` of a list that starts at `start`, and that at `new_index` of one that
-- starts at `new_start`, have two places
abbrev pub is_elsewhere : ℕ → ℕ → ℕ → ℕ → ℕ → Bool
is_elsewhere capacity start index new_start new_index =
    not (place_of start index capacity == place_of new_start new_index capacity)

-- of the len items of a list that starts at `start`, how many have another place once one is
-- inserted at the index and the new list starts at `new_start`
abbrev pub changed_insert : ℕ → ℕ → ℕ → ℕ → ℕ → ℕ
changed_insert index len capacity start new_start =
    count_below (λ k. is_elsewhere capacity start k new_start (if nat_lt k index then k else k + 1))
    len

-- how many of those that are kept, once the items from `from` up to `to` are out
abbrev pub changed_drain : ℕ → ℕ → ℕ → ℕ → ℕ → ℕ → ℕ
changed_drain from to len capacity start new_start =
    count_below (λ k. if nat_lt k from then is_elsewhere capacity start k new_start k
    else (if nat_lt k to then false else is_elsewhere capacity start k new_start (k - (to - from))))
    len

-- how many of those that are kept, once the item at the index is out
abbrev pub changed_remove : ℕ → ℕ → ℕ → ℕ → ℕ → ℕ
changed_remove index len capacity start new_start =
    changed_drain index (index + 1) len capacity start new_start

-- how many, once the first `count` stand behind the others
abbrev pub changed_rotate : ℕ → ℕ → ℕ → ℕ → ℕ → ℕ
changed_rotate count len capacity start new_start =
    count_below (λ k. is_elsewhere capacity start k new_start
    (if nat_lt k count then k + (len - count) else k - count)) len

-- wherever the new list starts, no fewer items change their places than `count`, and just so many
-- do if it starts at `start`
pub record IsFewest (count capacity : ℕ) (changed : ℕ → ℕ) (start : ℕ) : Type 0 where
  pub least : (u : ℕ) → u < capacity → count ≤ changed u
  pub met : changed start ≡ count

module _ {X : Type 0} where
  -- an insert at the index into the ring moves the fewest items that any placement of the new list
  -- allows, and just so many if it starts at `new_start`
  abbrev pub InsertMovesFewest : ℕ → RingState X → ℕ → Type 0
  InsertMovesFewest index ring new_start =
      let len = length ring.items in
      IsFewest (moves_to_insert index len) ring.capacity
      (changed_insert index len ring.capacity ring.start) new_start

  -- so does a removal at the index
  abbrev pub RemoveMovesFewest : ℕ → RingState X → ℕ → Type 0
  RemoveMovesFewest index ring new_start =
      let len = length ring.items in
      IsFewest (moves_to_remove index len) ring.capacity
      (changed_remove index len ring.capacity ring.start) new_start

  -- so does a drain of the items from `from` up to `to`
  abbrev pub DrainMovesFewest : ℕ → ℕ → RingState X → ℕ → Type 0
  DrainMovesFewest from to ring new_start =
      let len = length ring.items in
      IsFewest (moves_to_drain from to len) ring.capacity
      (changed_drain from to len ring.capacity ring.start) new_start

  -- so does a rotation that puts the first `count` items behind the others
  abbrev pub RotateMovesFewest : ℕ → RingState X → ℕ → Type 0
  RotateMovesFewest count ring new_start =
      let len = length ring.items in
      IsFewest (moves_to_rotate count len ring.capacity) ring.capacity
      (changed_rotate count len ring.capacity ring.start) new_start
