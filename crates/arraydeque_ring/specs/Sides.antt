-- Which side of a gap moves: the one with fewer items, and on a tie the items behind the gap.
use Rattle.std.specs.Prelude.{ℕ, ◌+◌, ◌-◌, length, min, nat_lt, if◌then◌else◌}
use Rattle.arraydeque_ring.specs.{Gaps.first_closed, Ring.{RingState, place_of}}

-- how many of len items move so that one comes in at the index
abbrev pub moves_to_insert : ℕ → ℕ → ℕ
moves_to_insert index len = min index (len - index)

-- how many of len items move once the one at the index is out
abbrev pub moves_to_remove : ℕ → ℕ → ℕ
moves_to_remove index len = min index (len - 1 - index)

-- how many of len items move once those from the index `from` up to `to` are out
abbrev pub moves_to_drain : ℕ → ℕ → ℕ → ℕ
moves_to_drain from to len = if nat_lt from to then min from (len - to) else 0

-- how many of len items move so that the first `count` stand behind the others: none if the ring is
-- full
abbrev pub moves_to_rotate : ℕ → ℕ → ℕ → ℕ
moves_to_rotate count len capacity = if nat_lt len capacity then min count (len - count) else 0

module _ {X : Type 0} where
  -- the ring's start once a gap for one item is opened at the index: one place down if the items
  -- before it move
  abbrev pub start_opened : ℕ → RingState X → ℕ
  start_opened index ring =
      if nat_lt index (length ring.items - index)
      then place_of ring.start (ring.capacity - 1) ring.capacity else ring.start

  -- its start once `count` items from the index on are out, and the gap is closed
  abbrev pub start_closed : ℕ → ℕ → RingState X → ℕ
  start_closed index count ring =
      first_closed index count (length ring.items - (index + count)) ring.capacity ring.start

  -- its start once the first `count` items stand behind the others: if the others move, down by as
  -- many places, round the end
  abbrev pub start_rotated : ℕ → RingState X → ℕ
  start_rotated count ring =
      let others = length ring.items - count in
      place_of ring.start (if nat_lt others count then ring.capacity - others else count)
      ring.capacity
