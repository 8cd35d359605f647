-- What a contract sees of a deque.
use Rattle.std.specs.{
  Prelude.{◌≡◌, ℕ, ◌<◌, ◌+◌, ◌-◌, List, [], ◌++◌, length, take, drop, reverse, slice_get, Option},
}
use Rattle.arraydeque_ring.specs.{
  Ring.{RingState, up_by, down_by},
  Steps.{Steps, no_steps, more_puts, more_takes},
}

-- a deque: its items from front to back, the place of the first in its region, and the steps of
-- that region
pub record DequeState (X : Type 0) : Type 0 where
  pub items : List X
  pub start : ℕ
  pub steps : Steps

module _ {X : Type 0} where
  abbrev pub empty_deque : DequeState X
  empty_deque = record { items = []; start = 0; steps = no_steps }

  -- the deque of capacity n as the ring that it is
  abbrev pub as_ring : ℕ → DequeState X → RingState X
  as_ring n deque =
      record { items = deque.items; capacity = n; start = deque.start; steps = deque.steps }

  -- the last item, if there is one
  abbrev pub last_item : List X → Option X
  last_item xs = slice_get xs (length xs - 1)

  -- the last n items, or all if there are fewer
  abbrev pub keep_last : ℕ → List X → List X
  keep_last n xs = drop (length xs - n) xs

  -- the deque with xs put behind its last item, where no other item moves
  abbrev pub with_back : List X → DequeState X → DequeState X
  with_back xs deque =
      record deque { items = deque.items ++ xs; steps = more_puts (length xs) deque.steps }

  -- the deque of capacity n with xs put one by one before its first item, where no other item moves
  abbrev pub with_front : ℕ → List X → DequeState X → DequeState X
  with_front n xs deque =
      record {
        items = reverse xs ++ deque.items;
        start = down_by (length xs) deque.start n;
        steps = more_puts (length xs) deque.steps;
      }

  -- the deque of capacity n with xs pushed one by one behind its last item, where each push into a
  -- full one takes its first item out
  abbrev pub wrapped_back : ℕ → List X → DequeState X → DequeState X
  wrapped_back n xs deque =
      let out = length deque.items + length xs - n in
      record {
        items = keep_last n (deque.items ++ xs);
        start = up_by out deque.start n;
        steps = more_puts (length xs) (more_takes out deque.steps);
      }

  -- xs were pushed one by one behind the last item of the old deque of capacity n, which stays as
  -- it was if it has no places
  abbrev pub WrapsBack : ℕ → DequeState X → List X → DequeState X → Type 0
  WrapsBack n old xs new = (new.items ≡ keep_last n (old.items ++ xs))
      × (0 < n → new ≡ wrapped_back n xs old) × (n ≡ 0 → new ≡ old)

  -- the deque of capacity n with xs pushed one by one before its first item, where each push into a
  -- full one takes its last item out
  abbrev pub wrapped_front : ℕ → List X → DequeState X → DequeState X
  wrapped_front n xs deque =
      record {
        items = take n (reverse xs ++ deque.items);
        start = down_by (length xs) deque.start n;
        steps = more_puts (length xs) (more_takes (length deque.items + length xs - n) deque.steps);
      }

  -- the same before its first item
  abbrev pub WrapsFront : ℕ → DequeState X → List X → DequeState X → Type 0
  WrapsFront n old xs new = (new.items ≡ take n (reverse xs ++ old.items))
      × (0 < n → new ≡ wrapped_front n xs old) × (n ≡ 0 → new ≡ old)
