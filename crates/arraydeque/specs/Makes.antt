-- What a call makes of a deque: the list, where it starts, and the steps; and what it hands out.
use Rattle.std.specs.{
  Prelude.{◌≡◌, ℕ, ◌+◌, ◌-◌, ◌*◌, ◌<◌, List, length, take, drop, Option, Some, None, ◌==◌, nat_le},
  Prelude.if◌then◌else◌,
}
use Rattle.arraydeque_ring.specs.{
  Changed.{InsertMovesFewest, RemoveMovesFewest, DrainMovesFewest},
  Ring.place_of,
  Sides.{moves_to_insert, moves_to_remove, moves_to_drain, start_opened, start_closed},
  Steps.{Steps, no_steps, more_puts, more_takes, more_moves, more_exchanges, more_lends},
  Steps.Rearranges,
}
use Rattle.arraydeque.specs.{
  declared.run.{
    Call.{
      Call,
      TheVariants.{PushFront, PushBack, PopFront, PopBack, Insert, Remove, SwapRemoveBack},
      TheVariants.{SwapRemoveFront, Swap, Replace, Clear, Linearize, ExtendBack, ExtendFront},
      TheVariants.{Extend, Drain, SplitOff},
    },
    Reply.{Reply, TheVariants.{Split, NoMemory}},
  },
  Deque.{DequeState, as_ring, with_back, with_front, wrapped_back, wrapped_front},
  Machine.{Answer, Answers, answer_of, done, item, displaced, drained, split},
  Policy.{Policy, saturating, wrapping},
}

module _ {X : Type 0} where
  -- the deque of capacity n after xs were pushed behind its last item, one by one: saturating stops
  -- where there is no room, and wrapping gives up first items, but at capacity 0 leaves it as it is
  abbrev pub pushed_back : Policy → ℕ → List X → DequeState X → DequeState X
  pushed_back saturating n xs deque = with_back (take (n - length deque.items) xs) deque
  pushed_back wrapping n xs deque = if n == 0 then deque else wrapped_back n xs deque

  -- the same before its first item, where wrapping gives up last ones
  abbrev pub pushed_front : Policy → ℕ → List X → DequeState X → DequeState X
  pushed_front saturating n xs deque = with_front n (take (n - length deque.items) xs) deque
  pushed_front wrapping n xs deque = if n == 0 then deque else wrapped_front n xs deque

  -- the steps after a wrapping push at capacity n that displaced an item, or none
  abbrev pub displacing : ℕ → Option X → Steps → Steps
  displacing n None steps = more_puts 1 steps
  displacing n (Some x) steps = if n == 0 then steps else more_puts 1 (more_takes 1 steps)

module _ {X : Type 0} (p : Policy) (n : ℕ) where
  -- where the list starts after a call so answered; a refusal, a None and a reading leave it
  abbrev pub start_after : Call X → Answer X → DequeState X → ℕ
  start_after (PushFront x) done old = place_of old.start (n - 1) n
  start_after (PushFront x) (displaced y) old =
      if n == 0 then old.start else place_of old.start (n - 1) n
  start_after (PushBack x) (displaced (Some y)) old =
      if n == 0 then old.start else place_of old.start 1 n
  start_after (Insert i x) done old = start_opened i (as_ring n old)
  start_after PopFront (item (Some x)) old = place_of old.start 1 n
  start_after (Remove i) (item (Some x)) old = start_closed i 1 (as_ring n old)
  start_after (SwapRemoveFront i) (item (Some x)) old = place_of old.start 1 n
  start_after Clear done old = 0
  start_after Linearize done old =
      if nat_le (old.start + length old.items) n then old.start else 0
  start_after (Drain from to) (drained xs) old = start_closed from (to - from) (as_ring n old)
  start_after (ExtendBack v) done old = (pushed_back p n v.items old).start
  start_after (ExtendFront v) done old = (pushed_front p n v.items old).start
  start_after (Extend v) done old = (pushed_back p n v.items old).start
  start_after _ _ old = old.start

  -- the steps after any call but a Linearize; a refusal, a None and a reading make none
  abbrev pub steps_after : Call X → Answer X → DequeState X → Steps
  steps_after (PushFront x) done old = more_puts 1 old.steps
  steps_after (PushFront x) (displaced y) old = displacing n y old.steps
  steps_after (PushBack x) done old = more_puts 1 old.steps
  steps_after (PushBack x) (displaced y) old = displacing n y old.steps
  steps_after (Insert i x) done old =
      more_puts 1 (more_moves (moves_to_insert i (length old.items)) old.steps)
  steps_after PopFront (item (Some x)) old = more_takes 1 old.steps
  steps_after PopBack (item (Some x)) old = more_takes 1 old.steps
  steps_after (Remove i) (item (Some x)) old =
      more_moves (moves_to_remove i (length old.items)) (more_takes 1 old.steps)
  steps_after (Swap i j) done old = more_exchanges (if i == j then 0 else 1) old.steps
  steps_after (SwapRemoveBack i) (item (Some x)) old = more_takes 1
      (more_exchanges (if i == length old.items - 1 then 0 else 1) old.steps)
  steps_after (SwapRemoveFront i) (item (Some x)) old = more_takes 1
      (more_exchanges (if i == 0 then 0 else 1) old.steps)
  steps_after (Replace i x) (item y) old = more_lends 1 old.steps
  steps_after Clear done old = more_takes (length old.items) old.steps
  steps_after (Drain from to) (drained xs) old =
      more_moves (moves_to_drain from to (length old.items)) (more_takes (to - from) old.steps)
  steps_after (SplitOff at) (split xs) old = more_takes (length old.items - at) old.steps
  steps_after (ExtendBack v) done old = (pushed_back p n v.items old).steps
  steps_after (ExtendFront v) done old = (pushed_front p n v.items old).steps
  steps_after (Extend v) done old = (pushed_back p n v.items old).steps
  steps_after _ _ old = old.steps

  -- the call leaves these steps: a Linearize no more moves and exchanges than items, and none if
  -- the list is in one piece, and any other call exactly those above
  abbrev pub StepsAre : Call X → Answer X → DequeState X → Steps → Type 0
  StepsAre Linearize answer old steps = Rearranges
      (if nat_le (old.start + length old.items) n then 0 else length old.items) old.steps steps
  StepsAre call answer old steps = steps ≡ steps_after call answer old

  -- a call that inserted, removed or drained moved the fewest items that any placement of the new
  -- list allows, and just so many if it starts at `start`
  abbrev pub MovesFewest : Call X → Answer X → DequeState X → ℕ → Type 0
  MovesFewest (Insert i x) done old start = InsertMovesFewest i (as_ring n old) start
  MovesFewest (Remove i) (item (Some x)) old start = RemoveMovesFewest i (as_ring n old) start
  MovesFewest (Drain from to) (drained xs) old start =
      DrainMovesFewest from to (as_ring n old) start
  MovesFewest _ _ old start = Unit {0}

module _ {X B : Type 0} (p : Policy) (n size : ℕ) where
  -- a deque that was split off starts at its first place, and each of its items was put there once
  abbrev pub TailIs : Call X → Reply X n B → DequeState X → Type 0
  TailIs (SplitOff at) (Split tail) old = tail ≡ record {
    items = drop at old.items;
    start = 0;
    steps = more_puts (length old.items - at) no_steps;
  }
  TailIs _ _ old = Unit {0}

  -- memory was refused only if the region for what goes out takes some, at `size` bytes an item
  abbrev pub MayBeRefused : Call X → Reply X n B → Type 0
  MayBeRefused (Drain from to) NoMemory = 0 < (to - from) * size
  MayBeRefused (SplitOff at) NoMemory = 0 < n * size
  MayBeRefused _ _ = Unit {0}

  -- under the policy and the capacity n the call is answered so, and makes the new deque of the old
  -- one; an item takes `size` bytes
  pub record Makes (call : Call X) (reply : Reply X n B) (old new : DequeState X) : Type 0 where
    pub list : Answers p n old.items call (answer_of reply) new.items
    pub start : new.start ≡ start_after p n call (answer_of reply) old
    pub steps : StepsAre p n call (answer_of reply) old new.steps
    pub fewest : MovesFewest p n call (answer_of reply) old new.start
    pub tail : TailIs call reply old
    pub refused : MayBeRefused call reply
