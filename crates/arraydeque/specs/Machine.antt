-- The plain list machine: what one call answers, and what list it leaves.
use Rattle.std.specs.{
  Bool.MatchBool,
  List.{swap, remove_range},
  Prelude.{◌≡◌, ℕ, ◌-◌, List, [], ◌∷◌, ◌++◌, length, take, drop, reverse, slice_get, slice_set},
  Prelude.{slice_range, insert, remove, Option, Some, None, Bool, true, ◌&&◌, nat_lt, nat_le, ◌==◌},
  Prelude.{if◌then◌else◌, ◌⊎◌},
}
use Rattle.arraydeque.specs.{
  declared.run.{
    Call.{
      Call,
      TheVariants.{PushFront, PushBack, PopFront, PopBack, Insert, Remove, SwapRemoveBack},
      TheVariants.{SwapRemoveFront, Swap, Replace, Clear, Linearize, ExtendBack, ExtendFront},
      TheVariants.{Extend, Drain, SplitOff, Len, Capacity, IsEmpty, IsFull},
    },
    Reply.{
      Reply,
      TheVariants.{Done, Item, Displaced, Number, Truth, Drained, Split, Full, OutOfRange},
      TheVariants.{NoMemory, NotOffered},
    },
  },
  Deque.{keep_last, last_item},
  Policy.{Policy, saturating, wrapping},
}

-- a reply as the list machine gives it, with a list in place of what owns items
pub data Answer (X : Type 0) : Type 0 where
  done : Answer X
  item : Option X → Answer X
  displaced : Option X → Answer X
  number : ℕ → Answer X
  truth : Bool → Answer X
  drained : List X → Answer X
  split : List X → Answer X
  full : X → Answer X
  out_of_range : Option X → Answer X
  no_memory : Answer X
  not_offered : X → Answer X

-- what a call may answer, with the list that it leaves
abbrev pub Outcome : Type 0 → Type 1
Outcome X = Answer X → List X → Type 0

module _ {X : Type 0} where
  abbrev pub answer_of : {n : ℕ} {B : Type 0} → Reply X n B → Answer X
  answer_of Done = done
  answer_of (Item taken) = item taken
  answer_of (Displaced given_up) = displaced given_up
  answer_of (Number n) = number n
  answer_of (Truth b) = truth b
  answer_of (Drained items) = drained items
  answer_of (Split deque) = split deque.items
  answer_of (Full refusal) = full refusal.element
  answer_of (OutOfRange element) = out_of_range element
  answer_of NoMemory = no_memory
  answer_of (NotOffered element) = not_offered element

  -- the call answers a and leaves the list l
  abbrev pub Gives : Answer X → List X → Outcome X
  Gives a l answer left = (answer ≡ a) × (left ≡ l)

  -- P if there is room for one more item than l, and else a refusal that hands x back and leaves
  -- l as it is
  abbrev pub IfRoom : ℕ → List X → X → Outcome X → Outcome X
  IfRoom n l x P answer left =
      MatchBool (nat_lt (length l) n) (P answer left) (Gives (full x) l answer left)

  -- P if the indexes are in range, and else a refusal that hands the element back and leaves l
  abbrev pub InRange : Bool → Option X → List X → Outcome X → Outcome X
  InRange in_range element l P answer left =
      MatchBool in_range (P answer left) (Gives (out_of_range element) l answer left)

  -- P, or a refusal for memory that leaves l, which can come only if the call asks for memory
  abbrev pub OrNoMemory : Bool → List X → Outcome X → Outcome X
  OrNoMemory asks l P answer left = P answer left ⊎ ((asks ≡ true) × Gives no_memory l answer left)

  -- a push of x before l: saturating refuses it if there is no room, and wrapping keeps the
  -- first n items and gives up the one behind them
  abbrev pub PushesFront : Policy → ℕ → List X → X → Outcome X
  PushesFront saturating n l x = IfRoom n l x (Gives done (x ∷ l))
  PushesFront wrapping n l x = Gives (displaced (slice_get (x ∷ l) n)) (take n (x ∷ l))

  -- a push of x behind l: saturating refuses it if there is no room, and wrapping keeps the last
  -- n items and gives up the one before them
  abbrev pub PushesBack : Policy → ℕ → List X → X → Outcome X
  PushesBack saturating n l x = IfRoom n l x (Gives done (l ++ x ∷ []))
  PushesBack wrapping n l x =
      let given_up = if nat_lt (length l) n then None else slice_get (l ++ x ∷ []) 0 in
      Gives (displaced given_up) (keep_last n (l ++ x ∷ []))

  -- an insert of x before the item at i, which saturating alone offers
  abbrev pub Inserts : Policy → ℕ → List X → ℕ → X → Outcome X
  Inserts saturating n l i x =
      InRange (nat_le i (length l)) (Some x) l (IfRoom n l x (Gives done (insert l i x)))
  Inserts wrapping n l i x = Gives (not_offered x) l

  -- the list after items xs were added behind l: saturating adds while there is room, and wrapping
  -- keeps the last n
  abbrev pub extended_back : Policy → ℕ → List X → List X → List X
  extended_back saturating n l xs = l ++ take (n - length l) xs
  extended_back wrapping n l xs = keep_last n (l ++ xs)

  -- the list after they were added one by one before l: saturating adds while there is room, and
  -- wrapping keeps the first n
  abbrev pub extended_front : Policy → ℕ → List X → List X → List X
  extended_front saturating n l xs = reverse (take (n - length l) xs) ++ l
  extended_front wrapping n l xs = take n (reverse xs ++ l)

  -- under the policy and the capacity n the call is answered so, and takes the list l to `left`
  abbrev pub Answers : Policy → ℕ → List X → Call X → Outcome X
  Answers p n l (PushFront x) = PushesFront p n l x
  Answers p n l (PushBack x) = PushesBack p n l x
  Answers p n l PopFront = Gives (item (slice_get l 0)) (drop 1 l)
  Answers p n l PopBack = Gives (item (last_item l)) (take (length l - 1) l)
  Answers p n l (Insert i x) = Inserts p n l i x
  Answers p n l (Remove i) = Gives (item (slice_get l i)) (remove l i)
  Answers p n l (SwapRemoveBack i) = Gives (item (slice_get l i))
      (if nat_lt i (length l) then take (length l - 1) (swap l i (length l - 1)) else l)
  Answers p n l (SwapRemoveFront i) = Gives (item (slice_get l i))
      (if nat_lt i (length l) then drop 1 (swap l i 0) else l)
  Answers p n l (Swap i j) =
      InRange (nat_lt i (length l) && nat_lt j (length l)) None l (Gives done (swap l i j))
  Answers p n l (Replace i x) =
      InRange (nat_lt i (length l)) (Some x) l (Gives (item (slice_get l i)) (slice_set l i x))
  Answers p n l Clear = Gives done []
  Answers p n l Linearize = Gives done l
  Answers p n l (ExtendBack v) = Gives done (extended_back p n l v.items)
  Answers p n l (ExtendFront v) = Gives done (extended_front p n l v.items)
  Answers p n l (Extend v) = Gives done (extended_back p n l v.items)
  Answers p n l (Drain from to) = InRange (nat_le from to && nat_le to (length l)) None l
      (OrNoMemory (nat_lt from to) l
      (Gives (drained (slice_range l from to)) (remove_range l from to)))
  Answers p n l (SplitOff at) = InRange (nat_le at (length l)) None l
      (OrNoMemory (nat_lt 0 n) l (Gives (split (drop at l)) (take at l)))
  Answers p n l Len = Gives (number (length l)) l
  Answers p n l Capacity = Gives (number n) l
  Answers p n l IsEmpty = Gives (truth (length l == 0)) l
  Answers p n l IsFull = Gives (truth (length l == n)) l
