-- A run of items from an iterator that is laid behind the last item or before the first, or there in
-- the places of others, and the loops that lay one run after another.
use Rattle.std.{
  proofs.{
    Common.{◌≡◌, ℕ, zero, suc, ◌+◌, ◌-◌, ◌*◌, ◌%◌, ◌<◌, ◌≤◌, inl, List, ◌++◌, length, take, drop},
    Common.{reverse, [], Bool, false, subst, ap, ◌∙◌, arith},
    lemmas.{
      Bool.Decides.nat_tests,
      List.{length-append, length-drop, length-reverse, length-take, take_all},
    },
    Math.Nat.add-mul-mod_self_right,
  },
  specs.declared.iter.Iterator.Ghosts,
}
use Rattle.arraydeque_ring.{
  proofs.{
    fills.{
      Displaced.{displaced_first, displaced_last},
      FromIterator.{Fills-as, Fills-both},
      InRows.{filled_back, filled_front},
    },
    Opened.{Opened, Kept, closed, items_within, kept, view},
    places.{
      Appended.{Holds-run, LaidOut-appended, IsEmptyRun-from, IsEmptyRun-behind},
      Holds.Holds-from,
      Items.items,
      LaidOut.{LaidOut, LaidOut-by, holds, IsFilledRun-LaidOut},
      Rotated.{MayStartAt, place_of_cases, place_of-zero},
    },
  },
  specs.{
    declared.ring.Ring.TheInside.Inside,
    Fills.{Fills, GoesOn},
    Places.{Region, empty_region},
    Ring.{RingState, place_of, up_by, down_by},
    Runs.{IsEmptyRun, with_run, IsFilledRun},
    Steps.{more_puts, more_takes},
  },
}

-- to go up by k places is to go to the place of index k
pub up_by-is : (k s n : ℕ) → s ≤ n - 1 → place_of s k n ≡ up_by k s n
up_by-is k s n le = grind (arith, place_of-zero s n le)

-- and down by k, to that of the index n - k
down_by-is : (k s n : ℕ) → s < n → k ≤ n → place_of s (n - k) n ≡ down_by k s n
down_by-is zero s n lt le = grind (arith, place_of_cases s n n (omega arith))
down_by-is (suc k) s zero lt le = absurd (omega arith)
down_by-is (suc k) s (suc p) lt le =
    let round : s + suc k * p ≡ s + (p - k) + k * suc p = omega arith in
    let is = ap (λ j. j % suc p) round ∙ add-mul-mod_self_right (s + (p - k)) k (suc p) in
    grind arith

-- what a loop has made of a ring v by the items that it took of an iterator, as the word says of them;
-- the region, of n places, is out of the fields r meanwhile
pub record Laying {S X : Type 0} (it : Ghosts S X) (word : List X → RingState X → RingState X) (v : RingState X)
    (from to : S) (ended : Bool) (n : ℕ) (r : Inside X) (slots : Region X) : Type 0 where
  pub all : n ≡ v.capacity
  pub out : r.slots ≡ empty_region 0
  pub count : ℕ
  pub so_far : Fills it.next_gives from to count ended (λ xs. Opened record r { slots = slots } (word xs v))
  pub goes : GoesOn it.can_next it.remaining from to ended
  -- which is said in so_far too, but found here
  pub kept : Kept record r { slots = slots }

module _ {S X : Type 0} {it : Ghosts S X} {word : List X → RingState X → RingState X} {v : RingState X} {n : ℕ}
    {r : Inside X} {slots : Region X} where
  -- before the first turn
  pub begun : {s : S} {left : Region X} → Opened r v → n ≡ length r.slots.places
      → record { region : slots ≡ r.slots; left : left ≡ empty_region 0 } → it.can_next s → v ≡ word [] v
      → Laying it word v s s false n record r { slots = left } slots
  begun o long moved may none = grind (arith, kept)

  -- a turn more, in which the items of `now` came
  pub more : {from mid to : S} {ended over : Bool} {m : ℕ} {P : List X → Type 0}
      (was : Laying it word v from mid ended n r slots) → ended ≡ false → (now : Fills it.next_gives mid to m over P)
      → GoesOn it.can_next it.remaining mid to over → {start len : ℕ} {new : Region X}
      → ((xs ys : List X) → word ys (word xs v) ≡ word (xs ++ ys) v)
      → Opened record r { slots = new; start = start; len = len } (word now.items (word was.so_far.items v))
      → Laying it word v from to over n record r { start = start; len = len } new
  more was on now goes both o = record {
    all = was.all;
    out = was.out;
    count = _;
    so_far = Fills-both _ was.so_far now _ on (subst (Opened _) (both was.so_far.items now.items) o);
    goes = λ some. let next = goes some in (next.0, λ f. next.1 ((was.goes on).1 f));
    kept = kept o;
  }

  -- what a fill promises where the iterator ended, or the ring is full
  pub filled : {from to : S} {ended : Bool} (was : Laying it word v from to ended n r slots)
      → let now = word was.so_far.items v in now.capacity ≡ v.capacity
      → length now.items ≡ length v.items + length was.so_far.items → (ended ≡ false → n ≤ r.len)
      → let new = view record r { slots = slots } in record {
        came : Fills it.next_gives from to (v.capacity - length v.items) ended (λ xs. new ≡ word xs v);
        within : length new.items ≤ new.capacity;
        goes : GoesOn it.can_next it.remaining from to ended;
      }
  filled was same long full = record {
    came = Fills-as _ was.so_far _ _ (omega arith) (λ on. let all = full on in omega arith) (λ xs. closed);
    within = items_within record r { slots = slots } was.kept;
    goes = was.goes;
  }

-- in an open ring, whose region has n places; the region is taken out, written, and put back
module _ {X : Type 0} {r : Inside X} {v : RingState X} (o : Opened r v) {n : ℕ} (all : n ≡ v.capacity) where
  -- behind the last item
  module _ (count : ℕ) {place : ℕ} (at : MayStartAt r.start r.len n place) (fits : place + count ≤ n)
      (room : r.len + count ≤ n) where
    lies : MayStartAt r.start (length v.items) v.capacity place
    lies = rw (all, ← o.len) at at

    pub empty_behind : IsEmptyRun r.slots.places place count
    empty_behind = IsEmptyRun-behind o.laid _ _ lies (omega arith) (omega arith)

    pub laid_back : (xs : List X) {new : Region X}
        → (length xs ≡ count) × (new.places ≡ with_run place xs r.slots.places)
        → new.steps ≡ more_puts count r.slots.steps
        → Opened record r { slots = new; len = r.len + count } (filled_back xs v)
    laid_back xs came steps = record {
      laid = rw came.1 (LaidOut-appended o.laid xs place lies (omega arith) (omega arith));
      len = omega (arith, length-append v.items xs);
      start = o.start;
      steps = grind arith;
    }

-- and in one of some places
module _ {X : Type 0} {r : Inside X} {v : RingState X} (o : Opened r v) {n : ℕ} (all : n ≡ v.capacity)
    (some : 0 < n) where
  -- in the places of the first items
  pub filled_first : r.len ≡ n → IsFilledRun r.slots.places r.start (n - r.start)
  filled_first full = IsFilledRun-LaidOut o.laid 0 _ _ (inl (omega arith)) (omega arith) (omega arith)

  pub laid_first : {count : ℕ} → r.len ≡ n → count ≤ n - r.start → {start : ℕ} → start ≡ (r.start + count) % n
      → (xs : List X) {new : Region X} → (length xs ≡ count) × (new.places ≡ with_run r.start xs r.slots.places)
      → new.steps ≡ more_puts count (more_takes count r.slots.steps)
      → Opened record r { slots = new; start = start } (displaced_first xs v)
  laid_first {count} full fits is xs came steps =
      let m = length xs in
      let long : length (drop m (v.items ++ xs)) ≡ r.len =
      omega (arith, length-drop m (v.items ++ xs), length-append v.items xs) in record {
        laid = rw (came.1, is, all, ← came.0) (LaidOut-by (omega arith)
            (Holds-from (Holds-run (holds o.laid) 0 _ xs (inl (omega arith)) (omega arith) (omega arith)) m
            (omega arith) (omega arith) (λ k lt. grind (arith, items, place_of_cases m k v.capacity (omega arith)))));
        len = long;
        start = grind (arith, up_by-is count r.start n);
        steps = grind arith;
      }

  -- in the places below `from`: before the first item, or in the places of the last ones
  module _ {count from : ℕ} (at : MayStartAt r.start (n - count) n (from - count)) (fits : count ≤ from)
      (within : from ≤ n) where
    last : MayStartAt r.start (v.capacity - count) v.capacity (from - count)
    last = rw all at at

    pub empty_before : count ≤ n - r.len → IsEmptyRun r.slots.places (from - count) count
    empty_before room = IsEmptyRun-from o.laid (v.capacity - count) _ _ (omega arith) last (omega arith)
        (omega arith)

    pub filled_last : r.len ≡ n → IsFilledRun r.slots.places (from - count) count
    filled_last full = IsFilledRun-LaidOut o.laid (v.capacity - count) _ _ last (omega arith) (omega arith)

    module _ {start : ℕ} (is : start ≡ (r.start + (n - count)) % n) (xs : List X) (new : Region X)
        (came : (length xs ≡ count) × (new.places ≡ with_run (from - count) (reverse xs) r.slots.places)) where
      down : start ≡ down_by (length xs) v.start v.capacity
      down = grind (arith, down_by-is count r.start n)

      -- the items go into these, before the others, and of a full list the last ones go out
      laid : LaidOut v.capacity start (take v.capacity (reverse xs ++ v.items)) new.places
      laid = let many = length-reverse xs ∙ came.0 in let j = v.capacity - count in rw (came.1, is, all)
          (LaidOut-by (omega (arith, length-take v.capacity (reverse xs ++ v.items)))
          (Holds-from (Holds-run (holds o.laid) j _ (reverse xs) last (omega arith) (omega arith)) j
          (omega arith) (omega arith)
          (λ k lt. grind (arith, nat_tests, items, place_of_cases j k v.capacity (omega arith)))))

      long : length (reverse xs ++ v.items) ≡ r.len + count
      long = omega (arith, length-append (reverse xs) v.items, length-reverse xs)

      pub laid_front : count ≤ n - r.len → new.steps ≡ more_puts count r.slots.steps
          → Opened record r { slots = new; start = start; len = r.len + count } (filled_front xs v)
      laid_front room steps = grind (arith, laid, take_all, long, down)

      pub laid_last : r.len ≡ n → new.steps ≡ more_puts count (more_takes count r.slots.steps)
          → Opened record r { slots = new; start = start } (displaced_last xs v)
      laid_last full steps = grind (arith, laid, long, length-take, down)
