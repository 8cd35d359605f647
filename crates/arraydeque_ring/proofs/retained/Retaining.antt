-- How far a retain has come: the answers so far, the items as they were left, what the places hold by them, and what it
-- has cost. What its closure told is a parameter: `Asked` for `retain`, and for `retain_mut` `Written`, of `Writing`.
use Rattle.std.{
  proofs.{
    Common.{◌≡◌, ℕ, suc, ◌+◌, ◌<◌, ◌≤◌, List, [], ◌∷◌, ◌++◌, length, take, drop, set, replicate},
    Common.{slice_get, nat_lt, Option, Some, None, Bool, true, false, not, cond, count_by},
    Common.{refl, sym, ap, ◌∙◌, arith},
    lemmas.{
      List.{length_push, length-set, length-take-le, length-replicate, take_all, take_more, drop_all},
      List.{append-nil, get_or-set_same, get_or-set_other, set-get_or, set-set},
      List.Sums.{sum_by_push, sum_by-cons},
      Option.{get_or_from_slice_get, slice_get_within},
    },
    Retain.answers_push,
  },
  specs.List.{items_where_true, Retain.ReturnsInTurn},
}
use Rattle.arraydeque_ring.{
  proofs.{
    gaps.Gapped.{Gapped, Gapped-none, Gapped-put, Gapped-take, IsEmpty-gap, held_behind},
    gaps.Gapped.LaidOut-gap_last,
    Opened.{Shows, shows},
    places.{Items.slice_get_some, LaidOut.LaidOut},
    retained.First.{until_goes, all_stay, picked_front, none_goes, none_moved},
  },
  specs.{
    Places.{held_at, IsFilled, IsEmpty},
    Retained.{answers_until, count_moved, Retains},
    Ring.{RingState, place_of},
    Steps.{Steps, more_takes, more_moves},
  },
}

-- the items that stay by the answers and those that go are as many as these
kept_and_gone : {X : Type 0} (bs : List Bool) (xs : List X) → length bs ≤ length xs
    → length (items_where_true bs xs) + count_by not bs ≡ length bs
kept_and_gone [] xs le = refl
kept_and_gone (b ∷ bs) [] le = absurd (omega arith)
kept_and_gone (true ∷ bs) (x ∷ xs) le = omega (arith, kept_and_gone bs xs (omega arith))
kept_and_gone (false ∷ bs) (x ∷ xs) le =
    omega (arith, kept_and_gone bs xs (omega arith), sum_by-cons (λ b. cond (not b) 1 0) false bs)

-- one more to count
count_by-push : (p : Bool → Bool) (bs : List Bool) (b : Bool)
    → count_by p (bs ++ b ∷ []) ≡ count_by p bs + cond (p b) 1 0
count_by-push p bs b = sum_by_push (λ x. cond (p x) 1 0) bs b

-- one more that stays is moved if another has gone
moved-push : (bs : List Bool) (b : Bool)
    → count_moved (bs ++ b ∷ []) ≡ count_moved bs + cond b (cond (nat_lt 0 (count_by not bs)) 1 0) 0
moved-push [] true = refl
moved-push [] false = refl
moved-push (true ∷ bs) b = moved-push bs b
moved-push (false ∷ bs) b =
    grind (arith, count_by-push (λ b. b) bs b, sum_by-cons (λ b. cond (not b) 1 0) false bs)

-- for `grind`: one answer more
ruleset pushed = (length_push, count_by-push, moved-push)

-- one more item, which stays or goes
picked-push : {X : Type 0} (bs : List Bool) (xs : List X) (b : Bool) (x : X) → length bs ≡ length xs
    → items_where_true (bs ++ b ∷ []) (xs ++ x ∷ []) ≡ items_where_true bs xs ++ cond b (x ∷ []) []
picked-push [] [] true x e = refl
picked-push [] [] false x e = refl
picked-push [] (y ∷ xs) b x e = absurd (omega arith)
picked-push (a ∷ bs) [] b x e = absurd (omega arith)
picked-push (true ∷ bs) (y ∷ xs) b x e = ap (λ l. y ∷ l) (picked-push bs xs b x (omega arith))
picked-push (false ∷ bs) (y ∷ xs) b x e = picked-push bs xs b x (omega arith)

-- a retain of len items has asked about the first `index` of them, which are left as `left`: `kept` of those stay, in
-- front, and the others are gone; the steps would be `before` without these takes and moves
pub record SoFar {X : Type 0} (Told : List Bool → List X → Type 0) (items : List X) (before : Steps)
    (n t len index kept : ℕ) (ps : List (Option X)) (steps : Steps) : Type 0 where
  pub all : len ≡ length items
  pub answers : List Bool
  pub left : List X
  pub told : Told answers left
  pub asked : length answers ≡ index
  pub each_left : length left ≡ index
  pub stay : length (items_where_true answers left) ≡ kept
  pub places : Gapped n t (items_where_true answers left) (count_by not answers) (drop index items) ps
  pub cost : steps ≡ more_takes (count_by not answers) (more_moves (count_moved answers) before)

-- the first k items stay, and nothing changes
pub first_stay : {X : Type 0} {Told : List Bool → List X → Type 0} {items : List X} {before : Steps} {n t len : ℕ}
    {ps : List (Option X)} {steps : Steps} (k : ℕ) → LaidOut n t items ps → len ≡ length items → k ≤ len
    → steps ≡ before → Told (replicate k true) (take k items) → SoFar Told items before n t len k k ps steps
first_stay {items = items} k l all le same told =
    let front = length-take-le k items (omega arith) in
    let stay = picked_front k (take k items) ∙ take_all k (take k items) (omega arith) in
    let split = Gapped-none l k (omega arith) in
    grind (arith, told, front, stay, split, length-replicate, none_goes k, none_moved k)

module _ {X : Type 0} {Told : List Bool → List X → Type 0} {items : List X} {before : Steps} {n t len index kept : ℕ}
    {ps : List (Option X)} {steps : Steps} (s : SoFar Told items before n t len index kept ps steps) where
  abbrev bs : List Bool
  bs = s.answers

  abbrev ks : List X
  ks = items_where_true bs s.left

  -- the items asked about stay or are gone
  pub counted : kept + count_by not s.answers ≡ index
  counted = omega (arith, kept_and_gone bs s.left (omega arith))

  -- all have been asked about
  pub all_asked : len ≤ index → Shows n t kept ks ps
  all_asked past = shows (LaidOut-gap_last (rw (drop_all index items (omega arith)) at s.places)) kept s.stay

  module _ (lt : index < len) where
    abbrev src : ℕ
    src = place_of t index n

    abbrev dst : ℕ
    dst = place_of t kept n

    next_held : held_at ps src ≡ slice_get items index
    next_held = held_behind items index index s.places (omega (arith, counted)) (omega arith)

    pub next_filled : IsFilled ps src
    next_filled = let some = slice_get_some items index (omega arith) in (some.0, next_held ∙ some.1)

    -- what stands there is the item in turn
    pub next_asked : (x : X) → held_at ps src ≡ Some x → slice_get items (length bs) ≡ Some x
    next_asked x held = grind (arith, next_held)

    -- and nothing is written
    pub unwritten : (x : X) → held_at ps src ≡ Some x → ps ≡ set ps src (Some x)
    unwritten x held = rw (← held) (sym (set-get_or ps src None))

    -- once y is written there, or was there
    module _ (y : X) {qs : List (Option X)} (is : qs ≡ set ps src (Some y)) where
      is_there : held_at qs src ≡ Some y
      is_there = grind (arith, get_or-set_same, counted)

      pub written_filled : IsFilled qs src
      written_filled = (y, is_there)

      pub gap_empty : kept < index → IsEmpty qs dst
      gap_empty some = grind (arith, counted, next_filled, IsEmpty-gap, length-set, get_or-set_other)

      picked : (b : Bool) → items_where_true (bs ++ b ∷ []) (s.left ++ y ∷ []) ≡ ks ++ cond b (y ∷ []) []
      picked b = picked-push bs s.left b y (omega arith)

      taken : Gapped n t ks (suc (count_by not bs)) (drop (index + 1) items) (set qs src None)
      taken = rw (is, set-set) (Gapped-take items index index s.places (omega (arith, counted)) (omega arith))

      -- it is answered, when the steps are `now`, and would be `after` without these takes and moves
      module _ {Next : List Bool → List X → Type 0} {after now : Steps}
          (cost : now ≡ more_takes (count_by not bs) (more_moves (count_moved bs) after)) where
        -- it stays, and moves to the gap's first place
        pub moves_up : Next (bs ++ true ∷ []) (s.left ++ y ∷ []) → kept < index
            → SoFar Next items after n t len (index + 1) (kept + 1) (set (set qs src None) dst (held_at qs src))
            (more_moves 1 now)
        moves_up told some = grind (arith, pushed, counted, picked, is_there, Gapped-put kept y taken s.stay)

        -- or stays in its place, if there is no gap
        pub stays_there : Next (bs ++ true ∷ []) (s.left ++ y ∷ []) → index ≤ kept
            → SoFar Next items after n t len (index + 1) (kept + 1) qs now
        stays_there told none = grind (arith, pushed, counted, picked, is, set-set, Gapped-put kept y taken s.stay)

        -- it goes
        pub goes : Next (bs ++ false ∷ []) (s.left ++ y ∷ [])
            → SoFar Next items after n t len (index + 1) kept (set qs src None) (more_takes 1 now)
        goes told = grind (arith, pushed, picked, append-nil, taken)

-- what `retain` was told: R answered in turn at the items asked about, false at one at least, and left each as it was
pub record Asked {F X : Type 0} (R : F → X → Bool → F → Type 0) (f : F) (items : List X) (g : F) (bs : List Bool)
    (left : List X) : Type 0 where
  pub in_turn : ReturnsInTurn R f bs items g
  pub some_gone : 0 < count_by not bs
  pub same : left ≡ take (length bs) items

-- at one item more
pub asked_next : {F X : Type 0} {R : F → X → Bool → F → Type 0} {f g h : F} {items : List X} {bs : List Bool}
    {left : List X} {x : X} {b : Bool} → Asked R f items g bs left → slice_get items (length bs) ≡ Some x → R g x b h
    → Asked R f items h (bs ++ b ∷ []) (left ++ x ∷ [])
asked_next told here called =
    grind (arith, pushed, told, answers_push, take_more, slice_get_within, get_or_from_slice_get)

module _ {F X : Type 0} (R : F → X → Bool → F → Type 0) (f g : F) where
  -- all k items stay, and nothing changes
  pub all_kept : (ring : RingState X) (k : ℕ) → k ≡ length ring.items
      → ReturnsInTurn R f (answers_until k (length ring.items)) ring.items g → Retains R f ring ring
  all_kept ring k all told =
      grind (arith, length-replicate, all_stay, none_goes, none_moved, picked_front, take_all)

  -- behind k items that stay, the first goes: what was told is told of all of these at once
  pub first_goes : (before : Steps) {items : List X} {n t len : ℕ} {ps : List (Option X)} (k : ℕ)
      → LaidOut n t items ps → len ≡ length items → k < len
      → ReturnsInTurn R f (answers_until k (length items)) items g
      → SoFar (Asked R f items g) items before n t len (k + 1) k (set ps (place_of t k n) None) (more_takes 1 before)
  unfolding first_stay
  first_goes before {items} k l all lt told =
      let x = slice_get_some items k (omega arith) in
      let none = first_stay {Told = λ bs left. Unit} {before = before} k l all (omega arith) refl tt in
      goes none lt x.0 (unwritten none lt x.0 (next_held none lt ∙ x.1)) none.cost
      (grind (arith, pushed, told, until_goes, length-replicate, take_more items k x.0, get_or_from_slice_get))
