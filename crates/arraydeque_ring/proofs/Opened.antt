-- What the fields of an open ring say of the value that its contracts see.
use Rattle.std.{
  proofs.{
    Common.{◌≡◌, ℕ, zero, suc, ◌+◌, ◌-◌, ◌<◌, ◌≤◌, ◌==◌, [], ◌∷◌, ◌++◌, length, take, drop, set},
    Common.{swap, slice_get, Some, None, refl, subst, sym, ap, ◌∙◌, arith, inl, inr, Option, List},
    Common.replicate,
    lemmas.{
      Grind.take_at_read,
      List.{length_push, length-append, length-take, length-take-le, length-drop, length-set},
      List.{nil_from_length, take_all, take_rest, take-append-drop, drop_all, append_assoc},
      List.{append-nil, Edits.length-swap},
      Option.slice_get_past,
    },
    Math.Nat.mod-eq_of_lt,
  },
  specs.List.splice,
}
use Rattle.arraydeque_ring.{
  proofs.{
    gaps.{
      GapMoves.{may_close, Gapped-behind, Gapped-before, gap_moves},
      Gapped.{Gapped, Gapped-taken, Gapped-taken_one, LaidOut-gap_first, LaidOut-gap_last},
      Gapped.LaidOut-put,
    },
    LastPopped.last_and_rest,
    loans.Placed.length-as_many,
    places.{
      Appended.{LaidOut-appended, LaidOut-written, LaidOut-new, IsEmptyRun-behind},
      Handed.handed,
      LaidOut.{LaidOut, LaidOut-values, values-LaidOut, FilledFrom-LaidOut, LaidOut-nothing},
      LaidOut.{LaidOut-take_front, held_at-start, IsFilled-start, AreAllEmpty-LaidOut},
      LaidOut.{IsFilled-place_of, HoldsRun-rotated, IsFilledRun-LaidOut, HoldsRun-LaidOut},
      LaidOut.{same_run, LaidOut-set, LaidOut-swap},
      Rotated.{MayStartAt, MayStartAt-place_of, place_of-first, place_of-zero, place_of-lt},
      Rotated.{one_place, place_of_cases, place_of-sum, length-rotated},
    },
  },
  specs.{
    declared.ring.Ring.TheInside.Inside,
    Gaps.{MayClose, first_closed, gap_moved},
    Places.{held_at, IsFilled, AreAllEmpty},
    Ring.{RingState, place_of, rotated, values, filled, FilledFrom},
    Runs.{HoldsRun, IsFilledRun, IsEmptyRun, run_emptied, with_run},
  },
}

module _ {X : Type 0} where
  -- the fields r hold the ring v
  pub record Opened (r : Inside X) (v : RingState X) : Type 0 where
    pub laid : LaidOut v.capacity r.start v.items r.slots.places
    pub len : length v.items ≡ r.len
    pub start : r.start ≡ v.start
    pub steps : r.slots.steps ≡ v.steps

  abbrev pub view : Inside X → RingState X
  view r = record {
    items = values (rotated r.start r.slots.places);
    capacity = length r.slots.places;
    start = r.start;
    steps = r.slots.steps;
  }

  abbrev pub Kept : Inside X → Type 0
  Kept r = (r.start ≤ length r.slots.places - 1) × FilledFrom r.start r.len (filled r.slots.places)

  -- from the model's invariant and view
  pub opened : (r : Inside X) {v : RingState X} → Kept r → view r ≡ v → Opened r v
  opened r kept is =
      let laid = LaidOut-values r.start r.len r.slots.places kept.0 kept.1 in
      subst (Opened r) is (record { laid = laid.0; len = laid.1; start = refl; steps = refl })

  -- and back
  pub closed : {r : Inside X} {v : RingState X} → Opened r v → view r ≡ v
  closed o = rw (values-LaidOut o.laid, o.laid.length_is, o.start, o.steps)

  pub kept : {r : Inside X} {v : RingState X} → Opened r v → Kept r
  kept {r = r} o = (rw o.laid.length_is o.laid.in_region, FilledFrom-LaidOut o.laid r.len o.len)

  -- what is known of the numbers, for every goal of the ring
  pub bounds : (r : Inside X) (v : RingState X) → Kept r → view r ≡ v → (view r ≡ v) × (length v.items ≡ r.len)
      × (r.len ≤ length r.slots.places) × (v.capacity ≡ length r.slots.places) × (v.start ≡ r.start)
  bounds r v kept is = let o = opened r kept is in
      (is, o.len, omega arith, omega arith, omega arith)

-- where the places ps hold the items xs, laid out from the place t on, what the invariant and the view say of ps
abbrev pub Shows : {X : Type 0} → ℕ → ℕ → ℕ → List X → List (Option X) → Type 0
Shows n t len xs ps =
    (length ps ≡ n) × (t ≤ length ps - 1) × FilledFrom t len (filled ps) × (values (rotated t ps) ≡ xs)

pub shows : {X : Type 0} {n t : ℕ} {xs : List X} {ps : List (Option X)} → LaidOut n t xs ps → (len : ℕ)
    → length xs ≡ len → Shows n t len xs ps
shows l len many = (l.length_is, rw l.length_is l.in_region, FilledFrom-LaidOut l len many, values-LaidOut l)

-- the same of any places ps that are qs. The equation comes once more, as the first part of what is shown, by which
-- `grind` finds it.
abbrev pub Become : {X : Type 0} → ℕ → ℕ → ℕ → List X → List (Option X) → Type 0
Become {X} n t len xs qs = (ps : List (Option X)) → ps ≡ qs → (ps ≡ qs) × Shows n t len xs ps

pub become : {X : Type 0} {n t : ℕ} {xs : List X} {qs : List (Option X)} → LaidOut n t xs qs → (len : ℕ)
    → length xs ≡ len → Become n t len xs qs
become l len many ps is = (is, rw is (shows l len many))

-- a new region shows the empty list
pub nothing_laid : {X : Type 0} (n : ℕ) → (replicate {A = Option X} n None ≡ replicate n None)
    × Shows {X = X} n 0 0 [] (replicate n None)
nothing_laid n = (refl, shows (LaidOut-nothing n) 0 refl)

-- and items that are written to it from the first place on
pub new_laid : {X : Type 0} (xs : List X) (n : ℕ) → length xs ≤ n
    → Shows n 0 (length xs) xs (with_run 0 xs (replicate n None))
new_laid xs n within = shows (LaidOut-new xs n within) _ refl

-- the gap that m items from the index a up to b left in the places qs: it may be closed, and what is shown then
pub record Closing {X : Type 0} (t n a m b len : ℕ) (items : List X) (qs : List (Option X)) : Type 0 where
  pub length_is : length qs ≡ n
  pub may : MayClose t a m (len - m - a) qs
  pub closed : (s : ℕ) (ps : List (Option X)) → s ≡ first_closed a m (len - m - a) (length qs) t
      → rotated s ps ≡ gap_moved a (a + (len - m - a)) m (rotated t qs)
      → Shows n s (len - m) (take a items ++ drop b items) ps

module _ {X : Type 0} {r : Inside X} {v : RingState X} (o : Opened r v) where
  gap_left : (a m b : ℕ) (qs : List (Option X)) → a + m ≡ b → 0 < m → b ≤ length v.items
      → Gapped v.capacity r.start (take a v.items) m (drop b v.items) qs
      → Closing r.start v.capacity a m b r.len v.items qs
  gap_left a m b qs all some le p =
      let front = length-take-le a v.items (omega arith) in
      let back = length-drop b v.items in
      let both = length-append (take a v.items) (drop b v.items) in
      record {
        length_is = p.reads.length_is;
        may = may_close p _ _ some front (omega arith);
        closed = λ s ps here is. shows (LaidOut-gap_last (gap_moves p a (a + (r.len - m - a)) front s ps
            (append-nil (take a v.items ++ drop b v.items)) (omega arith) (grind (arith, here)) is)) _ (omega arith);
      }

  pub run_taken : (a b : ℕ) (qs : List (Option X)) → a < b → b ≤ length v.items
      → rotated r.start qs ≡ run_emptied a (b - a) (rotated r.start r.slots.places)
      → Closing r.start v.capacity a (b - a) b r.len v.items qs
  run_taken a b qs some le out = let on : a + (b - a) ≡ b = omega arith in
      gap_left a (b - a) b qs on (omega arith) le (rw on at (Gapped-taken o.laid a (b - a) qs (omega arith) out))

  pub one_taken : (k : ℕ) (qs : List (Option X)) → k < length v.items
      → qs ≡ set r.slots.places (place_of r.start k v.capacity) None
      → Closing r.start v.capacity k 1 (suc k) r.len v.items qs
  one_taken k qs lt out = gap_left k 1 (suc k) qs (omega arith) (omega arith) lt (rw out (Gapped-taken_one o.laid k lt))

-- what is known of the fields alone, for goals that have no answer by hand
module _ {X : Type 0} (r : Inside X) (kept : Kept r) where
  abbrev places : List (Option X)
  places = r.slots.places

  abbrev n : ℕ
  n = length places

  abbrev items : List X
  items = values (rotated r.start places)

  laid : LaidOut n r.start items places
  laid = (opened r kept refl).laid

  len : length items ≡ r.len
  len = (opened r kept refl).len

  pub items_within : length items ≤ n
  items_within = laid.within

  pub at_index : (k : ℕ) → k < n → held_at places (place_of r.start k n) ≡ slice_get items k
  at_index k lt = laid.at k lt

  pub at_start : 0 < r.len → held_at places r.start ≡ slice_get items 0
  at_start some = held_at-start laid (omega (arith, len, laid.within))

  pub is_filled : (k : ℕ) → k < r.len
      → (place_of r.start k n ≡ place_of r.start k n) × IsFilled places (place_of r.start k n)
  is_filled k lt = (refl, IsFilled-place_of laid k (omega (arith, len)))

  pub first_filled : 0 < r.len → IsFilled places r.start
  first_filled some = IsFilled-start laid (omega (arith, len))

  pub past_items : (k : ℕ) → r.len ≤ k → k < n
      → (held_at places (place_of r.start k n) ≡ None) × (place_of r.start k n < n)
  past_items k past lt = grind (arith, laid, slice_get_past, len)

  pub next_place : r.start + 1 < n → place_of r.start 1 n ≡ r.start + 1
  next_place lt = mod-eq_of_lt lt

  pub no_items : r.len ≡ 0 → (items ≡ []) × AreAllEmpty places
  no_items none = (nil_from_length items (len ∙ none), AreAllEmpty-LaidOut laid (len ∙ none))

  -- an item is put at an end, or taken off there
  pub back_put : (place : ℕ) (x : X) → r.len < n → place ≡ place_of r.start r.len n
      → Become n r.start (r.len + 1) (items ++ x ∷ []) (set places place (Some x))
  back_put place x room is = become (rw is (LaidOut-put r.len x (Gapped-behind laid (omega (arith, len))) len)) _
      (omega (arith, len, length_push items x))

  -- where the list starts at the first place, that is the place of its length
  pub next_free : r.start ≡ 0 → r.len < n → (held_at places r.len ≡ None) × (r.len < n)
  next_free first room =
      let here : place_of r.start r.len n ≡ r.len = rw first (place_of-first r.len n room) in
      (rw here at (past_items r.len (omega arith) room).0, room)

  pub next_put : (x : X) → r.start ≡ 0 → r.len < n
      → Become n r.start (r.len + 1) (items ++ x ∷ []) (set places r.len (Some x))
  next_put x first room = back_put r.len x room (rw first (sym (place_of-first r.len n room)))

  pub front_put : (place : ℕ) (x : X) → r.len < n → place ≡ place_of r.start (n - 1) n
      → Become n place (r.len + 1) (x ∷ items) (set places place (Some x))
  front_put place x room is =
      let gap = Gapped-before laid (omega (arith, len)) in
      become (rw is (rw (place_of-zero _ n gap.reads.in_region) at (LaidOut-put 0 x gap refl))) _ (omega (arith, len))

  pub back_taken : (place : ℕ) → 0 < r.len → place ≡ place_of r.start (r.len - 1) n
      → Become n r.start (r.len - 1) (take (r.len - 1) items) (set places place None)
  back_taken place some is =
      become (rw is (LaidOut-gap_last (rw (drop_all (suc (r.len - 1)) items (omega (arith, len))) at
      (Gapped-taken_one laid (r.len - 1) (omega (arith, len)))))) _
      (length-take-le (r.len - 1) items (omega (arith, len)))

  pub front_taken : (place : ℕ) → 0 < r.len → place ≡ r.start
      → Become n (place_of r.start 1 n) (r.len - 1) (drop 1 items) (set places place None)
  front_taken place some is =
      become (rw is (LaidOut-take_front laid (omega (arith, len)))) _ (omega (arith, len, length-drop 1 items))

  -- in a full ring one comes in at an end, in the place of the one at the other, which goes
  pub first_replaced : (place : ℕ) (x : X) → 0 < r.len → r.len ≡ n → place ≡ r.start
      → Become n (place_of r.start 1 n) r.len (drop 1 items ++ x ∷ []) (set (set places place None) place (Some x))
  first_replaced place x some full is =
      let long = length-drop 1 items in
      let here : place_of (place_of r.start 1 n) (r.len - 1) n ≡ r.start =
      grind (arith, place_of-sum r.start 1 (r.len - 1) n, place_of_cases r.start n n, place_of-zero r.start n) in
      let taken = LaidOut-take_front laid (omega (arith, len)) in
      let put = LaidOut-put (r.len - 1) x (Gapped-behind taken (omega (arith, len, long))) (omega (arith, len, long)) in
      rw is (become (rw here at put) _ (omega (arith, len, long, length_push (drop 1 items) x)))

  pub last_replaced : (place : ℕ) (x : X) → 0 < r.len → r.len ≡ n → place ≡ place_of r.start (n - 1) n
      → Become n place r.len (x ∷ take (n - 1) items) (set (set places place None) place (Some x))
  last_replaced place x some full is =
      let long = length-take-le (n - 1) items (omega (arith, len)) in
      let taken = LaidOut-gap_last (rw (drop_all (suc (n - 1)) items (omega (arith, len))) at
      (Gapped-taken_one laid (n - 1) (omega (arith, len)))) in
      let gap = Gapped-before taken (omega (arith, long)) in
      rw is (become (rw (place_of-zero _ n gap.reads.in_region) at (LaidOut-put 0 x gap refl)) _ (omega (arith, long)))

  -- one takes the place of another
  pub item_set : (k : ℕ) (x : X) → k < r.len
      → Become n r.start r.len (set items k x) (set places (place_of r.start k n) (Some x))
  item_set k x lt = become (LaidOut-set laid k x (omega (arith, len))) _ (length-set items k x ∙ len)

  -- two are exchanged
  pub swapped : (i j : ℕ) (ps : List (Option X)) → i < r.len → j < r.len
      → ps ≡ swap places (place_of r.start i n) (place_of r.start j n)
      → (ps ≡ swap places (place_of r.start i n) (place_of r.start j n))
      × ((place_of r.start i n == place_of r.start j n) ≡ (i == j)) × Shows n r.start r.len (swap items i j) ps
  swapped i j ps i_in j_in is = (
    is,
    one_place r.start i j n (omega arith) (omega (arith, len, laid.within)) (omega (arith, len, laid.within)),
    rw is (shows (LaidOut-swap laid i j (omega (arith, len)) (omega (arith, len))) _ (length-swap items i j ∙ len)),
  )

  -- those of a run of indexes stand in filled places
  pub run_filled : (i m : ℕ) → i + m ≤ r.len → IsFilledRun (rotated r.start places) i m
  run_filled i m le = (
    omega (arith, len, laid.within, length-rotated r.start places),
    (_, HoldsRun-rotated laid i m (omega (arith, len))),
  )

  pub all_filled : IsFilledRun (rotated r.start places) 0 r.len
  all_filled = run_filled 0 r.len (omega arith)

  -- the items from the index k on are dropped, the first ones, or all
  laid_before : (ps : List (Option X)) (k m : ℕ) → k + m ≡ r.len
      → rotated r.start ps ≡ run_emptied k m (rotated r.start places) → LaidOut n r.start (take k items) ps
  laid_before ps k m all out = LaidOut-gap_last (rw (drop_all (k + m) items (omega (arith, len))) at
      (Gapped-taken laid k m ps (omega (arith, len)) out))

  pub last_dropped : (ps : List (Option X)) (k m : ℕ) → k + m ≡ r.len
      → rotated r.start ps ≡ run_emptied k m (rotated r.start places)
      → (rotated r.start ps ≡ run_emptied k m (rotated r.start places)) × Shows n r.start k (take k items) ps
  last_dropped ps k m all out =
      (out, shows (laid_before ps k m all out) k (length-take-le k items (omega (arith, len))))

  pub first_dropped : (ps : List (Option X)) (m : ℕ) → m ≤ r.len
      → rotated r.start ps ≡ run_emptied 0 m (rotated r.start places)
      → Shows n (place_of r.start m n) (r.len - m) (drop m items) ps
  first_dropped ps m le out =
      let on : 0 + m ≡ m = omega arith in
      shows (rw on at (LaidOut-gap_first m (Gapped-taken laid 0 m ps (omega (arith, len)) out)))
      _ (omega (arith, len, length-drop m items))

  pub all_dropped : (ps : List (Option X)) → rotated r.start ps ≡ run_emptied 0 r.len (rotated r.start places)
      → (rotated r.start ps ≡ run_emptied 0 r.len (rotated r.start places)) × Shows n 0 0 [] ps
  all_dropped ps out = let none = laid_before ps 0 r.len (omega arith) out in
      (out, shows (rw (AreAllEmpty-LaidOut none refl, none.length_is) (LaidOut-nothing n)) 0 refl)

  -- or handed over to another region, which was empty
  pub run_handed : (i m k : ℕ) → i + m ≤ r.len → m ≤ k → Become k 0 m (take m (drop i items))
      (take m (drop i (rotated r.start places)) ++ drop m (replicate k None))
  run_handed i m k le room =
      let ys = take m (drop i items) in
      let many : 0 + length ys ≡ m = omega (arith, len, length-take m (drop i items), length-drop i items) in
      become (rw (HoldsRun-rotated laid i m (omega (arith, len))) (rw many at (LaidOut-new ys k (omega arith)))) _
      (omega arith)

  -- the first m items stand in one piece
  pub piece_filled : (m : ℕ) → m ≤ r.len → r.start + m ≤ n → IsFilledRun places r.start m
  piece_filled m le fits = IsFilledRun-LaidOut laid 0 r.start m (inl (omega arith)) (omega (arith, len)) fits

  -- what is read there are they
  pub piece_held : (m : ℕ) (xs : List X) → m ≤ r.len → r.start + m ≤ n → HoldsRun places r.start m xs
      → HoldsRun places r.start m xs × (xs ≡ take m items)
  piece_held m xs le fits held =
      (held, same_run laid 0 r.start m xs (inl (omega arith)) (omega (arith, len)) fits held)

  -- the others stand from the first place on, where these go as far as the region's end
  pub rest_filled : (m : ℕ) → m ≤ r.len → r.start + m ≡ n → IsFilledRun places 0 (r.len - m)
  rest_filled m le end = IsFilledRun-LaidOut laid m 0 (r.len - m) (inr (omega arith)) (omega (arith, len))
      (omega (arith, len, laid.within))

  pub rest_held : (m : ℕ) (xs : List X) → m ≤ r.len → r.start + m ≡ n → HoldsRun places 0 (r.len - m) xs
      → HoldsRun places 0 (r.len - m) xs × (xs ≡ drop m items)
  rest_held m xs le end held = (
    held,
    same_run laid m 0 (r.len - m) xs (inr (omega arith)) (omega (arith, len)) (omega (arith, len, laid.within)) held
        ∙ take_all (r.len - m) (drop m items) (omega (arith, len, length-drop m items)),
  )

  -- as many are written in their stead
  pub piece_written : (ws : List X) → length ws ≡ r.len → r.start + r.len ≤ n
      → Shows n r.start r.len ws (with_run r.start ws places)
  piece_written ws many fits = shows (LaidOut-written laid ws (omega (arith, len)) (omega arith)) _ many

  -- the first m items go
  pub piece_taken : (m : ℕ) → 0 < m → m ≤ r.len → r.start + m ≤ n
      → Shows n (place_of r.start m n) (r.len - m) (drop m items) (run_emptied r.start m places)
  piece_taken m some le fits =
      let none : m - m ≡ 0 = omega arith in
      let on : 0 + m ≡ m = omega arith in
      let parts = handed r.start 0 m n r.start m places refl laid.in_region some (run_filled 0 m (omega arith))
      (sym (place_of-zero r.start n laid.in_region)) (omega arith) in
      shows (rw on at (LaidOut-gap_first m (Gapped-taken laid 0 m _ (omega (arith, len)) (rw none at parts.places))))
      _ (omega (arith, length-drop m items, len))

  -- the place behind the last item
  abbrev behind : ℕ
  behind = place_of r.start r.len n

  module _ (m : ℕ) (fits : behind + m ≤ n) (room : r.len + m ≤ n) where
    lies : 0 < m → MayStartAt r.start (length items) n behind
    lies some = rw len (MayStartAt-place_of r.start r.len n (omega arith))

    pub behind_empty : 0 < m → IsEmptyRun places behind m
    behind_empty some = IsEmptyRun-behind laid behind m (lies some) fits (omega (arith, len))

    -- items come there
    pub piece_laid : (xs : List X) → length xs ≡ m → 0 < m
        → Become n r.start (r.len + m) (items ++ xs) (with_run behind xs places)
    piece_laid xs many some = become (LaidOut-appended laid xs behind (lies some) (omega arith) (omega (arith, len))) _
        (omega (arith, len, length-append items xs))

    -- the first m of another ring
    pub piece_joined : (o : Inside X) → Kept o → 0 < m → m ≤ o.len → o.start + m ≤ length o.slots.places
        → Become n r.start (r.len + m) (items ++ take m (values (rotated o.start o.slots.places)))
        (splice places behind (behind + m) (take m (drop o.start o.slots.places)))
    piece_joined o okept some le fits' =
        let other = opened o okept refl in
        let xs = take m (values (rotated o.start o.slots.places)) in
        let many : length xs ≡ m = length-take-le m _ (omega arith) in
        let held = HoldsRun-LaidOut other.laid 0 o.start m (inl (omega arith)) (omega arith) fits' in
        grind (arith, piece_laid)

  -- of the items ws the first m come behind the last one, and those that go round the end from the first place on
  module _ (ws : List X) (m : ℕ) (some : 0 < m) (le : m ≤ length ws) (fits : behind + m ≤ n)
      (room : r.len + length ws ≤ n) (end : m < length ws → behind + m ≡ n) where
    many : length (take m ws) ≡ m
    many = length-take-le m ws le

    all : (items ++ take m ws) ++ drop m ws ≡ items ++ ws
    all = append_assoc items (take m ws) (drop m ws) ∙ ap (λ l. items ++ l) (take-append-drop m ws)

    first_laid : LaidOut n r.start (items ++ take m ws) (with_run behind (take m ws) places)
    first_laid = LaidOut-appended laid (take m ws) behind (lies m fits (omega arith) some) (omega (arith, many))
        (omega (arith, len, many))

    starts_again : m < length ws → MayStartAt r.start (length (items ++ take m ws)) n 0
    starts_again more = grind (arith, len, many, length-append, place_of_cases)

    empty_again : (k : ℕ) → k ≡ length ws - m → IsEmptyRun (with_run behind (take m ws) places) 0 k
    empty_again zero is = (omega arith, refl)
    empty_again (suc k) is = IsEmptyRun-behind first_laid 0 (suc k) (starts_again (omega (arith, is)))
        (omega (arith, is)) (omega (arith, is, len, many, length-append items (take m ws)))

    pub rest_empty : IsEmptyRun (with_run behind (take m ws) places) 0 (length ws - m)
    rest_empty = empty_again _ refl

    laid_again : (ys : List X) → length ys ≡ length ws - m
        → LaidOut n r.start ((items ++ take m ws) ++ ys) (with_run 0 ys (with_run behind (take m ws) places))
    laid_again [] is = rw (append-nil (items ++ take m ws)) first_laid
    laid_again (y ∷ ys) is = LaidOut-appended first_laid (y ∷ ys) 0 (starts_again (omega (arith, is)))
        (omega (arith, is)) (omega (arith, is, len, many, length-append items (take m ws)))

    pub round_laid : Become n r.start (r.len + length ws) (items ++ ws)
        (with_run 0 (drop m ws) (with_run behind (take m ws) places))
    round_laid = become (rw all at (laid_again (drop m ws) (length-drop m ws))) _
        (omega (arith, len, length-append items ws))

-- for the goals of the ring that have no answer by hand
pub ruleset ring_facts = (bounds, items_within, nothing_laid, slice_get_past, place_of-lt)

-- and for those at one index or one end
pub ruleset end_facts = (
  bounds,
  at_index,
  at_start,
  first_filled,
  past_items,
  is_filled,
  item_set,
  next_place,
  no_items,
  swapped,
  back_put,
  front_put,
  back_taken,
  front_taken,
  slice_get_past,
  place_of-lt,
)

-- and where one comes into a full ring
pub ruleset full_facts = (
  bounds,
  at_index,
  at_start,
  first_filled,
  is_filled,
  first_replaced,
  last_replaced,
  last_and_rest,
  place_of-lt,
)

-- where items are dropped
pub ruleset drop_facts = (bounds, all_filled, last_dropped, all_dropped, take_all)

-- and where they are handed over to a new region
pub ruleset part_facts = (bounds, last_dropped, run_handed, take_rest)

-- or to another ring
pub ruleset join_facts = (bounds, behind_empty, piece_joined)

-- or come as copies
pub ruleset piece_facts = (bounds, behind_empty, rest_empty, round_laid, items_within, length-take-le)

-- items that come one by one from the first place on
pub ruleset copy_facts = (
  bounds,
  nothing_laid,
  next_free,
  next_put,
  take_at_read,
  take_all,
  append_assoc,
  append-nil,
  length-append,
  length-take,
)

-- and where they are lent in slices
pub ruleset slice_facts = (
  bounds,
  piece_filled,
  piece_held,
  rest_filled,
  rest_held,
  piece_written,
  length-as_many,
  take_all,
  append-nil,
  take-append-drop,
  length-append,
)
