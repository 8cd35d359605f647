-- Items of a ring in a row are lent, in one run of its places or in two: what the runs hold, and what the ring is after
-- any writing.
use Rattle.std.{
  proofs.{
    Common.{◌≡◌, ℕ, ◌+◌, ◌-◌, ◌≤◌, ◌⊎◌, inl, inr, List, [], ◌∷◌, ◌++◌, length, take, drop, Option},
    Common.{refl, sym, subst, ap, ◌∙◌, arith},
    lemmas.List.{nil_from_length, length-append, length-take-le, length-drop, drop-drop},
    lemmas.List.{take_all, drop_all},
    lemmas.List.{places, same_lists, append-nil, take_min, drop_min},
    Math.Seq.take-add,
  },
  specs.{List.splice, Prelude.min},
}
use Rattle.arraydeque_ring.{
  proofs.{
    loans.Placed.{as_many-same, as_many-twice, length-as_many, placed_nothing},
    Opened.Opened,
    places.{
      Appended.Holds-run,
      Filled.length_filled,
      Holds.Holds-same,
      Items.items,
      LaidOut.{LaidOut, LaidOut-by, holds, IsFilledRun-LaidOut, same_run},
      Rotated.MayStartAt,
    },
  },
  specs.{
    declared.ring.Ring.TheInside.Inside,
    Loans.place_from,
    Places.Region,
    Ring.RingState,
    RingLends.{rewritten, part_rewritten},
    Runs.{as_many, with_run, HoldsRun, IsFilledRun},
    Steps.more_lends,
  },
}

-- items are written instead of others, and then more behind them
pub splice-both : {X : Type 0} (xs us vs : List X) (i m : ℕ) → length us + length vs ≡ m → i + m ≤ length xs
    → splice (splice xs i (i + length us) us) (i + length us) (i + length us + length vs) vs
    ≡ splice xs i (i + m) (us ++ vs)
splice-both xs us vs i m all within = same_lists _ _ (grind (arith, places)) (λ k d lt. grind (arith, places))

module _ {X : Type 0} (xs ws : List X) (i m : ℕ) (many : length ws ≡ m) (within : i + m ≤ length xs) where
  -- there are as many items as before, and the part is what was written
  length_spliced : length (splice xs i (i + m) ws) ≡ length xs
  length_spliced = grind (arith, places)

  part_again : take m (drop i (splice xs i (i + m) ws)) ≡ ws
  part_again = same_lists _ _ (grind (arith, places)) (λ k d lt. grind (arith, places))

-- the same where the part is rewritten, cut or filled up to as many as it had
module _ {X : Type 0} (xs ws : List X) (i m : ℕ) (within : i + m ≤ length xs) where
  abbrev part : List X
  part = take m (drop i xs)

  as_long : length (as_many part ws) ≡ m
  as_long = length-as_many part ws ∙ length-take-le m (drop i xs) (omega (arith, length-drop i xs))

  pub length_rewritten : length (splice xs i (i + m) (as_many part ws)) ≡ length xs
  length_rewritten = length_spliced xs (as_many part ws) i m as_long within

  pub part_twice : as_many part (take m (drop i (splice xs i (i + m) (as_many part ws)))) ≡ as_many part ws
  part_twice = rw (part_again xs (as_many part ws) i m as_long within) (as_many-twice part ws)

-- and where the part is the whole list
module _ {X : Type 0} (xs : List X) (m : ℕ) where
  abbrev again : List X → List X
  again ws = splice xs 0 (0 + m) (as_many (take m xs) ws)

  pub all_written : (ws : List X) → m ≡ length xs → again (take m (again ws)) ≡ as_many xs ws
  all_written ws all =
      let us = as_many xs ws in let same = length-as_many xs ws in
      let whole : splice xs 0 (0 + m) us ≡ us = grind (arith, drop_all (0 + m) xs, append-nil) in
      rw (take_all m xs (omega arith), whole, take_all m us (omega arith), as_many-twice xs ws) whole

-- k items from the index i on are in a run from the place p on, or are none
module _ {X : Type 0} {n t : ℕ} {xs : List X} {ps : List (Option X)} (l : LaidOut n t xs ps) (i p k : ℕ)
    (within : i + k ≤ length xs) (fits : p + k ≤ n) (lies : (k ≡ 0) ⊎ MayStartAt t i n p) where
  -- the run is filled
  pub run_filled : IsFilledRun ps p k
  run_filled = elim lies [
    | inl none ↦ (omega (arith, l.length_is), ([], ap (λ j. take j (drop p ps)) none))
    | inr at ↦ IsFilledRun-LaidOut l i p k at within fits
  ]

  module _ (ys : List X) (held : HoldsRun ps p k ys) where
    pub run_length : length ys ≡ k
    run_length = length_filled ps p k (run_filled.0, (ys, held))

    -- what it holds are these items
    pub run_held : ys ≡ take k (drop i xs)
    run_held = elim lies [
      | inl none ↦ nil_from_length ys (run_length ∙ none) ∙ ap (λ j. take j (drop i xs)) (sym none)
      | inr at ↦ same_run l i p k ys at within fits held
    ]

  -- and as many may be written in their stead
  pub run_written : (us : List X) → length us ≡ k → LaidOut n t (splice xs i (i + length us) us) (with_run p us ps)
  run_written [] many = rw (placed_nothing i [] xs refl, placed_nothing p [] ps refl) l
  run_written (u ∷ us) many = elim lies [
    | inl none ↦ absurd (omega (arith, many, none))
    | inr at ↦ let room = l.within in LaidOut-by (grind (arith, places))
        (Holds-same (Holds-run (holds l) i p (u ∷ us) at (omega arith) (omega arith))
        (λ j lt. grind (arith, items, length-take-le i xs (omega arith))))
  ]

module _ {X : Type 0} where
  -- a ring over another region
  abbrev pub with_slots : Inside X → Region X → Inside X
  with_slots r w = record { slots = w; start = r.start; len = r.len }

  -- the part of all items
  module _ (v : RingState X) (m : ℕ) where
    -- what is written to it is written to the list
    pub all_rewritten : (xs : List X) → m ≡ length v.items
        → part_rewritten 0 m v (take m (part_rewritten 0 m v xs).items) ≡ rewritten v xs
    all_rewritten xs all i = record (rewritten v xs) { items = all_written v.items m xs all i }

    -- what is lent of it are all items, cut at the region's end
    pub all_lent : (xs ys : List X) → m ≡ length v.items → xs ++ ys ≡ take m v.items
        → length xs ≡ min m (v.capacity - place_from v.start 0 v.capacity)
        → (xs ++ ys ≡ v.items) × (length xs ≡ min (length v.items) (v.capacity - v.start))
    all_lent xs ys all joined cut = (joined ∙ take_all m v.items (omega arith), grind arith)

  module _ {r : Inside X} {v : RingState X} (o : Opened r v) where
    abbrev ps : List (Option X)
    ps = r.slots.places

    -- the ring is whole with other items in its places, as many as before
    whole_after : (lends : ℕ) {xs : List X} {qs : List (Option X)} → LaidOut v.capacity r.start xs qs
        → length xs ≡ length v.items
        → Opened (with_slots r (record { places = qs; steps = more_lends lends r.slots.steps }))
        (record v { items = xs; steps = more_lends lends v.steps })
    whole_after lends l many = record {
      laid = l;
      len = many ∙ o.len;
      start = o.start;
      steps = ap (more_lends lends) o.steps;
    }

    -- the part of m items from the index i on
    module _ (i m : ℕ) (within : i + m ≤ length v.items) where
      abbrev p : ℕ
      p = place_from r.start i (length ps)

      -- its first items lie up to the region's end, or are all; the others go on from the first place
      abbrev first : ℕ
      first = min m (length ps - p)

      abbrev rest : ℕ
      rest = m - first

      -- where the first run starts, and that it ends within the region
      starts : MayStartAt r.start i v.capacity p
      starts = let long = o.laid.length_is in let region = o.laid.in_region in grind arith

      fits : p + first ≤ v.capacity
      fits = let long = o.laid.length_is in let room = o.laid.within in let region = o.laid.in_region in grind arith

      -- where the rest start, if there are any
      goes_on : (rest ≡ 0) ⊎ MayStartAt r.start (i + first) v.capacity 0
      goes_on = let long = o.laid.length_is in let room = o.laid.within in let region = o.laid.in_region in grind arith

      -- the two runs are filled
      pub first_filled : IsFilledRun ps p first
      first_filled = run_filled o.laid i p first (omega arith) fits (inr starts)

      -- and that they end within the region
      behind : 0 + rest ≤ v.capacity
      behind = omega (arith, o.laid.within)

      pub rest_filled : IsFilledRun ps 0 rest
      rest_filled = run_filled o.laid (i + first) 0 rest (omega arith) behind goes_on

      module _ (xs ys : List X) (held : HoldsRun ps p first xs) (held' : HoldsRun ps 0 rest ys) where
        -- how many each run holds
        first_length : length xs ≡ first
        first_length = run_length o.laid i p first (omega arith) fits (inr starts) xs held

        rest_length : length ys ≡ rest
        rest_length = run_length o.laid (i + first) 0 rest (omega arith) behind goes_on ys held'

        -- what they hold, joined, are these items
        pub lent_part : xs ++ ys ≡ take m (drop i v.items)
        lent_part = let all : first + rest ≡ m = omega arith in rw (
          run_held o.laid i p first (omega arith) fits (inr starts) xs held,
          run_held o.laid (i + first) 0 rest (omega arith) behind goes_on ys held',
          ← drop-drop first i v.items,
          ← take-add first rest (drop i v.items),
          all,
        ) refl

        -- where a contract says that the first ends, and when the second is empty
        pub cut : length xs ≡ min m (v.capacity - place_from v.start i v.capacity)
        cut = grind (arith, first_length, o.start, o.laid.length_is)

        pub one_piece : v.start + length v.items ≤ v.capacity → ys ≡ []
        one_piece inside = let room = o.laid.within in let region = o.laid.in_region in
            nil_from_length ys (grind (arith, rest_length, o.start, o.laid.length_is, starts))

        -- once both were written the ring is whole, and its items are those that were written, and the others
        pub part_after : (us vs : List X) → let ws = as_many xs us ++ as_many ys vs in Opened (with_slots r (record {
          places = with_run 0 (as_many ys vs) (with_run p (as_many xs us) ps);
          steps = more_lends 2 r.slots.steps;
        })) (part_rewritten i m v (take m (drop i (part_rewritten i m v ws).items)))
        part_after us vs =
            let us' = as_many xs us in let vs' = as_many ys vs in let ws = us' ++ vs' in
            let part = take m (drop i v.items) in
            let long : length part ≡ m = length-take-le m (drop i v.items) (omega (arith, length-drop i v.items)) in
            let front : length us' ≡ first = length-as_many xs us ∙ first_length in
            let back : length vs' ≡ rest = length-as_many ys vs ∙ rest_length in
            let many : length ws ≡ m = omega (arith, length-append us' vs') in
            let kept = length_spliced v.items us' i (length us') refl (omega arith) in
            let one = run_written o.laid i p first (omega arith) fits (inr starts) us' front in
            let goes = subst (λ j. (rest ≡ 0) ⊎ MayStartAt r.start (i + j) v.capacity 0) (sym front) goes_on in
            let both = run_written one (i + length us') 0 rest (omega (arith, kept)) behind goes vs' back in
            let joined = splice-both v.items us' vs' i m (omega arith) within in
            let whole = as_many-same part ws (many ∙ sym long) in
            rw (whole, part_again v.items ws i m many within, whole)
            (whole_after 2 (rw joined at both) (length_spliced v.items ws i m many within))

    -- the first of the two slices has the items up to the region's end, or all, and the second the others
    module _ (k : ℕ) (is : k ≡ min r.len (length ps - r.start)) where
      -- the first slice ends within the list and the region, and starts where the list does
      within : 0 + k ≤ length v.items
      within = omega (arith, o.len)

      to_end : r.start + k ≤ v.capacity
      to_end = let long = o.laid.length_is in let region = o.laid.in_region in omega arith

      front : MayStartAt r.start 0 v.capacity r.start
      front = inl (omega arith)

      -- so does the second, which starts at the first place
      both : k + (r.len - k) ≤ length v.items
      both = omega (arith, o.len)

      from_first : 0 + (r.len - k) ≤ v.capacity
      from_first = omega (arith, o.len, o.laid.within)

      back : (r.len - k ≡ 0) ⊎ MayStartAt r.start k v.capacity 0
      back = let long = o.laid.length_is in let region = o.laid.in_region in grind arith

      -- how many the first has, as a contract says it
      cut_is : k ≡ min (v.capacity - v.start) (length v.items)
      cut_is = omega (arith, o.len, o.start, o.laid.length_is)

      -- both are filled
      pub front_filled : IsFilledRun ps r.start k
      front_filled = run_filled o.laid 0 r.start k within to_end (inr front)

      pub back_filled : IsFilledRun ps 0 (r.len - k)
      back_filled = run_filled o.laid k 0 (r.len - k) both from_first back

      module _ (xs : List X) (held : HoldsRun ps r.start k xs) where
        -- what the first holds, and the ring once that was written
        pub front_held : xs ≡ take (v.capacity - v.start) v.items
        front_held =
            let here = run_held o.laid 0 r.start k within to_end (inr front) xs held in
            here ∙ ap (λ j. take j v.items) cut_is ∙ take_min (v.capacity - v.start) v.items

        pub front_after : (ws : List X) → Opened (with_slots r (record {
          places = with_run r.start (as_many xs ws) ps;
          steps = more_lends 1 r.slots.steps;
        })) (record v { items = as_many xs ws ++ drop (length xs) v.items; steps = more_lends 1 v.steps })
        front_after ws =
            let us = as_many xs ws in
            let long = run_length o.laid 0 r.start k within to_end (inr front) xs held in
            let laid = run_written o.laid 0 r.start k within to_end (inr front) us (length-as_many xs ws ∙ long) in
            let many : 0 + length us ≡ length xs = omega (arith, length-as_many xs ws) in
            whole_after 1 (rw many at laid) (grind (arith, length-append, length-drop, within))

      module _ (ys : List X) (held : HoldsRun ps 0 (r.len - k) ys) where
        -- the same of the second
        pub back_held : ys ≡ drop (v.capacity - v.start) v.items
        back_held =
            let here = run_held o.laid k 0 (r.len - k) both from_first back ys held in
            let all = take_all (r.len - k) (drop k v.items) (omega (arith, o.len, length-drop k v.items)) in
            here ∙ all ∙ ap (λ j. drop j v.items) cut_is ∙ drop_min (v.capacity - v.start) v.items

        pub back_after : (ws : List X) → Opened (with_slots r (record {
          places = with_run 0 (as_many ys ws) ps;
          steps = more_lends 1 r.slots.steps;
        })) (record v {
          items = take (length v.items - length ys) v.items ++ as_many ys ws;
          steps = more_lends 1 v.steps;
        })
        back_after ws =
            let vs = as_many ys ws in
            let long = run_length o.laid k 0 (r.len - k) both from_first back ys held in
            let many = length-as_many ys ws ∙ long in
            let laid = run_written o.laid k 0 (r.len - k) both from_first back vs many in
            let none = drop_all (k + length vs) v.items (omega (arith, many, o.len, within)) in
            let first : k ≡ length v.items - length ys = omega (arith, long, o.len, within) in
            whole_after 1 (rw (none, append-nil vs, first) at laid)
            (omega (
              arith,
              length-append (take (length v.items - length ys) v.items) vs,
              many,
              length-take-le (length v.items - length ys) v.items (omega arith),
            ))
