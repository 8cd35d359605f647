-- What a `Ring` ends as, once a `&mut` into it has ended.
use Rattle.std.specs.{
  Borrow.{Fml, GName, RattleType, MutBor, Array, Lends, LendsIf, LendsBoth, fsep, follows},
  Borrow.follows_both,
  List.splice,
  Prelude.{ℕ, ◌+◌, ◌-◌, List, ◌++◌, length, take, drop, slice_set, Option},
}
use Rattle.arraydeque_ring.specs.{
  contracts.ring.Ring.the_row,
  Loans.LoanState,
  Ring.RingState,
  Runs.as_many,
  Steps.more_lends,
}

module _ (R : RattleType) (ring : MutBor (RingState R.Denot)) (index : ℕ) where
  -- the ring with w at the index, and one lend counted
  abbrev pub with_item : R.Denot → RingState R.Denot
  with_item w = record ring.now {
    items = slice_set ring.now.items index w;
    steps = more_lends 1 ring.now.steps;
  }

  -- the item at the index ends as what was last written through r, and nothing else changes but
  -- that one lend is counted; with no r nothing changes
  abbrev pub lends_item : Option (MutBor R.Denot) → Fml
  lends_item r = LendsIf (the_row R) R ring r with_item ring.now

  -- the same of an index that is there
  abbrev pub lends_index : MutBor R.Denot → Fml
  lends_index r = Lends (the_row R) R ring r with_item

-- a ring with the items xs, as many of them as it had, and two lends counted
abbrev pub rewritten : {X : Type 0} → RingState X → List X → RingState X
rewritten ring xs = record ring {
  items = as_many ring.items xs;
  steps = more_lends 2 ring.steps;
}

-- a ring with the items xs instead of the len items from the index `from` on, as many of them
-- as these were, and two lends counted
abbrev pub part_rewritten : {X : Type 0} → ℕ → ℕ → RingState X → List X → RingState X
part_rewritten from len ring xs = record ring {
  items = splice ring.items from (from + len) (as_many (take len (drop from ring.items)) xs);
  steps = more_lends 2 ring.steps;
}

module _ (R : RattleType) (ring : MutBor (RingState R.Denot)) where
  -- of the len items from the index `from` on there are as many as before and two lends are
  -- counted, and nothing else changes
  abbrev pub lends_part : ℕ → ℕ → GName → Fml
  lends_part from len name = follows (the_row R) (the_row R) ring.ghost_name name
      (λ w. part_rewritten from len ring.now (take len (drop from w.items)))

  -- the items end as what was last written through r, and two lends are counted, and nothing else
  -- changes
  abbrev pub lends_slices : MutBor (List R.Denot) × MutBor (List R.Denot) → Fml
  lends_slices r = LendsBoth (the_row R) (Array R 0) (Array R 0) ring r
      (λ ws vs. rewritten ring.now (as_many r.0.now ws ++ as_many r.1.now vs))

  -- the ring follows the name of a part's loan, and that name follows the two slices
  abbrev pub lends_loan : ℕ → ℕ → LoanState R.Denot → Fml
  lends_loan from len loan = fsep
      (lends_part from len loan.name)
      (follows_both (the_row R) (Array R 0) (Array R 0)
      loan.name loan.first.ghost_name loan.second.ghost_name (λ ws vs.
      part_rewritten from len ring.now (as_many loan.first.now ws ++ as_many loan.second.now vs)))

  -- the items end as what was last written through r, and one lend is counted, and nothing else
  -- changes
  abbrev pub lends_list : MutBor (List R.Denot) → Fml
  lends_list r = Lends (the_row R) (Array R 0) ring r (λ ws. record ring.now {
    items = as_many ring.now.items ws;
    steps = more_lends 1 ring.now.steps;
  })

  -- the items in a slice of the first ones end as they were written, and one lend is counted, and
  -- nothing else changes
  abbrev pub lends_first : MutBor (List R.Denot) → Fml
  lends_first r = Lends (the_row R) (Array R 0) ring r (λ ws. record ring.now {
    items = as_many r.now ws ++ drop (length r.now) ring.now.items;
    steps = more_lends 1 ring.now.steps;
  })

  -- the same of a slice of the others
  abbrev pub lends_rest : MutBor (List R.Denot) → Fml
  lends_rest r = Lends (the_row R) (Array R 0) ring r (λ ws. record ring.now {
    items = take (length ring.now.items - length r.now) ring.now.items ++ as_many r.now ws;
    steps = more_lends 1 ring.now.steps;
  })
