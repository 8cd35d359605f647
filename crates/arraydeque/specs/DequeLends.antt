-- What a deque ends as, once a `&mut` to one of its items, or to all of them, has ended.
use Rattle.std.specs.{
  Borrow.{Fml, GName, RattleType, MutBor, Array, Lends, LendsIf, LendsBoth, fsep, follows},
  Borrow.follows_both,
  List.splice,
  Prelude.{ℕ, ◌+◌, ◌-◌, List, ◌++◌, length, take, drop, slice_set, Option},
}
use Rattle.arraydeque_ring.specs.{Loans.LoanState, Runs.as_many, Steps.more_lends}
use Rattle.arraydeque.specs.{contracts.deque.ArrayDeque.the_row, Deque.DequeState}

module _ (T CAP B : RattleType) (deque : MutBor (DequeState T.Denot)) (index : ℕ) where
  -- the deque with w at the index, and one lend counted
  abbrev pub with_item : T.Denot → DequeState T.Denot
  with_item w = record deque.now {
    items = slice_set deque.now.items index w;
    steps = more_lends 1 deque.now.steps;
  }

  -- the item at the index ends as what was last written through r, and nothing else changes but
  -- that one lend is counted; with no r nothing changes
  abbrev pub lends_item : Option (MutBor T.Denot) → Fml
  lends_item r = LendsIf (the_row T CAP B) T deque r with_item deque.now

  -- the same of an index that is there
  abbrev pub lends_index : MutBor T.Denot → Fml
  lends_index r = Lends (the_row T CAP B) T deque r with_item

-- a deque with the items xs, as many of them as it had, and two lends counted
abbrev pub rewritten : {X : Type 0} → DequeState X → List X → DequeState X
rewritten deque xs = record deque {
  items = as_many deque.items xs;
  steps = more_lends 2 deque.steps;
}

-- a deque with the items xs instead of the len items from the index `from` on, as many of them
-- as these were, and two lends counted
abbrev pub part_rewritten : {X : Type 0} → ℕ → ℕ → DequeState X → List X → DequeState X
part_rewritten from len deque xs = record deque {
  items = splice deque.items from (from + len) (as_many (take len (drop from deque.items)) xs);
  steps = more_lends 2 deque.steps;
}

module _ (T CAP B : RattleType) (deque : MutBor (DequeState T.Denot)) where
  -- of the len items from the index `from` on there are as many as before and two lends are
  -- counted, and nothing else changes
  abbrev pub lends_part : ℕ → ℕ → GName → Fml
  lends_part from len name = follows (the_row T CAP B) (the_row T CAP B) deque.ghost_name name
      (λ w. part_rewritten from len deque.now (take len (drop from w.items)))

  -- there are as many items as before and two lends are counted, and nothing else changes
  abbrev pub lends_items : GName → Fml
  lends_items name = follows (the_row T CAP B) (the_row T CAP B) deque.ghost_name name
      (λ w. rewritten deque.now w.items)

  -- the items end as what was last written through r, and two lends are counted, and nothing else
  -- changes
  abbrev pub lends_slices : MutBor (List T.Denot) × MutBor (List T.Denot) → Fml
  lends_slices r = LendsBoth (the_row T CAP B) (Array T 0) (Array T 0) deque r
      (λ ws vs. rewritten deque.now (as_many r.0.now ws ++ as_many r.1.now vs))

  -- the deque follows the name of a part's loan, and that name follows the two slices
  abbrev pub lends_loan : ℕ → ℕ → LoanState T.Denot → Fml
  lends_loan from len loan = fsep
      (lends_part from len loan.name)
      (follows_both (the_row T CAP B) (Array T 0) (Array T 0)
      loan.name loan.first.ghost_name loan.second.ghost_name (λ ws vs.
      part_rewritten from len deque.now (as_many loan.first.now ws ++ as_many loan.second.now vs)))

  -- the items end as what was last written through r, and one lend is counted, and nothing else
  -- changes
  abbrev pub lends_list : MutBor (List T.Denot) → Fml
  lends_list r = Lends (the_row T CAP B) (Array T 0) deque r (λ ws. record deque.now {
    items = as_many deque.now.items ws;
    steps = more_lends 1 deque.now.steps;
  })

  -- the items in a slice of the first ones end as they were written, and one lend is counted, and
  -- nothing else changes
  abbrev pub lends_first : MutBor (List T.Denot) → Fml
  lends_first r = Lends (the_row T CAP B) (Array T 0) deque r (λ ws. record deque.now {
    items = as_many r.now ws ++ drop (length r.now) deque.now.items;
    steps = more_lends 1 deque.now.steps;
  })

  -- the same of a slice of the others
  abbrev pub lends_rest : MutBor (List T.Denot) → Fml
  lends_rest r = Lends (the_row T CAP B) (Array T 0) deque r (λ ws. record deque.now {
    items = take (length deque.now.items - length r.now) deque.now.items ++ as_many r.now ws;
    steps = more_lends 1 deque.now.steps;
  })
