-- Items that come one by one into a full ring, each in the place of another.
use Rattle.std.proofs.{
  Common.{◌≡◌, List, ◌++◌, length, take, drop, reverse, arith, rules},
  lemmas.List.{length-append, places, same_lists},
}
use Rattle.arraydeque_ring.{
  proofs.{fills.InRows.{all_before, down_by-all}, places.Appended.up_by-both},
  specs.{Ring.{RingState, up_by, down_by}, Steps.{more_puts, more_takes}},
}

module _ {X : Type 0} where
  -- xs came behind, each in the place of the first item
  abbrev pub displaced_first : List X → RingState X → RingState X
  displaced_first xs r = record r {
    items = drop (length xs) (r.items ++ xs);
    start = up_by (length xs) r.start r.capacity;
    steps = more_puts (length xs) (more_takes (length xs) r.steps);
  }

  -- xs came before, each in the place of the last item
  abbrev pub displaced_last : List X → RingState X → RingState X
  displaced_last xs r = record r {
    items = take (length r.items) (reverse xs ++ r.items);
    start = down_by (length xs) r.start r.capacity;
    steps = more_puts (length xs) (more_takes (length xs) r.steps);
  }

  -- ys came after xs
  module _ (r : RingState X) (xs ys : List X) where
    pub displaced_first-both : displaced_first ys (displaced_first xs r) ≡ displaced_first (xs ++ ys) r
    displaced_first-both =
        let items : drop (length ys) (drop (length xs) (r.items ++ xs) ++ ys) ≡ drop (length (xs ++ ys))
        (r.items ++ (xs ++ ys)) = same_lists _ _ (search (rules, places)) (λ j d lt. grind (arith, places)) in
        grind (arith, up_by-both, length-append)

    pub displaced_last-both : displaced_last ys (displaced_last xs r) ≡ displaced_last (xs ++ ys) r
    displaced_last-both =
        let n = length r.items in let all = reverse xs ++ r.items in
        let items : take (length (take n all)) (reverse ys ++ take n all) ≡ take n (reverse (xs ++ ys) ++ r.items) =
        rw (← all_before xs ys r.items) (same_lists _ _ (search (rules, places)) (λ j d lt. grind (arith, places))) in
        grind (arith, down_by-all xs ys r.start, length-append)
