-- A list and its last item.
use Rattle.std.{
  proofs.{
    Common.{◌≡◌, ◌-◌, ◌+◌, List, [], ◌∷◌, ◌++◌, length, take, slice_get, option_to_list, Option},
    Common.{Some, None, refl, arith, sym},
    lemmas.{
      List.{append-nil, take_more, take_all},
      Option.{slice_get-get_or, get_or_from_slice_get},
    },
  },
  specs.{Iterator.YieldsLast, Option.{OnSome, IfNone}},
}
use Rattle.arraydeque_ring.specs.{Ring.RingState, Steps.Steps}

module _ {X : Type 0} where
  -- only an empty list has no last item
  pub nothing_last : (xs : List X) → None ≡ slice_get xs (length xs - 1) → xs ≡ []
  nothing_last [] none = refl
  nothing_last (x ∷ xs) none = let some = slice_get-get_or (x ∷ xs) (length (x ∷ xs) - 1) x (omega arith) in cc

  -- a list is what stands before its last item, and that item
  pub last_and_rest : (xs : List X) (x : X) → Some x ≡ slice_get xs (length xs - 1)
      → take (length xs - 1) xs ++ x ∷ [] ≡ xs
  last_and_rest xs x last =
      let k = length xs - 1 in
      grind (arith, get_or_from_slice_get xs k x x (sym last), take_more xs k x, take_all (k + 1) xs)

  -- what a ring's pop of its last item says: that nothing is lost, and the same in an iterator's words
  module _ (old new : RingState X) (st : Steps) where
    pub conserved-pop_back : (popped : Option X) → popped ≡ slice_get old.items (length old.items - 1)
        → OnSome popped (new ≡ record old { items = take (length old.items - 1) old.items; steps = st })
        → IfNone popped (new ≡ old) → new.items ++ option_to_list popped ≡ old.items
    conserved-pop_back None last taken kept = grind (arith, append-nil)
    conserved-pop_back (Some x) last taken kept = grind (arith, last_and_rest old.items x last)

    pub YieldsLast-pop : (popped : Option X) → popped ≡ slice_get old.items (length old.items - 1)
        → OnSome popped (new ≡ record old { items = take (length old.items - 1) old.items; steps = st })
        → IfNone popped (new ≡ old) → YieldsLast (λ (l : List X). l) old.items popped new.items
    YieldsLast-pop None last taken kept = let none = nothing_last old.items last in (none, grind arith)
    YieldsLast-pop (Some x) last taken kept = sym (conserved-pop_back (Some x) last taken kept)
