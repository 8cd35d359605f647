-- What pushes leave, one and many.
use Rattle.std.proofs.{
  Common.{◌≡◌, ◌<◌, ◌≤◌, ℕ, ◌+◌, List, ◌++◌, length, reverse, ap, ◌∙◌, refl, arith},
  lemmas.{
    Bool.Decides.nat_tests,
    List.{append_assoc, length-append, length-reverse, take_all, drop_all, nil_from_length},
  },
}
use Rattle.arraydeque_ring.{
  proofs.fills.{Displaced.{displaced_first, displaced_last}, InRows.{all_before, down_by-all}},
  specs.Ring.RingState,
}
use Rattle.arraydeque.{
  proofs.KeepLast.keep_last-all,
  specs.Deque.{DequeState, as_ring, with_back, with_front, wrapped_back, wrapped_front, WrapsBack},
  specs.Deque.WrapsFront,
}

-- what is seen of a deque over a ring
abbrev of_ring : {X : Type 0} → RingState X → DequeState X
of_ring ring = record { items = ring.items; start = ring.start; steps = ring.steps }

-- where there are no places, all is as it was
module _ {X : Type 0} (n : ℕ) (deque : DequeState X) (xs : List X) (none : n ≡ 0)
    (within : length deque.items ≤ n) where
  pub WrapsBack-no_places : WrapsBack n deque xs deque
  WrapsBack-no_places = (
    grind (arith, nil_from_length deque.items, drop_all (length (deque.items ++ xs)) (deque.items ++ xs)),
    (λ some. absurd (omega arith)),
    λ _. refl,
  )

  pub WrapsFront-no_places : WrapsFront n deque xs deque
  WrapsFront-no_places = (
    grind (arith, nil_from_length deque.items),
    (λ some. absurd (omega arith)),
    λ _. refl,
  )

-- xs found room in a deque that has places
module _ {X : Type 0} (n : ℕ) (some : 0 < n) (old mid : DequeState X) (xs : List X) where
  -- new is the deque wrapped, and that says all three
  wraps : (new wrapped : DequeState X) → new ≡ wrapped
      → (new.items ≡ wrapped.items) × (0 < n → new ≡ wrapped) × (n ≡ 0 → new ≡ old)
  wraps new wrapped same = (ap (λ (d : DequeState X). d.items) same, (λ _. same), λ none. absurd (omega arith))

  module _ (same : mid ≡ with_back xs old) where
    length-with_back : length mid.items ≡ length old.items + length xs
    length-with_back = ap (λ (d : DequeState X). length d.items) same ∙ length-append old.items xs

    pub WrapsBack-room : length mid.items ≤ n → WrapsBack n old xs mid
    WrapsBack-room within = wraps mid (wrapped_back n xs old) (same
        ∙ grind (arith, nat_tests, length-with_back, keep_last-all n (old.items ++ xs), length-append old.items xs))

    -- and ys took the places of others, once there was none
    pub WrapsBack-both : (ring new : RingState X) (ys : List X) → of_ring ring ≡ mid → ring.capacity ≡ n
        → length mid.items ≡ n → new ≡ displaced_first ys ring → WrapsBack n old (xs ++ ys) (of_ring new)
    WrapsBack-both ring new ys is all full out =
        let was : ring ≡ as_ring n (with_back xs old) = λ i. as_ring (all i) ((is ∙ same) i) in
        wraps (of_ring new) (wrapped_back n (xs ++ ys) old) (ap of_ring (out ∙ ap (displaced_first ys) was)
        ∙ grind (
          arith,
          nat_tests,
          length-with_back,
          append_assoc old.items xs ys,
          length-append xs ys,
          length-append old.items (xs ++ ys),
        ))

  module _ (same : mid ≡ with_front n xs old) where
    length-joined : length (reverse xs ++ old.items) ≡ length old.items + length xs
    length-joined = omega (arith, length-append (reverse xs) old.items, length-reverse xs)

    length-with_front : length mid.items ≡ length old.items + length xs
    length-with_front = ap (λ (d : DequeState X). length d.items) same ∙ length-joined

    pub WrapsFront-room : length mid.items ≤ n → WrapsFront n old xs mid
    WrapsFront-room within = wraps mid (wrapped_front n xs old) (same
        ∙ grind (arith, length-with_front, length-joined, take_all n (reverse xs ++ old.items)))

    pub WrapsFront-both : (ring new : RingState X) (ys : List X) → of_ring ring ≡ mid → ring.capacity ≡ n
        → length mid.items ≡ n → new ≡ displaced_last ys ring → WrapsFront n old (xs ++ ys) (of_ring new)
    WrapsFront-both ring new ys is all full out =
        let was : ring ≡ as_ring n (with_front n xs old) = λ i. as_ring (all i) ((is ∙ same) i) in
        wraps (of_ring new) (wrapped_front n (xs ++ ys) old) (ap of_ring (out ∙ ap (displaced_last ys) was)
        ∙ grind (
          arith,
          length-with_front,
          length-joined,
          all_before xs ys old.items,
          down_by-all xs ys old.start n,
          length-append xs ys,
        ))
