-- Items that a closure was called at, one after the other: at one more, and at those of two slices.
use Rattle.std.{
  proofs.{
    Common.{◌≡◌, ℕ, ◌+◌, ◌-◌, ◌<◌, ◌≤◌, ◌⊎◌, inl, inr, List, [], ◌∷◌, ◌++◌, length, take, drop, set},
    Common.{get_or, slice_get, Some, refl, ap, ◌∙◌, arith},
    lemmas.{
      Bool.Decides.nat_tests,
      Grind.common_steps,
      List.{take_all, length-take-le, length-append, length-take},
      List.{length-drop, drop_min, nil_from_length},
      List.{take-append-le, take-append-drop, append-nil, places, same_lists},
      Option.{slice_get-get_or, slice_get_within},
    },
    Math.Seq.{take-append-add, drop-length},
  },
  specs.{Borrow.MutBor, Fn.Mut, List.splice, Prelude.{min, slice_range}},
}
use Rattle.arraydeque_ring.{
  proofs.{InTwo.range_in_two, loans.{Parts.splice-both, Placed.as_many-same}, places.Items.slice_get-append},
  specs.{Runs.as_many, Written.{WritesInTurn, WrittenInTurn, WrittenPart, WritesAt, MayWriteEach}},
}

module _ {F X : Type 0} (R : F → X → F → X → Type 0) where
  pub written_many : (f g : F) (xs ys : List X) → WritesInTurn R f xs ys g → length ys ≡ length xs
  written_many f g [] [] told = refl
  written_many f g [] (y ∷ ys) told = absurd told
  written_many f g (x ∷ xs) [] told = absurd told
  written_many f g (x ∷ xs) (y ∷ ys) told = omega (arith, written_many told.0 g xs ys told.2)

  -- at the items of one list, and then of another
  pub written_behind : (f g h : F) (xs ys us vs : List X) → WritesInTurn R f xs ys g → WritesInTurn R g us vs h
      → WritesInTurn R f (xs ++ us) (ys ++ vs) h
  written_behind f g h [] [] us vs told after = rw told after
  written_behind f g h [] (y ∷ ys) us vs told after = absurd told
  written_behind f g h (x ∷ xs) [] us vs told after = absurd told
  written_behind f g h (x ∷ xs) (y ∷ ys) us vs told after =
      (told.0, told.1, written_behind told.0 g h xs ys us vs told.2 after)

  -- at one more
  pub written_more : (f g h : F) (xs ys : List X) (x y : X) → WritesInTurn R f xs ys g → R g x h y
      → WritesInTurn R f (xs ++ x ∷ []) (ys ++ y ∷ []) h
  written_more f g h xs ys x y told said = written_behind f g h xs ys (x ∷ []) (y ∷ []) told (h, said, refl)

-- R went over the first `index` of the items `old`, from f on, and is then g; the items are now `new`
pub record WrittenSoFar {F X : Type 0} (R : F → X → F → X → Type 0) (f : F) (old new : List X) (index : ℕ) (g : F)
    : Type 0 where
  pub told : WritesInTurn R f (take index old) (take index new) g
  pub many : length new ≡ length old
  pub rest : (k : ℕ) (d : X) → index ≤ k → get_or new k d ≡ get_or old k d

module _ {F X : Type 0} {R : F → X → F → X → Type 0} {f g : F} {old new : List X} {index : ℕ}
    (s : WrittenSoFar R f old new index g) where
  -- it may be called at the next item
  pub written_next : (d : X) → index < length new
      → (slice_get old (length (take index new)) ≡ Some (get_or new index d))
      × WritesInTurn R f (take (length (take index new)) old) (take index new) g
  written_next d lt = grind (arith, length-take-le, slice_get-get_or)

  -- and then it has been
  pub written_on : (d : X) (h : F) (y : X) → index < length new → R g (get_or new index d) h y
      → WrittenSoFar R f old (set new index y) (index + 1) h
  written_on d h y lt said = grind (arith, common_steps, written_more)

  pub written_all : length new ≤ index → WritesInTurn R f old new g
  written_all past = rw (take_all index old (omega (arith, s.many)), take_all index new past) at s.told

module _ {X : Type 0} where
  -- the list with ys instead of the items from the index a up to the index b
  abbrev with_part : ℕ → ℕ → List X → List X → List X
  with_part a b ys xs = take a xs ++ (ys ++ drop (b - a) (drop a xs))

  -- the list xs, once us stand in a part of a slice fs of its first items
  abbrev pub first_written : List X → List X → ℕ → ℕ → List X → List X
  first_written xs fs a b us = as_many fs (with_part a b us fs) ++ drop (length fs) xs

  -- the list xs, once vs stand in a part of a slice bs of its last items
  abbrev pub rest_written : List X → List X → ℕ → ℕ → List X → List X
  rest_written xs bs p q vs = take (length xs - length bs) xs ++ as_many bs (with_part p q vs bs)

  part_long : (a b : ℕ) (xs : List X) → b ≤ length xs → length (take (b - a) (drop a xs)) ≡ b - a
  part_long a b xs le = length-take-le (b - a) (drop a xs) (omega (arith, length-drop a xs))

  -- a part of the front, or of the rest, is a part of the whole
  part_before : (a b : ℕ) (us fs bs : List X) → a ≤ b → b ≤ length fs → length us ≡ b - a
      → with_part a b us fs ++ bs ≡ splice (fs ++ bs) a b us
  part_before a b us fs bs order within many = same_lists _ _ (grind (arith, places)) (λ i d lt. grind (arith, places))

  part_behind : (p q : ℕ) (vs fs bs : List X) → p ≤ q → q ≤ length bs → length vs ≡ q - p
      → fs ++ with_part p q vs bs ≡ splice (fs ++ bs) (length fs + p) (length fs + q) vs
  part_behind p q vs fs bs order within many =
      same_lists _ _ (grind (arith, places)) (λ i d lt. grind (arith, places))

  -- what is written before and behind the index n is written in one
  both_spliced : (xs us vs : List X) (from to n a b i j : ℕ) → from ≤ to → to ≤ length xs → n ≤ length xs
      → a ≡ min from n → b ≡ min to n → i ≡ n + (from - n) → j ≡ n + (to - n)
      → length us ≡ b - a → length vs ≡ j - i → splice (splice xs a b us) i j vs ≡ splice xs from to (us ++ vs)
  both_spliced xs us vs from to n a b i j order within inside a_is b_is i_is j_is us_long vs_long =
      let ends : (to ≤ n) ⊎ (n ≤ to) = grind arith in
      let starts : (from ≤ n) ⊎ (n ≤ from) = grind arith in
      elim ends [
        | inl le ↦
            let at : a ≡ from = omega arith in let up_to : b ≡ to = omega arith in let same : j ≡ i = omega arith in
            rw (nil_from_length vs (omega arith), append-nil us, at, up_to, same)
            (take-append-drop i (splice xs from to us))
        | inr ge ↦ elim starts [
          | inl le ↦
              let at : a ≡ from = omega arith in let up_to : b ≡ from + length us = omega arith in
              let next : i ≡ from + length us = omega arith in
              let last : j ≡ from + length us + length vs = omega arith in
              let end : to ≡ from + (length us + length vs) = omega arith in
              rw (at, up_to, next, last, end)
              (splice-both xs us vs from (length us + length vs) refl (omega arith))
          | inr ge ↦
              let at : a ≡ n = omega arith in let up_to : b ≡ n = omega arith in
              let next : i ≡ from = omega arith in let last : j ≡ to = omega arith in
              let none : splice xs n n [] ≡ xs = take-append-drop n xs in
              rw (nil_from_length us (omega arith), at, up_to, next, last, none) refl
        ]
      ]

-- the items from one index up to another lie in two slices: in one of the first k items, from its index a up to b, and
-- in one of the others, from its index p up to q
module _ {X : Type 0} (xs : List X) (k from to : ℕ) (order : from ≤ to) (within : to ≤ length xs)
    (a b p q : ℕ) (a_is : a ≡ min from (length (take k xs))) (b_is : b ≡ min to (length (take k xs)))
    (p_is : p ≡ from - length (take k xs)) (q_is : q ≡ to - length (take k xs)) where
  long : length (take k xs) ≡ min k (length xs)
  long = length-take k xs

  rest_long : length (drop k xs) ≡ length xs - k
  rest_long = length-drop k xs

  parts : slice_range xs from to ≡ take (b - a) (drop a (take k xs)) ++ take (q - p) (drop p (drop k xs))
  parts = grind (arith, range_in_two, take-append-drop)

  others : drop (length (take k xs)) xs ≡ drop k xs
  others = rw long (drop_min k xs)

  module _ (us : List X) (us_long : length us ≡ b - a) where
    abbrev in_first : List X
    in_first = with_part a b us (take k xs)

    first_many : length in_first ≡ length (take k xs)
    first_many = grind (arith, common_steps, places, long)

    first_is : first_written xs (take k xs) a b us ≡ in_first ++ drop k xs
    first_is = rw (as_many-same (take k xs) in_first first_many, others) refl

    joined : in_first ++ drop k xs ≡ splice xs a b us
    joined = grind (arith, part_before, take-append-drop)

    module _ (vs : List X) (vs_long : length vs ≡ q - p) where
      abbrev in_rest : List X
      in_rest = with_part p q vs (drop k xs)

      rest_many : length in_rest ≡ length (drop k xs)
      rest_many = grind (arith, common_steps, places, long)

      cut : take (length (in_first ++ drop k xs) - length (drop k xs)) (in_first ++ drop k xs) ≡ in_first
      cut = grind (arith, common_steps)

      both_are : rest_written (in_first ++ drop k xs) (drop k xs) p q vs ≡ splice xs from to (us ++ vs)
      both_are =
          let n = length in_first in
          let last : in_first ++ in_rest ≡ splice (splice xs a b us) (n + p) (n + q) vs =
          part_behind p q vs in_first (drop k xs) (omega (arith, p_is, q_is, order))
          (omega (arith, q_is, long, rest_long, within)) vs_long ∙ ap (λ l. splice l (n + p) (n + q) vs) joined in
          rw (cut, as_many-same (drop k xs) in_rest rest_many) (last
          ∙ both_spliced xs us vs from to (length (take k xs)) a b (n + p) (n + q) order within (omega (arith, long))
          a_is b_is (omega (arith, first_many, p_is)) (omega (arith, first_many, q_is)) us_long
          (omega (arith, vs_long)))

      both_long : length (splice xs from to (us ++ vs)) ≡ length xs
      both_long = grind (arith, common_steps, places, long)

module _ {F X : Type 0} (t : Mut F (MutBor X × Unit {0}) (Unit {0} × (MutBor X × Unit {0}))) where
  -- the closure may be called at the items of a first list
  asks_before : (f : F) (fs bs : List X) → MayWriteEach t f (fs ++ bs) → MayWriteEach t f fs
  asks_before f fs bs may = record {
    asks = λ ys h x here so_far.
        let lt = slice_get_within fs (length ys) x.now here in
        may.asks ys h x (grind (arith, nat_tests, slice_get-append fs bs (length ys)))
        (rw (take-append-le (length ys) fs bs (omega arith)) so_far);
  }

  -- and at the items of a second list, after those of the first
  asks_behind : (f g : F) (fs us bs : List X) → WritesInTurn (WritesAt t) f fs us g → MayWriteEach t f (fs ++ bs)
      → MayWriteEach t g bs
  asks_behind f g fs us bs told may = record {
    asks = λ vs h x here so_far.
        let us_long = written_many (WritesAt t) f g fs us told in
        let both : length (us ++ vs) ≡ length fs + length vs = omega (arith, length-append us vs) in
        may.asks (us ++ vs) h x (grind (arith, nat_tests, both, slice_get-append fs bs (length (us ++ vs))))
        (rw (both, take-append-add fs bs (length vs))
        (written_behind (WritesAt t) f g h fs us (take (length vs) bs) vs told so_far));
  }

-- the closure is called at the items of the one part, and then at those of the other
module _ {F X : Type 0} (t : Mut F (MutBor X × Unit {0}) (Unit {0} × (MutBor X × Unit {0}))) (f : F)
    (xs : List X) (k from to : ℕ) (order : from ≤ to) (within : to ≤ length xs)
    (fs : List X) (first : fs ≡ take k xs) (a b p q : ℕ) (a_is : a ≡ min from (length fs))
    (b_is : b ≡ min to (length fs)) (p_is : p ≡ from - length fs) (q_is : q ≡ to - length fs) where
  as_long : length fs ≡ length (take k xs)
  as_long = ap length first

  abbrev front : List X
  front = take (b - a) (drop a (take k xs))

  abbrev rest : List X
  rest = take (q - p) (drop p (drop k xs))

  two_parts : slice_range xs from to ≡ front ++ rest
  two_parts = grind (arith, parts)

  pub asks_first : MayWriteEach t f (slice_range xs from to) → MayWriteEach t f (take (b - a) (drop a fs))
  asks_first may = rw first (asks_before t f front rest (rw two_parts at may))

  module _ (us : List X) (g : F) (told : WritesInTurn (WritesAt t) f (take (b - a) (drop a fs)) us g)
      (bs : List X) (second : bs ≡ drop k (first_written xs fs a b us)) where
    told_first : WritesInTurn (WritesAt t) f front us g
    told_first = rw first at told

    us_long : length us ≡ b - a
    us_long = written_many (WritesAt t) f g front us told_first ∙ part_long a b (take k xs) (omega (arith, as_long))

    second_is : bs ≡ drop k xs
    second_is = grind (arith, common_steps)

    pub asks_second : MayWriteEach t f (slice_range xs from to) → MayWriteEach t g (take (q - p) (drop p bs))
    asks_second may = rw second_is (asks_behind t f g front us rest told_first (rw two_parts at may))

    module _ (vs : List X) (h : F) (after : WritesInTurn (WritesAt t) g (take (q - p) (drop p bs)) vs h) where
      told_rest : WritesInTurn (WritesAt t) g rest vs h
      told_rest = rw second_is at after

      vs_long : length vs ≡ q - p
      vs_long = grind (arith, written_many, told_rest, length-take, length-drop)

      ends : rest_written (first_written xs fs a b us) bs p q vs ≡ splice xs from to (us ++ vs)
      ends = rw (
        second_is,
        first,
        first_is xs k from to order within a b p q (omega (arith, as_long))
            (omega (arith, as_long)) (omega (arith, as_long)) (omega (arith, as_long)) us us_long,
      )
          (both_are xs k from to order within a b p q (omega (arith, as_long)) (omega (arith, as_long))
          (omega (arith, as_long)) (omega (arith, as_long)) us us_long vs vs_long)

      pub part_written : WrittenPart (WritesAt t) f from to xs (rest_written (first_written xs fs a b us) bs p q vs)
      part_written =
          (us ++ vs, (h, rw two_parts (written_behind (WritesAt t) f g h front us rest vs told_first told_rest)), ends)

      pub part_many : length (rest_written (first_written xs fs a b us) bs p q vs) ≡ length xs
      part_many = grind (arith, ends, both_long, us_long, vs_long)

-- the part is all
pub whole_part : {F X : Type 0} (R : F → X → F → X → Type 0) (f : F) (xs ys : List X) (from to : ℕ) → from ≡ 0
    → to ≡ length xs → WrittenPart R f from to xs ys → WrittenInTurn R f xs ys
whole_part R f xs ys from to at up_to part = grind (arith, take_all, drop-length, append-nil)
