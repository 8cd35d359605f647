-- A loop over one iterator after another, as one over an iterator that has the items of both.
use Rattle.std.{
  proofs.{
    Common.{◌≡◌, Option, List, [], ◌∷◌, ◌++◌, length, Some, sym, ap, ◌∙◌, subst},
    iter.runs.Lists.Yields-both,
    lemmas.List.nil_from_length,
  },
  specs.{
    Iterator.{Yields, YieldsFirstBy, Drains, CallableAtEachTurn},
    List.FoldsTo,
    Option.MatchOption,
  },
}

module _ {P A : Type 0} (R : P → A → P → Type 0) where
  folds_both : (p : P) (xs : List A) (q : P) (ys : List A) (r : P)
      → FoldsTo R p xs q → FoldsTo R q ys r → FoldsTo R p (xs ++ ys) r
  folds_both p [] q ys r first second = subst (λ k. FoldsTo R k ys r) (sym first) second
  folds_both p (x ∷ xs) q ys r first second = (first.0, first.1, folds_both first.0 xs q ys r first.2 second)

module _ {S A : Type 0} (steps : S → Option A → S → Type 0) where
  -- what may be called at each item that comes may be so behind the first ones
  callable_behind : {P : Type 0} {R : P → A → P → Type 0} {Q : P → A → Type 0} {s : S} {p : P}
      → CallableAtEachTurn steps R Q s p → (xs : List A) (t : S) (q : P) → Yields steps s xs t → FoldsTo R p xs q
      → CallableAtEachTurn steps R Q t q
  callable_behind {R = R} {s = s} {p = p} may xs t q gave led = record {
    at = λ ys u r x v more on next.
        may.at (xs ++ ys) u r x v (Yields-both steps xs ys s t u gave more) (folds_both R p xs q ys r led on) next;
  }

  -- the items of a part, which come as items of the whole
  module _ {Z : Type 0} (others : Z → Option A → Z → Type 0) (whole : Z → S)
      (alike : (z : Z) (x : A) (w : Z) → others z (Some x) w → steps (whole z) (Some x) (whole w)) where
    yields_whole : (z : Z) (xs : List A) (w : Z) → Yields others z xs w → Yields steps (whole z) xs (whole w)
    yields_whole z [] w gave = ap whole gave
    yields_whole z (x ∷ xs) w gave = (whole gave.0, alike z x gave.0 gave.1, yields_whole gave.0 xs w gave.2)

    callable_part : {P : Type 0} {R : P → A → P → Type 0} {Q : P → A → Type 0} (z : Z) {p : P}
        → CallableAtEachTurn steps R Q (whole z) p → CallableAtEachTurn others R Q z p
    callable_part z may = record {
      at = λ xs w q x v gave led next.
          may.at xs (whole w) q x (whole v) (yields_whole z xs w gave) led (alike w x v next);
    }

-- a source that gives what is left of a first slice and then of a second, and the slices' own iterators
module _ {S X A Z P : Type 0} (view : A → X) (rest : S → List X) (left : List X → List X → S)
    (shows : (xs ys : List X) → rest (left xs ys) ≡ xs ++ ys)
    (now : Z → List X) (Over : Z → Z → Type 0) (R : P → A → P → Type 0) where
  abbrev Gives : S → Option A → S → Type 0
  Gives = YieldsFirstBy view rest

  abbrev PartGives : Z → Option A → Z → Type 0
  PartGives z r w = MatchOption r ((length (now z) ≡ 0) × Over z w) (λ x. now z ≡ view x ∷ now w)

  -- a walk over all of a slice
  abbrev WalksPart : Z → P → P → Type 0
  WalksPart z p q = (items : List A) × Drains PartGives z items × FoldsTo R p items q

  -- what a slice gives comes as items of the whole
  module _ (whole : List X → S)
      (alike : (x : A) (zs : List X) → rest (whole (view x ∷ zs)) ≡ view x ∷ rest (whole zs)) where
    item_gives : (v : Z) (x : A) (w : Z) → PartGives v (Some x) w → Gives (whole (now v)) (Some x) (whole (now w))
    item_gives v x w next = ap (λ zs. rest (whole zs)) next ∙ alike x (now w)

    slice_yields : (z : Z) (zs : List X) → now z ≡ zs → {p q : P} (walk : WalksPart z p q)
        → Yields Gives (whole zs) walk.0 (whole [])
    slice_yields z zs is walk =
        let end = walk.1.1.0 in
        let came = yields_whole Gives PartGives (λ v. whole (now v)) item_gives z walk.0 end walk.1.1.1 in
        subst (λ l. Yields Gives (whole l) walk.0 (whole [])) is
        (subst (λ l. Yields Gives (whole (now z)) walk.0 (whole l)) (nil_from_length (now end) walk.1.1.2.0) came)

    callable_slice : {Q : P → A → Type 0} {p : P} (z : Z) (zs : List X) → now z ≡ zs
        → CallableAtEachTurn Gives R Q (whole zs) p → CallableAtEachTurn PartGives R Q z p
    callable_slice {Q} {p} z zs is may = callable_part Gives PartGives (λ v. whole (now v)) item_gives z
        (subst (λ l. CallableAtEachTurn Gives R Q (whole l) p) (sym is) may)

  module _ (xs ys : List X) where
    first_gives : (x : A) (zs : List X) → rest (left (view x ∷ zs) ys) ≡ view x ∷ rest (left zs ys)
    first_gives x zs = shows (view x ∷ zs) ys ∙ ap (λ l. view x ∷ l) (sym (shows zs ys))

    second_gives : (x : A) (zs : List X) → rest (left [] (view x ∷ zs)) ≡ view x ∷ rest (left [] zs)
    second_gives x zs = shows [] (view x ∷ zs) ∙ ap (λ l. view x ∷ l) (sym (shows [] zs))

    pub callable_first : {Q : P → A → Type 0} {p : P} (z : Z) → now z ≡ xs
        → CallableAtEachTurn Gives R Q (left xs ys) p → CallableAtEachTurn PartGives R Q z p
    callable_first z is may = callable_slice (λ zs. left zs ys) first_gives z xs is may

    pub callable_second : {Q : P → A → Type 0} {p q : P} (y : Z) → now y ≡ xs → WalksPart y p q
        → (z : Z) → now z ≡ ys → CallableAtEachTurn Gives R Q (left xs ys) p → CallableAtEachTurn PartGives R Q z q
    callable_second {q = q} y was walk z is may =
        let begun = slice_yields (λ zs. left zs ys) first_gives y xs was walk in
        callable_slice (left []) second_gives z ys is (callable_behind Gives may walk.0 (left [] ys) q begun walk.2)

    pub walked_both : {p q r : P} (y : Z) → now y ≡ xs → WalksPart y p q → (z : Z) → now z ≡ ys → WalksPart z q r
        → (items : List A) × (last : P) × Drains Gives (left xs ys) items × FoldsTo R p items last
    walked_both {p} {q} {r} y was walk z is more =
        let end = left [] [] in let none = shows [] [] in
        let came = Yields-both Gives walk.0 more.0 (left xs ys) (left [] ys) end
        (slice_yields (λ zs. left zs ys) first_gives y xs was walk)
        (slice_yields (left []) second_gives z ys is more) in
        (walk.0 ++ more.0, r, (end, (end, came, (none, none))), folds_both R p walk.0 q more.0 r walk.2 more.2)
