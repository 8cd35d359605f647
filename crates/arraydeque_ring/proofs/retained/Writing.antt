-- What a retain was told whose closure may write: the items as they were, and as they were left.
use Rattle.std.{
  proofs.{
    Common.{◌≡◌, List, [], ◌∷◌, ◌++◌, length, take, slice_get, Some, Bool, true, false, refl, arith},
    lemmas.{
      List.{length_push, length-map, length-take-le, take_more, map-append},
      Option.{get_or_from_slice_get, slice_get_within},
    },
  },
  specs.List.{items_where_true, Retain.{ReturnsInTurn, RetainsInTurn}},
}
use Rattle.arraydeque_ring.{
  proofs.retained.First.told_behind,
  specs.{Retained.{as_were, as_left, WrittenAs, RetainsMut}, Ring.RingState},
}

-- R answered in turn at the items asked about, and left each as the pairs say
pub record Written {F X : Type 0} (R : F → X → Bool → F → X → Type 0) (f : F) (items : List X) (g : F)
    (bs : List Bool) (left : List X) : Type 0 where
  pub pairs : List (X × X)
  pub was : as_were pairs ≡ take (length bs) items
  pub is : as_left pairs ≡ left
  pub in_turn : ReturnsInTurn (WrittenAs R) f bs pairs g

-- at none yet
pub none_written : {F X : Type 0} (R : F → X → Bool → F → X → Type 0) (f : F) (items : List X)
    → Written R f items f [] []
none_written R f items = record { pairs = []; was = refl; is = refl; in_turn = refl }

module _ {F X : Type 0} {R : F → X → Bool → F → X → Type 0} {f g : F} {items : List X} {bs : List Bool}
    {left : List X} {x : X} (told : Written R f items g bs left) (here : slice_get items (length bs) ≡ Some x) where
  many : length bs ≡ length told.pairs
  many = grind (arith, told.was, slice_get_within, length-take-le, length-map told.pairs (λ pair. pair.0))

  -- at one item more
  pub written_next : {h : F} {b : Bool} {y : X} → R g x b h y → Written R f items h (bs ++ b ∷ []) (left ++ y ∷ [])
  written_next {h} {b} {y} called =
      let more : List (X × X) = (x, y) ∷ [] in
      record {
        pairs = told.pairs ++ more;
        was = grind (
          arith,
          told.was,
          map-append (λ pair. pair.0) told.pairs more,
          length_push,
          take_more items (length bs) x,
          slice_get_within,
          get_or_from_slice_get,
        );
        is = grind (arith, told.is, map-append);
        in_turn = told_behind (WrittenAs R) f g h bs (b ∷ []) told.pairs more many told.in_turn (h, called, refl);
      }

-- what std's word says of it
left_in_turn : {F X : Type 0} (R : F → X → Bool → F → X → Type 0) (f g : F) (bs : List Bool) (pairs : List (X × X))
    → length bs ≡ length (as_were pairs) → ReturnsInTurn (WrittenAs R) f bs pairs g
    → RetainsInTurn R f (as_were pairs) (items_where_true bs (as_left pairs))
left_in_turn R f g [] [] long told = refl
left_in_turn R f g [] (p ∷ pairs) long told = absurd (omega arith)
left_in_turn R f g (b ∷ bs) [] long told = absurd told
left_in_turn R f g (true ∷ bs) (p ∷ pairs) long told =
    (true, told.0, p.1, told.1, _, left_in_turn R told.0 g bs pairs (omega arith) told.2, refl)
left_in_turn R f g (false ∷ bs) (p ∷ pairs) long told =
    (false, told.0, p.1, told.1, _, left_in_turn R told.0 g bs pairs (omega arith) told.2, refl)

pub retains_in_turn : {F X : Type 0} (R : F → X → Bool → F → X → Type 0) (f : F) {old new : RingState X}
    → RetainsMut R f old new → RetainsInTurn R f old.items new.items
retains_in_turn R f r = grind (arith, left_in_turn)
