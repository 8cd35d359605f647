-- How many items move, and how many would have to, in small lists.
use Rattle.std.{proofs.Common.{◌≡◌, [], ◌∷◌, map, refl}, specs.List.range_with_len}
use Rattle.arraydeque_ring.specs.{
  Changed.{changed_insert, changed_remove, changed_drain},
  Sides.{moves_to_insert, moves_to_remove, moves_to_drain},
}

-- one comes in at each index of six items
inserts_into_six : map (λ i. moves_to_insert i 6) (range_with_len 0 7) ≡ 0 ∷ 1 ∷ 2 ∷ 3 ∷ 2 ∷ 1 ∷ 0 ∷ []
inserts_into_six = refl

-- each of six items goes
removes_from_six : map (λ i. moves_to_remove i 6) (range_with_len 0 6) ≡ 0 ∷ 1 ∷ 2 ∷ 2 ∷ 1 ∷ 0 ∷ []
removes_from_six = refl

-- the second of two goes
remove_on_a_tie : moves_to_remove 1 2 ≡ 0
remove_on_a_tie = refl

-- of eight items those from the middle, from the front, and to the end go, and none
drains_of_eight : moves_to_drain 2 5 8 ∷ moves_to_drain 0 3 8 ∷ moves_to_drain 3 8 8 ∷ moves_to_drain 3 3 8 ∷ []
    ≡ 2 ∷ 0 ∷ 0 ∷ 0 ∷ []
drains_of_eight = refl

-- six items in eight places from place 6 on, and one that comes in before item 2: how many of the
-- six change their places, by where the new list starts
places_of_an_insert : map (changed_insert 2 6 8 6) (range_with_len 0 8) ≡ 6 ∷ 6 ∷ 6 ∷ 6 ∷ 6 ∷ 2 ∷ 4 ∷ 6 ∷ []
places_of_an_insert = refl

-- item 1 of these goes: how many of the five others change theirs
places_of_a_remove : map (changed_remove 1 6 8 6) (range_with_len 0 8) ≡ 5 ∷ 5 ∷ 5 ∷ 5 ∷ 5 ∷ 5 ∷ 4 ∷ 1 ∷ []
places_of_a_remove = refl

-- eight items fill the eight places from place 3 on, and those from item 2 up to 5 go
places_of_a_drain : map (changed_drain 2 5 8 8 3) (range_with_len 0 8) ≡ 5 ∷ 5 ∷ 5 ∷ 3 ∷ 5 ∷ 5 ∷ 2 ∷ 5 ∷ []
places_of_a_drain = refl
