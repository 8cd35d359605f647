-- What a pop that asks a closure first says of a list.
use Rattle.std.{
  proofs.{
    Common.{◌≡◌, ◌-◌, ◌+◌, List, [], ◌∷◌, ◌++◌, length, take, drop, slice_get, slice_set, Option},
    Common.{Some, refl, arith, Bool, inr, sym},
    lemmas.List.{set_split, drop_all, length-set},
  },
  specs.{
    Bool.then_some,
    Borrow.MutBor,
    Fn.{Once, FnOnceReturnsAtMut},
    List.Retain.{PopsIf, PopsFrontIf},
    Prelude.if◌then◌else◌,
  },
}
use Rattle.arraydeque_ring.proofs.{LastPopped.last_and_rest, places.Items.slice_get-set}

module _ {X : Type 0} where
  -- another item instead of the first
  pub set_first : (xs : List X) (x y : X) → Some x ≡ slice_get xs 0 → slice_set xs 0 y ≡ y ∷ drop 1 xs
  set_first [] x y none = absurd cc
  set_first (z ∷ zs) x y some = refl

  -- or of the last
  pub set_last : (xs : List X) (x y : X) → Some x ≡ slice_get xs (length xs - 1)
      → slice_set xs (length xs - 1) y ≡ take (length xs - 1) xs ++ y ∷ []
  set_last [] x y none = absurd cc
  set_last (z ∷ zs) x y some =
      let k = length (z ∷ zs) - 1 in
      grind (arith, set_split (z ∷ zs) k y (omega arith), drop_all (k + 1) (z ∷ zs))

  -- which is the last item then
  pub last_set : (xs : List X) (x y : X) (r : Option X) → Some x ≡ slice_get xs (length xs - 1)
      → r ≡ (let ys = slice_set xs (length xs - 1) y in slice_get ys (length ys - 1)) → r ≡ Some y
  last_set [] x y r none is = absurd cc
  last_set (z ∷ zs) x y r some is =
      let k = length (z ∷ zs) - 1 in
      grind (arith, length-set (z ∷ zs) k y, slice_get-set)

  first_and_rest : (xs : List X) (x : X) → Some x ≡ slice_get xs 0 → xs ≡ x ∷ drop 1 xs
  first_and_rest [] x none = absurd cc
  first_and_rest (z ∷ zs) x some = cc

module _ {F X : Type 0} (g : Once F (MutBor X × Unit {0}) (Bool × (MutBor X × Unit {0}))) (f : F)
    (xs new : List X) (x y : X) (b : Bool) (r : Option X) (said : FnOnceReturnsAtMut g f x b y)
    (is : r ≡ then_some b y) where
  -- the closure was asked about the first item
  pub pops_front : Some x ≡ slice_get xs 0 → new ≡ (if b then drop 1 xs else y ∷ drop 1 xs)
      → PopsFrontIf g xs new f r
  pops_front first left = inr (drop 1 xs, x, b, y, first_and_rest xs x first, said, is, left)

  -- or about the last
  pub pops_back : Some x ≡ slice_get xs (length xs - 1)
      → new ≡ (let rest = take (length xs - 1) xs in if b then rest else rest ++ y ∷ []) → PopsIf g xs new f r
  pops_back last left = inr (take (length xs - 1) xs, x, b, y, sym (last_and_rest xs x last), said, is, left)
