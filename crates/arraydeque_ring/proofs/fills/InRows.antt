-- Items that come one by one behind the last item or before the first.
use Rattle.std.proofs.{
  Common.{◌≡◌, ℕ, ◌-◌, ◌*◌, List, ◌++◌, length, reverse, sym, arith},
  lemmas.List.{append_assoc, length-append, reverse-append},
}
use Rattle.arraydeque_ring.{
  proofs.places.Rotated.place_of-sum,
  specs.{Ring.{RingState, down_by}, Steps.more_puts},
}

module _ {X : Type 0} (xs ys : List X) where
  -- to go down once for each of xs and then for each of ys is to go down for all
  pub down_by-all : (s n : ℕ) → down_by (length ys) (down_by (length xs) s n) n ≡ down_by (length (xs ++ ys)) s n
  down_by-all s n = rw length-append (grind (arith, place_of-sum s (length xs * (n - 1)) (length ys * (n - 1)) n))

  -- those that went in last stand first
  pub all_before : (zs : List X) → reverse ys ++ (reverse xs ++ zs) ≡ reverse (xs ++ ys) ++ zs
  all_before zs = rw reverse-append (sym (append_assoc (reverse ys) (reverse xs) zs))

module _ {X : Type 0} where
  -- xs came behind the last item
  abbrev pub filled_back : List X → RingState X → RingState X
  filled_back xs v = record v { items = v.items ++ xs; steps = more_puts (length xs) v.steps }

  -- xs came before the first item, one after the other
  abbrev pub filled_front : List X → RingState X → RingState X
  filled_front xs v = record v {
    items = reverse xs ++ v.items;
    start = down_by (length xs) v.start v.capacity;
    steps = more_puts (length xs) v.steps;
  }

  pub filled_back-both : (v : RingState X) (xs ys : List X)
      → filled_back ys (filled_back xs v) ≡ filled_back (xs ++ ys) v
  filled_back-both v xs ys = grind (arith, append_assoc, length-append)

  pub filled_front-both : (v : RingState X) (xs ys : List X)
      → filled_front ys (filled_front xs v) ≡ filled_front (xs ++ ys) v
  filled_front-both v xs ys = grind (arith, all_before, down_by-all, length-append)
