-- The last item of a list.
use Rattle.std.proofs.{
  Common.{◌≡◌, ℕ, ◌-◌, List, [], ◌∷◌, ◌<◌, ◌++◌, length, drop, Some, arith},
  lemmas.{List.{length-append, drop-append-le}, Option.slice_get-get_or},
  Math.Seq.get_or-append_seam,
}
use Rattle.arraydeque.specs.Deque.{keep_last, last_item}

module _ {X : Type 0} where
  -- what comes behind all others is the last item
  pub last_item-append : (xs : List X) (x : X) → last_item (xs ++ x ∷ []) ≡ Some x
  last_item-append xs x =
      let ys = xs ++ x ∷ [] in
      grind (arith, length-append xs (x ∷ []), slice_get-get_or ys (length xs) x, get_or-append_seam xs x [] x)

  -- and so it is where only the last n are kept
  pub last_item-kept : (n : ℕ) (xs : List X) (x : X) → 0 < n → last_item (keep_last n (xs ++ x ∷ [])) ≡ Some x
  last_item-kept n xs x some =
      let k = length (xs ++ x ∷ []) - n in
      grind (arith, length-append xs (x ∷ []), drop-append-le k xs (x ∷ []), last_item-append (drop k xs) x)

-- the last item after a push
pub ruleset last_item_rules = (last_item-append, last_item-kept)
