-- Bytes copied from one list and then from another into a third, as many as there is room for.
use Rattle.std.proofs.{
  Common.{◌≡◌, ℕ, ◌+◌, ◌-◌, List, ◌++◌, length, take, drop, min, arith},
  lemmas.List.{places, same_lists, drop_all},
}

module _ {X : Type 0} (xs ys bs : List X) (n m : ℕ) (all : n ≡ min (length (xs ++ ys)) (length bs))
    (first : m ≡ min n (length xs)) where
  abbrev ws : List X
  ws = take m xs

  abbrev front : List X
  front = ws ++ drop (0 + length ws) bs

  pub both_read : take m front ++ take (n - m) ys ++ drop (m + length (take (n - m) ys)) front
      ≡ take (length bs) (xs ++ ys) ++ drop (length (xs ++ ys)) bs
  both_read = same_lists _ _ (grind (arith, places)) (λ i d lt. grind (arith, places))

-- what was read, and what is left of m items where all but n are kept
pub read_rest : {X : Type 0} (xs bs : List X) (n m : ℕ) → n ≡ min (length xs) (length bs) → m ≡ length xs
    → take n (take (length bs) xs ++ drop (length xs) bs) ++ drop (length xs - (m - n)) xs ≡ xs
read_rest xs bs n m is all = same_lists _ _ (grind (arith, places)) (λ i d lt. grind (arith, places))

pub ruleset read_rules = (both_read, read_rest, drop_all)
