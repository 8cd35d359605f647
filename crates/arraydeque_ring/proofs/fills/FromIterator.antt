-- Loops that take items from an iterator, while there is room.
use Rattle.std.proofs.{
  Common.{◌≡◌, ℕ, ◌+◌, ◌≤◌, List, [], ◌∷◌, ◌++◌, length, Option, Some, Bool, true, false, refl},
  Common.arith,
  iter.runs.Lists.Yields-both,
  lemmas.List.length-append,
}
use Rattle.arraydeque_ring.specs.Fills.{Fills, Ends}

module _ {S A : Type 0} (gives : S → Option A → S → Type 0) where
  -- said of another bound, and of Q where it follows from P
  pub Fills-as : {from to : S} {n : ℕ} {ended : Bool} {P : List A → Type 0} (f : Fills gives from to n ended P) (m : ℕ)
      (Q : List A → Type 0) → length f.items ≤ m → (ended ≡ false → length f.items ≡ m) → ((xs : List A) → P xs → Q xs)
      → Fills gives from to m ended Q
  Fills-as f m Q le same holds = grind arith

  -- of two loops, where the iterator didn't end in the first
  pub Fills-both : {from mid to : S} {n m : ℕ} {ended over : Bool} {P Q : List A → Type 0}
      (first : Fills gives from mid n ended P) (then : Fills gives mid to m over Q) (R : List A → Type 0)
      → ended ≡ false → R (first.items ++ then.items) → Fills gives from to (n + m) over R
  Fills-both first then R some holds = grind (arith, Yields-both, length-append)

  -- and of a loop and one call more
  pub Fills-one : {from mid to : S} {n : ℕ} {P : List A → Type 0} (was : Fills gives from mid n false P) (x : A)
      → gives mid (Some x) to → (Q : List A → Type 0) → Q (was.items ++ x ∷ []) → Fills gives from to (n + 1) false Q
  Fills-one {mid = mid} {to = to} was x came Q holds = Fills-both {Q = λ _. gives mid (Some x) to} was (record {
    items = x ∷ [];
    last = to;
    yielded = (to, came, refl);
    at_most = omega arith;
    none = λ e. absurd (grind arith);
    all = λ _. (refl, refl);
    holds = came;
  }) Q refl holds

  -- and where it ended, all that came before the first None
  pub Ends-fills : {from to : S} {n : ℕ} {ended : Bool} {P Q : List A → Type 0} → Fills gives from to n ended P
      → ended ≡ true → ((xs : List A) → P xs → Q xs) → Ends gives from Q
  Ends-fills f over holds = grind arith
