-- Values that are lent for writing, in two slices.
use Rattle.std.specs.{
  Borrow.{GName, MutBor},
  Prelude.{ℕ, ◌+◌, ◌-◌, ◌<◌, ◌≤◌, List, ◌++◌, nat_le, if◌then◌else◌},
}

-- a loan: its two slices as they are now, and the name that the lender follows
pub record LoanState (X : Type 0) : Type 0 where
  pub first : MutBor (List X)
  pub second : MutBor (List X)
  pub name : GName

-- the values that are left to hand out
abbrev pub remaining : {X : Type 0} → LoanState X → List X
remaining loan = loan.first.now ++ loan.second.now

-- no place is one of the m from the place a on and one of the n from the place b on
abbrev pub AreApart : ℕ → ℕ → ℕ → ℕ → Type 0
AreApart a m b n = (k : ℕ) → a ≤ k → k < a + m → b ≤ k → k < b + n → ⊥

-- of n places that are read from the place `start` on, where those from an index on begin: its
-- place, or the region's end instead of the first place
abbrev pub place_from : ℕ → ℕ → ℕ → ℕ
place_from start index n =
    if nat_le index (n - start) then start + index else index - (n - start)
