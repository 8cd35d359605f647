-- What a window's sum is of.
use Rattle.std.specs.Prelude.{◌≡◌, ◌≤◌, ◌<◌, ◌^◌, ℕ, List, length, sum, All}

-- the total is the sum of at most n samples, and so few small ones that it fits
pub record Totals (n : ℕ) (samples : List ℕ) (total : ℕ) : Type 0 where
  pub summed : total ≡ sum samples
  pub within : length samples ≤ n
  pub few : n ≤ 2 ^ 32
  pub small : All (λ sample. sample < 2 ^ 32) samples
