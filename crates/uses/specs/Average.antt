-- The mean of numbers.
use Rattle.std.specs.Prelude.{ℕ, ◌/◌, List, length, sum}

-- their sum over how many they are, rounded down
abbrev pub mean : List ℕ → ℕ
mean xs = sum xs / length xs
