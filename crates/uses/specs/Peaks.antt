-- The peaks of samples, and the largest of them.
use Rattle.std.specs.{
  Prelude.{ℕ, List, [], ◌∷◌, max, nat_lt, if◌then◌else◌, Option, None, Some, unwrap_or},
}

-- a sample before the peaks of those behind it: it is one, unless the first of these exceeds it
abbrev pub before : ℕ → List ℕ → List ℕ
before x [] = x ∷ []
before x (peak ∷ peaks) = if nat_lt x peak then peak ∷ peaks else x ∷ peak ∷ peaks

-- the samples that no later one exceeds
abbrev pub peaks_of : List ℕ → List ℕ
peaks_of [] = []
peaks_of (x ∷ xs) = before x (peaks_of xs)

-- the largest sample, if there is one
abbrev pub largest : List ℕ → Option ℕ
largest [] = None
largest (x ∷ xs) = Some (max x (unwrap_or (largest xs) 0))
