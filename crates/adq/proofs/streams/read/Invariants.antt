use Rattle.std.{proofs.Common.{◌≡◌, ◌++◌, ℕ, List}, specs.Io.KnownBytes.Consumes}
use Rattle.adq.proofs.streams.read.Given as goal

-- what was read so far, and nothing else, is what the reader lost
abbrev pub invariant-loop : goal.invariant-loop
invariant-loop g l = (bs : List ℕ) × (l.text.items ≡ l.fn.text.items ++ bs)
    × Consumes (g.R.Read.remaining l.fn.input) (g.R.Read.remaining l.input) bs
