use Rattle.std.{proofs.Common.{◌≡◌, ◌++◌, ℕ, List}, specs.Io.KnownBytes.Appends}
use Rattle.adq.proofs.streams.write.Given as goal

-- what is gone from the output was written, and nothing else
abbrev pub invariant-loop : goal.invariant-loop
invariant-loop g l = (done : List ℕ) × (l.fn.printed ≡ done ++ l.rest)
    × Appends (g.W.Write.contents l.fn.output) (g.W.Write.contents l.output) done
