use Rattle.std.proofs.Common.{length, take}
use Rattle.adq.specs.Line.{lines_of, LinesName}
use Rattle.adq.proofs.line.calls.Given as goal

-- the lines so far name the calls so far
abbrev pub invariant-loop-index : goal.invariant-loop-index
invariant-loop-index l = LinesName (take (length l.yielded) (lines_of l.text)) l.calls.items
