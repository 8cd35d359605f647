use Rattle.std.proofs.Common.{◌≡◌, ◌++◌, replicate}
use Rattle.uses.proofs.edits.count_equal.Given as goal

abbrev pub invariant-loop-other : goal.invariant-loop-other
invariant-loop-other l = l.fn.edits ≡ replicate l.count l.edit ++ l.other-iterator
