use Rattle.std.proofs.Common.{◌≡◌, ◌++◌, [], length}
use Rattle.uses.proofs.pipe.Pipe.send.Given as goal

abbrev pub invariant-loop-rest : goal.invariant-loop-rest
invariant-loop-rest g l = record {
  empty : l.self ≡ [];
  sent : l.into.items ++ l.rest ≡ l.fn.into.items ++ l.text;
}

abbrev pub decreases-loop-rest : goal.decreases-loop-rest
decreases-loop-rest g l = length l.rest
