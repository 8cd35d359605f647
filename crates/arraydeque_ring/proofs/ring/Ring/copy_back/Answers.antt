use Rattle.std.proofs.{
  Common.{arith, rules},
  lemmas.{Grind.common_steps, List.{length-append, length-take-le}},
}
use Rattle.arraydeque_ring.proofs.Opened.{rest_empty, piece_facts}
use Rattle.arraydeque_ring.proofs.ring.Ring.copy_back.Goals as goal

pub put_copies-requires-clause-there : goal.put_copies-requires-clause-there
put_copies-requires-clause-there g c = grind (arith, common_steps, rest_empty)

pub returns-clause-within : goal.returns-clause-within
returns-clause-within g c = search (rules, piece_facts, length-append, length-take-le)
