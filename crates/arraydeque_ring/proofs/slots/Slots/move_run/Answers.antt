use Rattle.std.proofs.Common.{arith}
use Rattle.arraydeque_ring.proofs.moved.TwoMoves.{round_run}
use Rattle.arraydeque_ring.proofs.slots.Slots.move_run.Goals as goal

pub move_apart-requires-clause-filled : goal.move_apart-requires-clause-filled
move_apart-requires-clause-filled g c = round_run _ _ _ c.requires.source c.requires.filled

pub move_apart-requires-clause-apart : goal.move_apart-requires-clause-apart
move_apart-requires-clause-apart g c = λ k from to from' to'. grind arith
