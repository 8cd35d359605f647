use Rattle.std.proofs.Common.{◌≡◌, ◌-◌, [], length, max}
use Rattle.uses.specs.Input.{HandsOut}
use Rattle.uses.proofs.input.BufferedInput.lookahead.Given as goal

abbrev pub invariant-loop-self : goal.invariant-loop-self
invariant-loop-self g l = record {
  len : max l.count (length l.self-inside.buffer.items) ≡ max l.count (length l.fn.self.buffer);
  reads : HandsOut g.I.Iterator.next_gives l.fn.self []
      (record { input = l.self-inside.input; buffer = l.self-inside.buffer.items });
}

abbrev pub decreases-loop-self : goal.decreases-loop-self
decreases-loop-self g l = l.count - length l.self-inside.buffer.items
