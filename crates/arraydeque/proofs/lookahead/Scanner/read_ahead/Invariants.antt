use Rattle.std.{
  proofs.Common.{◌≡◌, ◌-◌, ◌≤◌, [], length, max, take, None},
  specs.Iterator.{IsFinite, UpTo, size},
}
use Rattle.arraydeque.specs.Lookahead.{HandsOut, Lowers}
use Rattle.arraydeque.proofs.lookahead.Scanner.read_ahead.Given as goal

abbrev pub invariant-loop-self : goal.invariant-loop-self
invariant-loop-self g l = record {
  hands_out : HandsOut g.I.Iterator.next_gives l.fn.self [] l.self;
  keeps : take (length l.fn.self.buffer) l.self.buffer ≡ l.fn.self.buffer;
  within : length l.self.buffer ≤ max (length l.fn.self.buffer) l.count;
  unchanged : l.count ≤ length l.fn.self.buffer → l.self ≡ l.fn.self;
  ended : l.self.ended ≡ l.fn.self.ended;
  left : IsFinite l.fn.self.left → UpTo l.self.left (size l.fn.self.left);
  lowers : Lowers g.I.Iterator.remaining l.fn.self None l.self;
}

abbrev pub decreases-loop-self : goal.decreases-loop-self
decreases-loop-self g l = l.count - length l.self.buffer
