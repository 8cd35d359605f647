use Rattle.std.proofs.Common.{◌≡◌, ◌-◌, ◌≤◌, length}
use Rattle.arraydeque.specs.Lookahead.{Advances}
use Rattle.arraydeque.proofs.lookahead.Scanner.advance.Given as goal

abbrev pub invariant-loop-gone : goal.invariant-loop-gone
invariant-loop-gone g l = record {
  advances : Advances g.I.Iterator.next_gives g.I.Iterator.remaining l.fn.self l.gone l.self;
  buffered : l.gone ≤ length l.fn.self.buffer → l.self.iter ≡ l.fn.self.iter;
  ended : l.self.ended ≡ l.fn.self.ended;
  most : l.gone ≤ l.count;
}

abbrev pub decreases-loop-gone : goal.decreases-loop-gone
decreases-loop-gone g l = l.count - l.gone
