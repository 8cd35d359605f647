use Rattle.std.{proofs.Common.{ℕ, List, All}, specs.Iterator.{IsFinite, size}}
use Rattle.arraydeque.specs.Lookahead.{HasRest, TakesOff}
use Rattle.uses.{proofs.Cut.AreCut, specs.Tokens.{joined, IsOfOneKind, IsOneByteIfSign}}
use Rattle.uses.proofs.tokens.tokenize.Given as goal

abbrev pub invariant-loop-alloc : goal.invariant-loop-alloc
invariant-loop-alloc g l = record {
  taken : TakesOff g.I.Iterator.next_gives l.fn.scanner (joined l.tokens.items) l.scanner;
  one_kind : All IsOfOneKind l.tokens.items;
  signs : All IsOneByteIfSign l.tokens.items;
  longest : (rest : List ℕ) → HasRest g.I.Iterator.next_gives l.scanner rest → AreCut l.tokens.items rest;
  ends : IsFinite l.scanner.left;
}

abbrev pub decreases-loop-alloc : goal.decreases-loop-alloc
decreases-loop-alloc g l = size l.scanner.left
