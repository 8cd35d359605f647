use Rattle.std.{proofs.Common.{◌≡◌, ◌<◌, All, length}, specs.Iterator.{IsFinite, size}}
use Rattle.arraydeque.specs.Lookahead.{TakesOff}
use Rattle.uses.specs.{declared.tokens.Kind.TheVariants.Sign, Tokens.kind_of}
use Rattle.uses.proofs.tokens.next_token.Given as goal

abbrev pub invariant-loop-scanner : goal.invariant-loop-scanner
invariant-loop-scanner g l = record {
  taken : TakesOff g.I.Iterator.next_gives l.fn.scanner l.text.items l.scanner;
  some : 0 < length l.text.items;
  one_kind : All (λ byte. kind_of byte ≡ l.kind) l.text.items;
  signs : l.kind ≡ Sign → length l.text.items ≡ 1;
  ends : IsFinite l.scanner.left;
  goes : size l.scanner.left < size l.fn.scanner.left;
}

abbrev pub decreases-loop-scanner : goal.decreases-loop-scanner
decreases-loop-scanner g l = size l.scanner.left
