use Rattle.std.proofs.Common.{◌≡◌, length}
use Rattle.std.specs.List.Sorted.{IsNonDecreasing}
use Rattle.uses.specs.Limiter.{recent}
use Rattle.uses.proofs.limiter.Limiter.admit_in_turn.Given as goal

abbrev pub invariant-loop : goal.invariant-loop
invariant-loop g l = record {
  same : recent l.span l.now l.self-inside.admitted.items ≡ recent l.span l.now l.fn.self.times;
  rises : IsNonDecreasing l.self-inside.admitted.items;
  span : l.self-inside.span ≡ l.fn.self.span;
}

abbrev pub decreases-loop : goal.decreases-loop
decreases-loop g l = length l.self-inside.admitted.items
