use Rattle.std.{
  proofs.Common.{◌≡◌, ◌-◌, ℕ, List, false, All, length},
  specs.Iterator.IsFinite,
}
use Rattle.uses.specs.Input.{HandsOut, chars_left, is_breakz}
use Rattle.uses.proofs.input.BufferedInput.skip_while_non_breakz.Given as goal

abbrev pub invariant-loop-self : goal.invariant-loop-self
invariant-loop-self g l = record {
  ends : IsFinite (g.I.Iterator.remaining l.self.input);
  skipped : (cs : List ℕ) × All (λ c. is_breakz c ≡ false) cs
      × HandsOut g.I.Iterator.next_gives l.initial.self cs l.self
      × (length l.self.buffer ≡ length l.initial.self.buffer - length cs);
}

abbrev pub decreases-loop-self : goal.decreases-loop-self
decreases-loop-self g l = chars_left g.I.Iterator.remaining l.self
