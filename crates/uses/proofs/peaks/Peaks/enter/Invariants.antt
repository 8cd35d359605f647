use Rattle.std.proofs.Common.{◌≡◌, length}
use Rattle.uses.proofs.Rising.{fallen, UnchangedOrFewer}
use Rattle.uses.proofs.peaks.Peaks.enter.Given as goal

abbrev pub invariant-loop : goal.invariant-loop
invariant-loop g l = record {
  same : fallen l.sample l.self-inside.peaks.items ≡ fallen l.sample l.fn.self;
  unchanged_or_fewer : UnchangedOrFewer l.self-inside.peaks.items l.fn.self;
}

abbrev pub decreases-loop : goal.decreases-loop
decreases-loop g l = length l.self-inside.peaks.items
