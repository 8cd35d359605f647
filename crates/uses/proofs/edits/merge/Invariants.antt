use Rattle.std.{
  proofs.Common.{◌≤◌, List, All},
  specs.Iterator.{IsFinite, size},
}
use Rattle.arraydeque.specs.Lookahead.{HasRest, TakesOff}
use Rattle.uses.{
  proofs.Merged.AreMergedBefore,
  specs.{declared.edits.Edit.Edit, Edits.written_out},
}
use Rattle.uses.proofs.edits.merge.Given as goal

abbrev pub invariant-loop-edits : goal.invariant-loop-edits
invariant-loop-edits g l = record {
  taken : TakesOff g.I.Iterator.next_gives l.fn.edits (written_out l.runs.items) l.edits;
  within : All (λ run. run.count ≤ g.row.AHEAD) l.runs.items;
  merged : (rest : List Edit) → HasRest g.I.Iterator.next_gives l.edits rest
      → AreMergedBefore g.row.AHEAD l.runs.items rest;
  ends : IsFinite l.edits.left;
}

abbrev pub decreases-loop-edits : goal.decreases-loop-edits
decreases-loop-edits g l = size l.edits.left
