-- What runs of edits stand for, and that they are as long as can be.
use Rattle.std.specs.{
  List.{flat_map, AllAdjacentBelow},
  Prelude.{◌≡◌, ℕ, List, length, replicate},
}
use Rattle.uses.specs.declared.edits.{Edit.Edit, Run.Run}

-- the edits of runs, one after the other
abbrev pub written_out : List Run → List Edit
written_out runs = flat_map (λ run. replicate run.count run.edit) runs

-- no two runs could be one of at most n edits: those side by side are of different kinds, or the
-- first has n
abbrev pub AreMerged : ℕ → List Run → Type 0
AreMerged n runs = AllAdjacentBelow
    (λ run next. run.edit ≡ next.edit → run.count ≡ n) runs (length runs)
