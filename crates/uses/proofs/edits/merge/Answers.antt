use Rattle.std.proofs.{
  Common.{◌≡◌, [], ◌∷◌, ◌++◌, ◌≤◌},
  lemmas.{Grind.flat_map-append, List.Elements.All-push},
}
use Rattle.arraydeque.proofs.Scanned.{TakesOff-append}
use Rattle.uses.{
  proofs.Merged.{AreMergedBefore-push, full-by},
  specs.Edits.written_out,
}
use Rattle.uses.proofs.edits.merge.Goals as goal

pub loop-edits-preserved : goal.loop-edits-preserved
loop-edits-preserved g c =
    let was = c.loop-edits.invariant in
    let run = c.in-Some.run' in
    let next = c.in-Some.ensures in
    let pushed : c.push_reserved.new.self.items ≡ c.loop-edits.runs.items ++ run ∷ [] = cc in
    record {
      taken = rw (pushed, flat_map-append)
          (TakesOff-append g.I.Iterator.next_gives c.args.edits.now c.loop-edits.edits c.next_run.new.edits
          (written_out c.loop-edits.runs.items) (written_out (run ∷ [])) was.taken next.taken);
      within = rw pushed
          (All-push (λ run. run.count ≤ g.row.AHEAD) c.loop-edits.runs.items run was.within next.within);
      merged = λ rest has. rw pushed
          (AreMergedBefore-push g.row.AHEAD c.loop-edits.runs.items run rest
          (was.merged (written_out (run ∷ []) ++ rest) (next.taken rest has)) next.some
          (full-by g.row.AHEAD run rest next.within (λ less. next.longest less rest has)));
      ends = (next.goes.on was.ends).1;
    }
