use Rattle.std.proofs.{
  Common.{◌≢◌, ℤ, to_z, of_z, w64, rules},
  lemmas.List.Elements.{All-cons, All-tail},
}
use Rattle.arraydeque_callers.proofs.writing.fill_until.Goals as goal

pub loop-found-preserved : goal.loop-found-preserved
loop-found-preserved g c =
    let was = c.loop-found.invariant in
    let goes_on = λ (item : ℤ). item ≢ to_z w64 (of_z w64 c.args.stop) in
    let first = c.in-Some.ensures.steps in
    let differs : goes_on c.in-Some.found.now = search rules in
    record {
      found = λ all. All-tail goes_on _ _ (rw first at (was.found all));
      none = λ rest. was.none (rw first (All-cons goes_on _ _ differs rest));
    }
