use Rattle.std.{
  proofs.{
    Common.{[], subst, refl, sym, arith},
    iter.runs.Consumers.fold_runs,
    lemmas.Iterator.Consumers.{fold_from_yields_List, YieldsList-from_first},
  },
  specs.Iterator.YieldsFirstRef,
}
use Rattle.arraydeque.proofs.{
  Folded.{Folded, nothing_folded, slice_folded, all_folded, going, next_folded},
}
use Rattle.arraydeque.proofs.iter.iter.Iter.fold.Goals as goal

pub loop-item-init : goal.loop-item-init
loop-item-init g c =
    going _ _ 0 (subst (λ rest. Folded g.F.FnMut c.args.self c.args.f c.args.init rest c.args.f c.args.init)
    (sym c.self.view_is) (nothing_folded c.requires.callable))

pub loop-item-preserved : goal.loop-item-preserved
loop-item-preserved g c =
    going _ _ _ (next_folded _ _ _ c.loop-item.invariant.0 _ c.loop-item-test.true c.item-item.is c.f-total.ensures)

pub loop-item-2-init : goal.loop-item-2-init
loop-item-2-init g c = going _ _ 0 (slice_folded c.self.inside.first.now _ _ c.loop-item.invariant.0 (omega arith))

pub loop-item-2-preserved : goal.loop-item-2-preserved
loop-item-2-preserved g c = going _ _ _ (next_folded _ _ _ c.loop-item-2.invariant.0 _ c.loop-item-2-test.true
    c.item-item-in-loop-item-2.is c.f-total-in-loop-item-2.ensures)

pub returns : goal.returns
returns g c =
    let ran = all_folded (slice_folded c.self.inside.second.now [] _ c.loop-item-2.invariant.0 (omega arith)) in
    record {
      ran = ran;
      runs = fold_runs (YieldsFirstRef (λ xs. xs)) _ g.F.FnMut _ _ _ ran;
      value = λ h acts.
          fold_from_yields_List g.F.FnMut h _ _ ran (YieldsList-from_first (λ item. item.now) (λ xs. xs) _ refl) acts;
    }
