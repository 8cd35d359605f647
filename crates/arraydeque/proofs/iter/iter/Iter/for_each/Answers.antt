use Rattle.std.{
  proofs.{Common.{◌≡◌, ◌++◌, refl}, iter.runs.Folds.for_each_runs},
  specs.Iterator.YieldsFirstRef,
}
use Rattle.arraydeque.proofs.Walked.{callable_first, callable_second, walked_both}
use Rattle.arraydeque.proofs.iter.iter.Iter.for_each.Goals as goal

pub call_on_each-f-requires-clause-callable : goal.call_on_each-f-requires-clause-callable
call_on_each-f-requires-clause-callable g c =
    let may = rw (← c.self.view_is) at c.requires.callable in
    callable_first (λ x. x.now) (λ xs. xs) (λ xs ys. xs ++ ys) (λ xs ys. refl) (λ z. z.rest.now) (λ z w. w ≡ z) _
    _ _ c.into_iter.result c.into_iter.ensures.into_iter_gives.0 may

pub call_on_each-requires-clause-callable : goal.call_on_each-requires-clause-callable
call_on_each-requires-clause-callable g c =
    let may = rw (← c.self.view_is) at c.requires.callable in
    callable_second (λ x. x.now) (λ xs. xs) (λ xs ys. xs ++ ys) (λ xs ys. refl) (λ z. z.rest.now) (λ z w. w ≡ z) _ _ _
    _ c.into_iter.ensures.into_iter_gives.0 c.call_on_each-f.ensures _ c.into_iter-2.ensures.into_iter_gives.0 may

pub returns : goal.returns
returns g c =
    let ran = walked_both (λ x. x.now) (λ xs. xs) (λ xs ys. xs ++ ys) (λ xs ys. refl) (λ z. z.rest.now)
    (λ z w. w ≡ z) _ _ _ c.into_iter.result c.into_iter.ensures.into_iter_gives.0 c.call_on_each-f.ensures
    c.into_iter-2.result c.into_iter-2.ensures.into_iter_gives.0 c.call_on_each.ensures in
    rw (← c.self.view_is)
    (record { ran = ran; runs = for_each_runs (YieldsFirstRef (λ ys. ys)) _ g.F.FnMut c.args.f ran })
