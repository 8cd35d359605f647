use Rattle.std.{
  proofs.{Common.{◌≡◌, List, length, refl, arith}, iter.runs.Folds.for_each_runs},
  specs.Iterator.YieldsFirstMut,
}
use Rattle.arraydeque_ring.specs.Loans.{LoanState, remaining}
use Rattle.arraydeque.proofs.Walked.{callable_first, callable_second, walked_both}
use Rattle.arraydeque.proofs.iter.iter_mut.IterMut.for_each.Goals as goal

-- the loan, with these values left in its slices
abbrev left : {X : Type 0} → LoanState X → List X → List X → LoanState X
left loan xs ys = record loan { first = record loan.first { now = xs }; second = record loan.second { now = ys } }

pub call_on_each-f-requires-clause-callable : goal.call_on_each-f-requires-clause-callable
call_on_each-f-requires-clause-callable g c =
    let loan = c.args.self in
    callable_first (λ x. x.now) remaining (left loan) (λ xs ys. refl) (λ z. z.s.now) (λ z w. length w.s.now ≡ 0) _
    loan.first.now loan.second.now c.into_iter.result (grind arith) c.requires.callable

pub call_on_each-requires-clause-callable : goal.call_on_each-requires-clause-callable
call_on_each-requires-clause-callable g c =
    let loan = c.args.self in
    callable_second (λ x. x.now) remaining (left loan) (λ xs ys. refl) (λ z. z.s.now) (λ z w. length w.s.now ≡ 0) _
    loan.first.now loan.second.now c.into_iter.result (grind arith) c.call_on_each-f.ensures
    c.into_iter-2.result (grind arith) c.requires.callable

pub returns : goal.returns
returns g c =
    let loan = c.args.self in
    let ran = walked_both (λ x. x.now) remaining (left loan) (λ xs ys. refl) (λ z. z.s.now)
    (λ z w. length w.s.now ≡ 0) _ loan.first.now loan.second.now
    c.into_iter.result (grind arith) c.call_on_each-f.ensures c.into_iter-2.result (grind arith) c.call_on_each.ensures
    in
    record { ran = ran; runs = for_each_runs (YieldsFirstMut remaining) loan g.F.FnMut c.args.f ran }
