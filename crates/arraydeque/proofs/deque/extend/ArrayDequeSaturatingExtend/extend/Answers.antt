use Rattle.std.proofs.{Common.arith, lemmas.List.take_all, Math.Seq.take-append_seam}
use Rattle.arraydeque.proofs.Taken.{TakesAll-fills, TakesAll-both, TakesAll-drains}
use Rattle.arraydeque.proofs.deque.extend.ArrayDequeSaturatingExtend.extend.Goals as goal

pub returns-then-ended-clause-taken : goal.returns-then-ended-clause-taken
returns-then-ended-clause-taken g c =
    let came = c.fill_back-ended.ensures.came in
    TakesAll-fills _ c.into_iter-elements.ensures.into_iter_gives came c.if-ended.true
    (grind (arith, came.holds, take_all _ came.items came.at_most))

pub returns-clause-taken : goal.returns-clause-taken
returns-clause-taken g c =
    let came = c.fill_back-ended.ensures.came in
    TakesAll-both _ c.into_iter-elements.ensures.into_iter_gives came c.if-ended.false c.drop_all.ensures
    (grind (arith, came.holds, came.all c.if-ended.false, take-append_seam came.items c.drop_all.ensures.items))

pub returns-clause-ran : goal.returns-clause-ran
returns-clause-ran g c = TakesAll-drains (returns-clause-taken g c)
