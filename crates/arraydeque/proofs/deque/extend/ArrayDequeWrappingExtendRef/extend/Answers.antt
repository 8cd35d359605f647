use Rattle.std.specs.Iterator.Adapters.{copied_source}
use Rattle.arraydeque.proofs.{CopiedFrom.drains_copied, Taken.{TakesAll-drains, TakesAll-ends}}
use Rattle.arraydeque.proofs.deque.extend.ArrayDequeWrappingExtendRef.extend.Goals as goal

pub returns-clause-taken : goal.returns-clause-taken
returns-clause-taken g c =
    let all = TakesAll-drains c.extend_back.ensures.taken in
    let from = drains_copied g.I.IntoIter.Iterator.next_gives copied_source all.0 all.1 all.4 in
    TakesAll-ends (copied_source all.0) (rw (all.2, c.copied.ensures.source) c.into_iter.ensures.into_iter_gives)
    from.0 from.1 (rw from.2 all.3)

pub returns-clause-ran : goal.returns-clause-ran
returns-clause-ran g c = TakesAll-drains (returns-clause-taken g c)
