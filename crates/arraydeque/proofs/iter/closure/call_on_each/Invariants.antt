use Rattle.std.specs.{Fn.Called, Iterator.{EndsFrom, items_left, CallableWhile}, List.FoldsTo}
use Rattle.std.proofs.iter.Next as it
use Rattle.arraydeque.proofs.iter.closure.call_on_each.Given as goal

abbrev pub invariant-loop-item : goal.invariant-loop-item
invariant-loop-item g l =
    it.Ran g.I.Iterator.can_next (EndsFrom g.I.Iterator.remaining) (items_left g.I.Iterator.remaining)
    g.I.Iterator.next_gives (λ xs. FoldsTo (λ p x q. Called g.F.FnMut p (x, tt) tt q) l.initial.f xs l.f)
    l.initial.items l.items
    × CallableWhile g.I.Iterator.next_gives g.F.FnMut tt l.items l.f

abbrev pub decreases-loop-item : goal.decreases-loop-item
decreases-loop-item g l = items_left g.I.Iterator.remaining l.items
