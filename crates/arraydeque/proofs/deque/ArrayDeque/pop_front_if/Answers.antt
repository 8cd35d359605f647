use Rattle.std.proofs.Common.{refl, arith, true, false}
use Rattle.arraydeque.proofs.PoppedIf.{pops_front, set_first}
use Rattle.arraydeque.proofs.deque.ArrayDeque.pop_front_if.Goals as goal

pub returns-then-predicate-clause-cases : goal.returns-then-predicate-clause-cases
returns-then-predicate-clause-cases g c =
    let first = c.in_ok-item.ensures.value in
    let is = set_first c.args.self.now.items c.in_ok-item.item.now c.predicate.new.arg2 first in
    pops_front g.P.FnOnce c.args.predicate _ _ _ _ true _
    (record { shown = c.in_ok-item.item; shows = refl; left = _; met = c.if-predicate.ensures; leaves = refl })
    (grind arith) first (grind arith)

pub returns-else-predicate-clause-cases : goal.returns-else-predicate-clause-cases
returns-else-predicate-clause-cases g c =
    let first = c.in_ok-item.ensures.value in
    pops_front g.P.FnOnce c.args.predicate _ _ _ _ false _
    (record { shown = c.in_ok-item.item; shows = refl; left = _; met = c.if-predicate.ensures; leaves = refl })
    refl first (set_first c.args.self.now.items c.in_ok-item.item.now c.predicate.new.arg2 first)
