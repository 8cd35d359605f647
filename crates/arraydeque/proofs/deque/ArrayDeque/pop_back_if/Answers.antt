use Rattle.std.proofs.{Common.{refl, arith, true, false}, lemmas.List.{length-set, take-set}}
use Rattle.arraydeque.proofs.PoppedIf.{pops_back, set_last, last_set}
use Rattle.arraydeque.proofs.deque.ArrayDeque.pop_back_if.Goals as goal

pub returns-then-predicate-clause-cases : goal.returns-then-predicate-clause-cases
returns-then-predicate-clause-cases g c =
    let last = c.in_ok-item.ensures.value in
    let y = c.predicate.new.arg2 in
    pops_back g.P.FnOnce c.args.predicate _ _ _ y true _
    (record { shown = c.in_ok-item.item; shows = refl; left = _; met = c.if-predicate.ensures; leaves = refl })
    (last_set c.args.self.now.items _ y _ last c.pop_back.ensures.value) last (grind (arith, length-set, take-set))

pub returns-else-predicate-clause-cases : goal.returns-else-predicate-clause-cases
returns-else-predicate-clause-cases g c =
    let last = c.in_ok-item.ensures.value in
    pops_back g.P.FnOnce c.args.predicate _ _ _ _ false _
    (record { shown = c.in_ok-item.item; shows = refl; left = _; met = c.if-predicate.ensures; leaves = refl })
    refl last (set_last c.args.self.now.items c.in_ok-item.item.now c.predicate.new.arg2 last)
