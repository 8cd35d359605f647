use Rattle.std.proofs.Common.{rules}
use Rattle.arraydeque.proofs.SortedInsert.{IsNonDecreasingBy-insert_behind}
use Rattle.uses.proofs.reorder.Reorder.put.Goals as goal

pub invariant_of-self : goal.invariant_of-self
invariant_of-self g c = IsNonDecreasingBy-insert_behind (λ piece. piece.0) _ _ _ _ c.insert.ensures.items
    c.insert.ensures.unchanged c.self.invariant c.partition_point-behind.ensures.bound
    c.partition_point-behind.ensures.partitioned (λ a r q k. search rules)

pub returns-clause-in_order : goal.returns-clause-in_order
returns-clause-in_order = invariant_of-self
