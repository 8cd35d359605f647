use Rattle.std.proofs.Common.{rules}
use Rattle.arraydeque.proofs.SortedInsert.{IsNonDecreasingBy-insert_behind}
use Rattle.uses.proofs.median.put_in.Goals as goal

pub returns-clause-rises : goal.returns-clause-rises
returns-clause-rises g c = IsNonDecreasingBy-insert_behind (λ y. y) _ _ _ _ c.insert.ensures.items
    c.insert.ensures.unchanged c.requires.rises c.partition_point-behind.ensures.bound
    c.partition_point-behind.ensures.partitioned (λ a r q k. search rules)
