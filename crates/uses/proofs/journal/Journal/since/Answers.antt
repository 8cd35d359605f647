use Rattle.std.{
  proofs.{
    Common.{ltb, ◌∙◌, rules, arith},
    lemmas.{
      Bool.Decides.nat_tests,
      List.{take_rest, Sorted.{IsPartitionedBy-ltb, IsPartitionPoint-from_clause}},
    },
  },
  specs.Prelude.nat_le,
}
use Rattle.arraydeque.proofs.Partitioned.{drop-filter}
use Rattle.uses.proofs.journal.Journal.since.Goals as goal

pub returns : goal.returns
returns g c =
    let time = c.args.time in
    let entries = c.self.inside.entries.items in
    let from = c.partition_point-from.result in
    let found = c.partition_point-from.ensures in
    let point = IsPartitionPoint-from_clause (λ entry. ltb entry.0 time) entries from found.partitioned
    (IsPartitionedBy-ltb (λ entry. entry.0) entries time c.self.invariant) (λ a r f k. search rules) in
    let later = drop-filter (λ entry. ltb entry.0 time) (λ entry. nat_le time entry.0)
    (λ entry. grind (arith, nat_tests)) entries from found.bound point in
    rw (← c.self.view_is) (c.range.ensures.value ∙ take_rest entries from ∙ later)
