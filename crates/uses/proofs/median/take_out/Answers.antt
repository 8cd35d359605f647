use Rattle.std.proofs.{
  Common.{sym, rules},
  lemmas.List.Sorted.IsPermutation-remove,
}
use Rattle.arraydeque.proofs.SortedRemove.{IsNonDecreasingBy-remove, found_before}
use Rattle.uses.proofs.median.take_out.Goals as goal

pub returns : goal.returns
returns g c =
    let xs = c.args.ordered.now.items in
    let x = c.args.sample in
    let i = c.partition_point-index.result in
    let found = found_before (λ y. y) xs c.requires.rises x c.partition_point-index.ensures.partitioned
    (λ a r f k. search rules) c.requires.there in
    rw c.remove.ensures.items (record {
      none_lost = IsPermutation-remove xs i x found.0 (sym (found.1 x));
      rises = IsNonDecreasingBy-remove (λ y. y) xs c.requires.rises found.0;
    })
