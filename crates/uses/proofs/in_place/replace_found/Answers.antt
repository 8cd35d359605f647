use Rattle.std.{
  proofs.Common.{◌∙◌, subst, to_z-of_z},
  specs.{List.Sorted.IsBinarySearchResult, Ordering.int_cmp},
}
use Rattle.uses.proofs.in_place.replace_found.Goals as goal

pub returns-in_default-clause-position : goal.returns-in_default-clause-position
returns-in_default-clause-position g c =
    let found = c.binary_search-found in
    subst
    (λ items. IsBinarySearchResult (λ item. int_cmp item c.args.wanted) items found.result)
    (c.as_mut_slice-items.ensures.value ∙ c.linearize.ensures.items)
    (simp (to_z-of_z c.ranges.wanted) at found.ensures.position)
