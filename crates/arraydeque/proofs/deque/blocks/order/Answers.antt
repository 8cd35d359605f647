use Rattle.std.proofs.Common.{◌∙◌}
use Rattle.arraydeque.proofs.Sections.{slice_cmp_behind}
use Rattle.arraydeque.proofs.deque.blocks.order.Goals as goal

pub returns : goal.returns
returns g c = c.cmp.ensures ∙ slice_cmp_behind c.skip_equal_blocks.ensures g.T.Ord.cmp g.met.T.Ord.matches_eq
