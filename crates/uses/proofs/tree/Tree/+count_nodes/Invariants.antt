use Rattle.std.proofs.Common.{◌≡◌, ◌+◌, ◌≤◌, map, sum}
use Rattle.uses.specs.Tree.{node_count}
use Rattle.uses.proofs.tree.Tree.+count_nodes.Given as goal

abbrev pub decreases-count_nodes : goal.decreases-count_nodes
decreases-count_nodes l = node_count l.self.now

abbrev pub invariant-loop-branch : goal.invariant-loop-branch
invariant-loop-branch l = record {
  some : 1 ≤ l.count;
  total : l.count + sum (map node_count l.branch-iterator) ≡ node_count l.self;
}
