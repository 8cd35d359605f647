-- The branches of a tree, and how many nodes it has.
use Rattle.std.specs.Prelude.{ℕ, ◌+◌, List, sum, Option, None, Some}
use Rattle.uses.specs.declared.tree.Tree.{
  Tree,
  TheFolds.fold-Tree,
  TheOpen.{Tree-F, Leaf, Fork},
  TheViews.out-Tree,
}

-- a fork's branches, where a leaf has none
abbrev pub branches_with : Tree-F Tree → Option (List Tree)
branches_with (Leaf label) = None
branches_with (Fork branches) = Some branches.items

-- the branches of a tree, if it is a fork
abbrev pub branches_of : Tree → Option (List Tree)
branches_of tree = branches_with (out-Tree tree)

-- one node, and those of its branches
abbrev pub nodes_with : Tree-F ℕ → ℕ
nodes_with (Leaf label) = 1
nodes_with (Fork branches) = 1 + sum branches.items

-- the nodes of a tree, leaves and forks
abbrev pub node_count : Tree → ℕ
node_count = fold-Tree ℕ nodes_with
