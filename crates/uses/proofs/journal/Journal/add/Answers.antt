use Rattle.std.proofs.{
  Common.{◌-◌, [], ◌∷◌, ◌++◌, length},
  lemmas.List.Sorted.IsNonDecreasingBy-drop,
}
use Rattle.uses.proofs.journal.Journal.add.Goals as goal

pub invariant_of-self : goal.invariant_of-self
invariant_of-self g c =
    let all = c.self.inside.entries.items ++ (c.args.time, c.args.value) ∷ [] in
    rw c.push_back.ensures.items (IsNonDecreasingBy-drop (λ entry. entry.0) (length all - g.row.CAP) all
    (rw (← c.self.view_is) at c.requires.in_turn))
