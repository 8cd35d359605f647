use Rattle.std.proofs.{Common.rules, lemmas.List.Elements.Contains-append_right}
use Rattle.arraydeque_ring.proofs.ring.Ring.clone.Goals as goal

pub clone_back-requires-2-clause-same : goal.clone_back-requires-2-clause-same
clone_back-requires-2-clause-same g c = λ x y held made.
    c.requires x y (rw (← c.as_slices.ensures.joined) (Contains-append_right _ _ x held)) made

pub returns-in_err-clone_back-2-clause-refused : goal.returns-in_err-clone_back-2-clause-refused
returns-in_err-clone_back-2-clause-refused g c =
    let was = c.in_err-clone_back-2.ensures.refused in
    let here = rw c.as_slices.ensures.joined at
    (Contains-append_right c.as_slices.result.0.now _ was.1 (was.0, was.2, was.3)) in
    search rules
