use Rattle.std.proofs.{Common.{length, ap, ◌∙◌, arith}, lemmas.List.append-nil}
use Rattle.arraydeque_ring.proofs.{
  Opened.{opened, Shows, shows},
  places.{LaidOut.{rotated-LaidOut, LaidOut-from}, Rotated.length-rotated},
  ring.Ring.linearize.{Given.Over, Goals.After-rotate},
}
use Rattle.arraydeque_ring.proofs.ring.Ring.linearize.Goals as goal

-- once the rotated region is put back
after : (g : Over) (c : After-rotate g) → let old = c.args.self.now in
    Shows old.capacity 0 c.self.inside.len old.items c.rotate.result.places
after g c =
    let ring = opened c.self.inside c.self.invariant c.self.view_is in
    rw (c.rotate.ensures.places, c.move_out.ensures.region) (shows (LaidOut-from
    _ (length-rotated c.self.inside.start c.self.inside.slots.places ∙ ring.laid.length_is) (omega arith)
    (append-nil _ ∙ rotated-LaidOut ring.laid)) _ ring.len)

pub invariant_of-self : goal.invariant_of-self
invariant_of-self g c = let now = after g (goal.at.invariant_of-self g c).After-rotate in (now.1, now.2)

pub returns-clause-one_piece : goal.returns-clause-one_piece
returns-clause-one_piece g c =
    let ring = opened c.self.inside c.self.invariant c.self.view_is in
    let now = after g (goal.at.returns-clause-one_piece g c).After-rotate in
    omega (arith, ap length now.3)
