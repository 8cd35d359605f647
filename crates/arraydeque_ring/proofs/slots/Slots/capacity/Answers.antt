use Rattle.std.proofs.Common.{length, ap, ◌∙◌}
use Rattle.arraydeque_ring.specs.Places.{Region}
use Rattle.arraydeque_ring.proofs.slots.Slots.capacity.Goals as goal

pub returns : goal.returns
returns g c = c.self.invariant ∙ ap (λ (region : Region g.row.T.Denot). length region.places) c.self.view_is
