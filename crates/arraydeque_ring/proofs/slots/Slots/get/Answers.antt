use Rattle.arraydeque_ring.proofs.places.Filled.{is_filled_run}
use Rattle.arraydeque_ring.proofs.slots.Slots.get.Goals as goal

pub slice-requires : goal.slice-requires
slice-requires g c = is_filled_run _ _ c.requires
