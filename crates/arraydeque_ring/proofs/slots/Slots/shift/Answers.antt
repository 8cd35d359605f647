use Rattle.arraydeque_ring.proofs.slots.Slots.shift.Goals as goal

pub returns-clause-places : goal.returns-clause-places
returns-clause-places g c =
    rw (c.count.ensures, c.write.ensures, c.read-value.ensures.region, c.read-value.ensures.value)
