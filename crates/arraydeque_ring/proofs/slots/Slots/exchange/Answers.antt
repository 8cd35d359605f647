use Rattle.arraydeque_ring.proofs.places.Filled.{exchanged}
use Rattle.arraydeque_ring.proofs.slots.Slots.exchange.Goals as goal

pub returns-clause-places : goal.returns-clause-places
returns-clause-places g c =
    rw (c.count.ensures, c.write-2.ensures, c.write.ensures, c.read-right.ensures.region, c.read-left.ensures.region)
    (exchanged c.args.self.now.places c.args.a c.args.b c.read-left.result c.read-right.result c.if-a-b.false
    c.read-left.ensures.value (rw c.read-left.ensures.region at c.read-right.ensures.value))
