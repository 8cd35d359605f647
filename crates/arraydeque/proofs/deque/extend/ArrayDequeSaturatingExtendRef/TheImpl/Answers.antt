use Rattle.arraydeque.proofs.deque.extend.ArrayDequeSaturatingExtendRef.TheImpl.Goals as goal

pub extend-asks : goal.extend-asks
extend-asks g c it became = let asked = c.requires it became in (asked.0, asked.1)
