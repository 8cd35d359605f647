use denote.{Param.Send.{IsSync, sendable}, RattleType.RattleType}
use Rattle.arraydeque_ring.{proofs.memory.Threads.Slots-sync, specs.contracts.slots.Slots.the_row}

pub sync : (R : RattleType) → IsSync R → IsSync (the_row R)
sync R y = search (sendable, Slots-sync)
