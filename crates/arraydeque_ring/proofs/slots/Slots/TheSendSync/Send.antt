use denote.{Param.Send.{IsSend, sendable}, RattleType.RattleType}
use Rattle.arraydeque_ring.{proofs.memory.Threads.Slots-send, specs.contracts.slots.Slots.the_row}

pub send : (R : RattleType) → IsSend R → IsSend (the_row R)
send R s = search (sendable, Slots-send)
