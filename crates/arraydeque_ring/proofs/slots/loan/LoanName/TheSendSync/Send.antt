use denote.{Param.Send.IsSend, RattleType.RattleType, Ref.NamedLft}
use Rattle.arraydeque_ring.{
  proofs.memory.Threads.LoanName-send,
  specs.contracts.slots.loan.LoanName.the_row,
}

pub send : (κ : NamedLft) (R : RattleType) → IsSend R → IsSend (the_row κ R)
send κ R s = LoanName-send κ R
