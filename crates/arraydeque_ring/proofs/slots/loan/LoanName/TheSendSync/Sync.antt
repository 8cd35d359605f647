use denote.{Param.Send.IsSync, RattleType.RattleType, Ref.NamedLft}
use Rattle.arraydeque_ring.{
  proofs.memory.Threads.LoanName-sync,
  specs.contracts.slots.loan.LoanName.the_row,
}

pub sync : (κ : NamedLft) (R : RattleType) → IsSync R → IsSync (the_row κ R)
sync κ R y = LoanName-sync κ R
