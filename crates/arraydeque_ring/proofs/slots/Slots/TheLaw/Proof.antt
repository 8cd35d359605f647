-- A `&` to a region reaches each value in its places. Assumes `Logic`.
use mathlib.Core.List.{[], ◌++◌}
use base.Fml.{Incl-trans}
use contract.BorrowLft.{meet_⊑_left}
use denote.{
  Param.{Laws.Laws, Shared.copy_shared},
  RattleType.RattleType,
  Struct.{
    Field.{RawPtr-field, usize-field},
    Laws.{field_copy, RawPtr-copy, usize-copy, unit-copy},
    Lending.of_Lends,
  },
}
use Rattle.arraydeque_ring.proofs.{
  memory.Sharing.{slots_shr_laws, Lends-slots},
  slots.Slots.TheLaw.Statement.statement,
}
use Rattle.std.specs.contracts.alloc.Global as heap
use Rattle.std.specs.contracts.rt.Memory as memory
use Rattle.arraydeque_ring.specs.contracts.slots.Slots.TheInside as inside

pub shares : (R : RattleType) (L : Laws R) → statement R L
shares R L =
    let pointer = copy_shared RawPtr-field RawPtr-copy in
    let capacity = copy_shared usize-field usize-copy in
    let alloc =
    copy_shared heap.the_field (field_copy heap.the_type (field_copy memory.the_type (unit-copy, tt), tt)) in
    of_Lends (inside.struct R) (inside.the_codes R.Denot R.coded heap.the_row.coded) (inside.the_heap R)
    (inside.the_lent R)
    (λ d p. slots_shr_laws R L.shr_laws d.ptr d.places) (pointer, (capacity, (alloc, tt)))
    (λ M 𝓤 𝓛 d p. Lends-slots 𝓛 (inside.the_row R).lives R L
    (Incl-trans (meet_⊑_left (R.lives ++ []) _) (meet_⊑_left R.lives [])) d.alloc d.ptr d.places)
