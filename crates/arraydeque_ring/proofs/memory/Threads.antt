-- A region may cross threads as its items may. Assumes nothing.
use Rattle.std.{
  proofs.Crossing.frees,
  specs.{
    declared.alloc.Global.Global,
    Mem.type_size,
    Prelude.{ℕ, ◌+◌, ◌*◌, List, [], ◌∷◌, length, Option, Some, None, Bool, true, false, nat_lt},
  },
}
use base.{Fml.Fml, Fraction.full_share, Shift.Keyless}
use denote.{
  Exit.{Exit, unchanged, leaves, hidden, under},
  Param.Send.{IsSend, IsSync, Quiet, Common, AllSend, part_keyless, owning_send, struct_send},
  Param.Send.{struct_sync, sendable},
  RattleType.RattleType,
  RawPtr.{Ptr, block_ptr, null_ptr},
  Ref.NamedLft,
  Struct.{Owning.{shape, fields, to}, Struct.exits_of},
}
use Rattle.arraydeque_ring.specs.{
  Ownership.{owned_if, places_owned, places_lent, slots_owned, slots_lent},
}
use Rattle.arraydeque_ring.specs.contracts.slots.loan.LoanName as loan_name
use Rattle.arraydeque_ring.specs.contracts.slots.Slots.TheInside as inside

-- what the fields leave names no thread, whatever hides it
quiet : {D X : Type 0} (to : D → X) (e : Exit X) → Quiet e → Quiet (hidden (under to e))
quiet to unchanged q = λ x w. tt
quiet to (leaves L l S s r₀) q = λ d. q (to d)

-- what a test leaves of F names no thread where F names none
owned_if-Keyless : (test : Bool) (F : Fml) → Keyless F → Keyless (owned_if test F)
owned_if-Keyless true F k = k
owned_if-Keyless false F k = tt

module _ (R : RattleType) where
  -- the places own what their values own
  places-Keyless : IsSend R → (b o : ℕ) (ps : List (Option R.Denot)) → Keyless (places_owned R b o ps)
  places-Keyless s b o [] = tt
  places-Keyless s b o (Some x ∷ ps) = (part_keyless R s full_share x b o, places-Keyless s b (o + type_size R) ps)
  places-Keyless s b o (None ∷ ps) = (tt, places-Keyless s b (o + type_size R) ps)

  -- a region owns what its values own, and any thread may free the block
  slots-Keyless : IsSend R → (alloc : Global) (p : Ptr) (ps : List (Option R.Denot))
      → Keyless (slots_owned R alloc p ps)
  slots-Keyless s alloc (block_ptr b o) ps =
      (tt, (places-Keyless s b o ps, owned_if-Keyless (nat_lt 0 (length ps * type_size R)) _ (frees.frees alloc _ _)))
  slots-Keyless s alloc null_ptr ps = tt

  -- what is shown of the places is what is shown of their values
  places_lent-Common : IsSync R → (b o : ℕ) (ps : List (Option R.Denot)) → Common (places_lent R b o ps)
  places_lent-Common y b o [] κ = tt
  places_lent-Common y b o (Some x ∷ ps) κ = (y.shared x b o κ, places_lent-Common y b (o + type_size R) ps κ)
  places_lent-Common y b o (None ∷ ps) κ = (tt, places_lent-Common y b (o + type_size R) ps κ)

  -- a `&` to a region shows what the `&`s to its values show
  slots_lent-Common : IsSync R → (p : Ptr) (ps : List (Option R.Denot)) → Common (slots_lent R p ps)
  slots_lent-Common y (block_ptr b o) ps κ = (tt, places_lent-Common y b o ps κ)
  slots_lent-Common y null_ptr ps κ = tt

  -- the fields are `Send`, and what the region owns beside them names no thread
  pub Slots-send : IsSend R → IsSend (inside.the_row R)
  Slots-send s =
      let O = inside.the_type R in
      let all : AllSend (fields O) = search sendable depth 20 in
      owning_send O all (λ d. slots-Keyless s d.alloc d.ptr d.places)
      (λ k. quiet (to O) (exits_of k (fields O)) ((struct_send (shape O) all).leaving k))

  -- the fields are `Sync`, and what a `&` shows beside them names no thread
  pub Slots-sync : IsSync R → IsSync (inside.the_row R)
  Slots-sync y =
      let O = inside.the_type R in
      let all = struct_sync (shape O) (search sendable depth 20) in
      record { shared = λ d b o κ. (all.shared (to O d) b o κ, slots_lent-Common y d.ptr d.places κ) }

-- the name of a loan names no thread
pub LoanName-send : (κ : NamedLft) (R : RattleType) → IsSend (loan_name.the_row κ R)
LoanName-send κ R =
    let O = loan_name.the_type κ R in
    let all : AllSend (fields O) = (search sendable, tt) in
    owning_send O all (λ d. tt) (λ k. quiet (to O) (exits_of k (fields O)) ((struct_send (shape O) all).leaving k))

-- and a `&` to one shows what it owns
pub LoanName-sync : (κ : NamedLft) (R : RattleType) → IsSync (loan_name.the_row κ R)
LoanName-sync κ R = record { shared = λ d b o l q. part_keyless (loan_name.the_row κ R) (LoanName-send κ R) q d b o }
