-- A `&` to a region can be made, copied and shortened where a `&` to an item can. Assumes `Logic`.
use Prim.Native.Nat.{ℕ, ◌+◌}
use Rattle.std.specs.{
  declared.alloc.Global.Global,
  Mem.type_size,
  Prelude.{List, [], ◌∷◌, Option, Some, None},
}
use seplogic.Ra.Ura.{Ura}
use base.Fml.{Lft, Incl, ffalse}
use types.Logic.{Logic}
use denote.{
  Param.Laws.Laws,
  RattleType.{RattleType, RowLaws},
  RawPtr.{Ptr, block_ptr, null_ptr},
  Shares.Shares-less,
  Sharing.{ShrLaws, said},
  SharingLaws.{beside_shr_laws, nothing_shr_laws, said_shr_laws},
  Struct.Lending.{Lends, Lends-both, Lends-first, Lends-nothing, Lends-said, Lends-false},
}
use Rattle.arraydeque_ring.specs.{
  Ownership.{place_owned, places_owned, place_lent, places_lent, within_reach, slots_owned},
  Ownership.slots_lent,
}

module _ (R : RattleType) (L : RowLaws R) where
  places_shr_laws : (b o : ℕ) (ps : List (Option R.Denot)) → ShrLaws (places_lent R b o ps)
  places_shr_laws b o [] = nothing_shr_laws
  places_shr_laws b o (Some x ∷ ps) = beside_shr_laws _ _ (L x b o) (places_shr_laws b (o + type_size R) ps)
  places_shr_laws b o (None ∷ ps) = beside_shr_laws _ _ nothing_shr_laws (places_shr_laws b (o + type_size R) ps)

  pub slots_shr_laws : (at : Ptr) (ps : List (Option R.Denot)) → ShrLaws (slots_lent R at ps)
  slots_shr_laws (block_ptr b o) ps =
      beside_shr_laws _ _ (said_shr_laws (within_reach R o ps) tt) (places_shr_laws b o ps)
  slots_shr_laws null_ptr ps = said_shr_laws ffalse tt

module _ {M : Type 1} {𝓤 : Ura M} (𝓛 : Logic 𝓤) (l : Lft) (R : RattleType) (L : Laws R) (lives : Incl l R.lives) where
  Lends-place : (b o : ℕ) (p : Option R.Denot) → Lends 𝓛 (place_owned R b o p) (place_lent R b o p) l
  Lends-place b o (Some x) = λ κ ts. Shares-less 𝓛 R R.lives l lives (L.shares 𝓛) x κ ts b o
  Lends-place b o None = Lends-nothing 𝓛 _ l

  Lends-places : (b o : ℕ) (ps : List (Option R.Denot)) → Lends 𝓛 (places_owned R b o ps) (places_lent R b o ps) l
  Lends-places b o [] = Lends-nothing 𝓛 _ l
  Lends-places b o (p ∷ ps) =
      let on = o + type_size R in
      Lends-both 𝓛 _ _ (place_lent R b o p) (places_lent R b on ps) l (Lends-place b o p) (Lends-places b on ps)

  pub Lends-slots : (alloc : Global) (at : Ptr) (ps : List (Option R.Denot))
      → Lends 𝓛 (slots_owned R alloc at ps) (slots_lent R at ps) l
  Lends-slots alloc (block_ptr b o) ps =
      let shown = places_lent R b o ps in let reach = within_reach R o ps in
      Lends-both 𝓛 _ _ (said reach) shown l (Lends-said 𝓛 reach tt l) (Lends-first 𝓛 _ _ shown l (Lends-places b o ps))
  Lends-slots alloc null_ptr ps = Lends-false 𝓛 (said ffalse) l
