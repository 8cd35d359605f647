-- What a `Slots` owns and lends: its places, side by side in one block, and the right to free that
-- block.
use Rattle.std.specs.{
  declared.alloc.Global.Global,
  Mem.type_size,
  Prelude.{ℕ, ◌+◌, ◌*◌, ◌^◌, List, [], ◌∷◌, length, Option, Some, None, Bool, true, false, nat_lt},
}
use base.{Fml.{Lft, Fml, ftrue, ffalse, fsep, flt, froom}, Fraction.full_share}
use mir.{Raw.raw, Syntax.ty_array}
use denote.{
  Memory.{lone, part_at, shared_of},
  RattleType.RattleType,
  RawPtr.{Ptr, block_ptr, null_ptr},
  Sharing.{nothing, said, beside},
}
use Rattle.std.specs.contracts.impls.GlobalAllocator.TheImpl as heap

-- F if the test holds, else nothing
abbrev pub owned_if : Bool → Fml → Fml
owned_if true F = F
owned_if false F = ftrue

module _ (R : RattleType) where
  -- one place at the offset o of the block b: a value, or room for one
  abbrev pub place_owned : ℕ → ℕ → Option R.Denot → Fml
  place_owned b o (Some x) = part_at R full_share x b o
  place_owned b o None = froom (raw (lone R.mir)) b o

  -- the places from the offset o on
  abbrev pub places_owned : ℕ → ℕ → List (Option R.Denot) → Fml
  places_owned b o [] = ftrue
  places_owned b o (p ∷ ps) = fsep (place_owned b o p) (places_owned b (o + type_size R) ps)

  -- what the lender of a `&` shows of one place, and of the places from the offset o on
  abbrev pub place_lent : ℕ → ℕ → Option R.Denot → Lft → Fml
  place_lent b o (Some x) = shared_of R x b o
  place_lent b o None = nothing

  abbrev pub places_lent : ℕ → ℕ → List (Option R.Denot) → Lft → Fml
  places_lent b o [] = nothing
  places_lent b o (p ∷ ps) = beside (place_lent b o p) (places_lent b (o + type_size R) ps)

  -- every place ends before the offset 2 ^ 63
  abbrev pub within_reach : ℕ → List (Option R.Denot) → Fml
  within_reach o ps = flt (length ps * type_size R + o) (2 ^ 63)

  -- the right to free the block of n places at p, which is there unless they take no bytes
  abbrev pub right_to_free : Global → ℕ → Ptr → Fml
  right_to_free alloc n p = owned_if (nat_lt 0 (n * type_size R))
      (heap.ghosts.dealloc_token alloc (raw (ty_array (lone R.mir) n)) p)

  abbrev pub slots_owned : Global → Ptr → List (Option R.Denot) → Fml
  slots_owned alloc (block_ptr b o) ps =
      fsep (within_reach o ps)
      (fsep (places_owned b o ps) (right_to_free alloc (length ps) (block_ptr b o)))
  slots_owned alloc null_ptr ps = ffalse

  abbrev pub slots_lent : Ptr → List (Option R.Denot) → Lft → Fml
  slots_lent (block_ptr b o) ps = beside (said (within_reach o ps)) (places_lent b o ps)
  slots_lent null_ptr ps = said ffalse
