-- The size of a region's block, and the right to free it. Assumes `Logic`.
use Rattle.arraydeque_ring.{
  proofs.memory.{
    Kit.{◌≡◌, sym, ap, subst, ℕ, ◌*◌, ◌<◌, ◌^◌, arith, Ura, ent, emp, guard, guard_i, id⊢},
    Kit.{fact_use, Logic, sem, Ty, size, Ptr, block_ptr, El, R, Global, List, Item, Env, w64, vint},
    Kit.{size_word, bin, is},
    Owned.item_size,
  },
  specs.Ownership.{right_to_free},
}
use mir.{Syntax.{Opd as Operand, op2, mul, unsigned, size_of}}
use types.Run.{Opd, Rv}
use Rattle.std.proofs.{lemmas.Bool.{lt-ltb, le-ltb}, GlobalToken.dealloc_token_start}
use Rattle.std.specs.contracts.impls.GlobalAllocator.TheImpl as heap
-- the type that a block of n places is asked for, its size and its alignment are std's
pub use Rattle.std.below.core.proofs.slots.Leases.{uncapped, block_ty, block_size, block_align}

-- a number of items is made the number of their bytes
module _ {M : Type 1} {𝓤 : Ura M} {𝓛 : Logic 𝓤} {K : Type 0} {Γ : List (Item 𝓤)} {En : Env 𝓤 𝓛.H} where
  pub scaled : K → {x : Operand} {n : ℕ} {τ : Ty} → Opd K 𝓛 Γ En x (vint w64 n) → n * size τ < 2 ^ 64
      → Rv K 𝓛 Γ En (op2 (mul unsigned) x (size_of τ)) (vint w64 (n * size τ))
  scaled t {n = n} {τ = τ} items fits = is t (bin t items (size_word t)
      (record { fits = subst (λ k. k < 2 ^ 64) (sym (uncapped n (size τ) fits)) fits }))
      (ap (vint w64) (uncapped n (size τ) fits))

module _ (E : El) where
  -- the allocator's right to free a block of n places
  abbrev pub token : Global → ℕ → Ptr → base.Fml.Fml
  token alloc n p = heap.ghosts.dealloc_token alloc (block_ty E n) p

  module _ {M : Type 1} {𝓤 : Ura M} (𝓛 : Logic 𝓤) (alloc : Global) (n : ℕ) where
    -- a block of some bytes comes with the right to free it, which says that it begins at its offset 0
    pub right_at_start : (b o : ℕ) → 0 < n * item_size E → ent 𝓤 (sem 𝓛 (token alloc n (block_ptr b o)))
        (guard 𝓤 (o ≡ 0) (sem 𝓛 (right_to_free (R E) alloc n (block_ptr b o))))
    right_at_start b o some = rw (lt-ltb 0 (n * item_size E) some) (fact_use 𝓤 (o ≡ 0)
        (dealloc_token_start 𝓛 alloc (block_ty E n) (block_ptr b o))
        (guard_i 𝓤 (o ≡ 0) (sem 𝓛 (token alloc n (block_ptr b o)))))

    -- and one of no bytes needs none
    pub no_right : (p : Ptr) → n * item_size E ≡ 0 → ent 𝓤 (emp 𝓤) (sem 𝓛 (right_to_free (R E) alloc n p))
    no_right p none = rw (le-ltb 0 (n * item_size E) (omega (arith, none))) (id⊢ 𝓤 (emp 𝓤))
