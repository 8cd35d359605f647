-- A call of the allocator, from the words it takes to the block of places it gives. Assumes `Logic`.
use Rattle.arraydeque_ring.proofs.memory.{
  Blocks.{block_ty, block_size, block_align, token},
  Called.knows,
  Kit.{◌≡◌, refl, ap, ◌∙◌, true, false, List, [], ◌∷◌, ◌++◌, ℕ, ◌*◌, ◌<◌, ◌^◌, Ok, Err, Ura, SProp},
  Kit.{ent, sep, id⊢, never, Lft, Share, Fml, ftrue, fsep, froom, flft, w64, Val, vint, vptr},
  Kit.{of_list, Memory, size, align, capped, capped_fits, Routine, Logic, sem, live, Goal, Soaks},
  Kit.{Seq, Item, ‵, raw, ◌⊛◌, some, later, ◌$◌, ◌∵◌, !, qed, move, use1, drop, split, join, pick},
  Kit.{fsplit, fjoin, fpick, feq_l, feq_i, await, done, Fun, hidden_shr, block_ptr, null_ptr},
  Kit.{ptr_val, in_a_block, only, nothing, Contract, triple_of, Global, pure_i, owns, usize},
  Kit.{RawPtr, El, elτ},
  Owned.item_size,
}
use base.Logic.{fst∗}
use Rattle.std.{proofs.alloc.Calls.{Answer, answer_val}, specs.Allocator.block_if_ok}
use Rattle.std.specs.contracts.alloc.Global as heap
use Rattle.std.specs.contracts.impls.GlobalAllocator.TheImpl as impl_heap
use Rattle.std.specs.contracts.impls.GlobalAllocator.allocate as asks
use Rattle.std.specs.contracts.impls.GlobalAllocator.deallocate as gives

module _ {M : Type 1} {𝓤 : Ura M} (𝓛 : Logic 𝓤) (at_mem : Memory → SProp 𝓤) (run : Routine → Fun 𝓤) where
  open 𝓛 use {H, A}

  abbrev pub Allocates : Contract 𝓤
  Allocates = triple_of 𝓛 asks.signature (asks.spec 𝓛 at_mem run)

  abbrev pub Deallocates : Contract 𝓤
  Deallocates = triple_of 𝓛 gives.signature (gives.spec 𝓛 at_mem run)

  -- for a block of n places, and the `&` to the handle
  module _ (E : El) (n : ℕ) (κ : Lft) (q : Share) (p : ℕ × ℕ) (g : Global) where
    abbrev bytes : ℕ
    bytes = n * item_size E

    abbrev al : ℕ
    al = capped (align (elτ E))

    abbrev handle : Fml
    handle = hidden_shr heap.the_row κ g p.0 p.1

    -- what the caller of each picks: the handle's loan, the words and the block's type
    abbrev pub to_allocate : Allocates.Ghost
    to_allocate = (
      (
        (κ, tt),
        (q, tt),
        tt,
        (record { ref_ptr = p; now = g }, (bytes, (al, tt))),
        (vptr p.0 p.1 ∷ [], (vint w64 bytes ∷ [], (vint w64 al ∷ [], tt))),
      ),
      block_ty E n,
    )

    abbrev pub to_deallocate : ℕ → ℕ → Deallocates.Ghost
    to_deallocate b o = (
      (
        (κ, tt),
        (q, tt),
        tt,
        (record { ref_ptr = p; now = g }, (block_ptr b o, (bytes, (al, tt)))),
        (vptr p.0 p.1 ∷ [], (vptr b o ∷ [], (vint w64 bytes ∷ [], (vint w64 al ∷ [], tt)))),
      ),
      block_ty E n,
    )

    -- the words say the block's size and alignment
    sized : bytes < 2 ^ 64 → (capped (size (block_ty E n)) ≡ bytes) × (capped (align (block_ty E n)) ≡ al)
    sized fits = (block_size E n fits, block_align E n)

    pub allocate_goes : bytes < 2 ^ 64 → ent 𝓤 (sep 𝓤 (sem 𝓛 handle) (A.lft κ q)) (Allocates.pre to_allocate)
    allocate_goes fits =
        qed 𝓛 (‵ handle ∷ ‵ (flft κ q) ∷ []) ∵ knows ! (sized fits) $
        pure_i ! (owns (usize ∷ usize ∷ []) to_allocate.0.3.1 to_allocate.0.4.1) _
        ((refl, fits), ((refl, capped_fits (align (elτ E))), tt)) $
        move ! (2 ∷ []) $ feq_i ! _ (vptr p.0 p.1 ∷ []) _ refl $ fjoin ! $ fjoin ! $
        move ! (2 ∷ []) $ nothing ! $ move ! (1 ∷ 0 ∷ []) $ join ! $ join ! $ done !

    pub deallocate_goes : (b o : ℕ) → bytes < 2 ^ 64 → ent 𝓤 (sep 𝓤 (H.room (block_ty E n) b o)
        (sep 𝓤 (sem 𝓛 (token E g n (block_ptr b o))) (sep 𝓤 (sem 𝓛 handle) (A.lft κ q))))
        (Deallocates.pre (to_deallocate b o))
    deallocate_goes b o fits =
        qed 𝓛 (‵ (froom (block_ty E n) b o) ∷ ‵ (token E g n (block_ptr b o)) ∷ ‵ handle ∷ ‵ (flft κ q) ∷ []) ∵
        fjoin ! $ knows ! (sized fits) $ join ! $ let z = to_deallocate b o in
        pure_i ! (owns (RawPtr ∷ usize ∷ usize ∷ []) z.0.3.1 z.0.4.1) _
        (refl, ((refl, fits), ((refl, capped_fits (align (elτ E))), tt))) $
        move ! (2 ∷ []) $ feq_i ! _ (vptr p.0 p.1 ∷ []) _ refl $ fjoin ! $ fjoin ! $
        move ! (2 ∷ []) $ nothing ! $ move ! (1 ∷ 0 ∷ []) $ join ! $ join ! $ done !

-- a call of `allocate` gives the lifetime's token back, and goes on with a block, or with a refusal
module _ {M : Type 1} {𝓤 : Ura M} {𝓛 : Logic 𝓤} {K : Type 0} {Γ : List (Item 𝓤)} {G : Goal 𝓤 𝓛.H} (t : K)
    (soaks : Soaks G) (at_mem : Memory → SProp 𝓤) (run : Routine → Fun 𝓤) (E : El) (n : ℕ) (κ : Lft) (q : Share)
    (p : ℕ × ℕ) (g : Global) (v : Val)
    (ok : (b o : ℕ) → v ≡ answer_val true b o
    → Seq K 𝓛 (‵ (froom (block_ty E n) b o) ∷ ‵ (token E g n (block_ptr b o)) ∷ ‵ (flft κ q) ∷ Γ) G)
    (refused : v ≡ answer_val false 0 0 → Seq K 𝓛 (‵ (flft κ q) ∷ Γ) G) where
  abbrev Block : Answer.Denot → Fml
  Block = block_if_ok (impl_heap.ghosts.dealloc_token g) (block_ty E n)

  answers : (r : Answer.Denot) → Seq K 𝓛 (‵ (Answer.own_val r (v ∷ [])) ∷ ‵ (Block r) ∷ ‵ (flft κ q) ∷ Γ) G
  answers (Ok block) =
      fpick t (λ us. fsplit t $
      feq_l t (λ tag. fpick t (λ vss. fsplit t $ feq_l t (λ fields. fsplit t $ feq_l t (λ word. drop t $
      in_a_block t block (λ z. Block (Ok z)) (fst∗ 𝓤 (never 𝓤) (sem 𝓛 (token E g n null_ptr)))
      (λ b o at. fsplit t $ ok b o (ap only tag ∙ ap (λ ws. live 0 (of_list ws))
      (fields ∙ ap (λ ws. ws ++ []) (word ∙ ap (λ z. ptr_val z ∷ []) at)))))))))
  answers (Err refusal) =
      fpick t (λ us. fsplit t $ feq_l t (λ tag. fpick t (λ vss. fsplit t $ feq_l t (λ fields. fsplit t $
      fpick t (λ none. fsplit t $ feq_l t (λ word. drop t $ drop t $ drop t $
      refused (ap only tag ∙ ap (λ ws. live 1 (of_list ws))
      (fields ∙ ap (λ ws. ws ++ []) word))))))))

  pub allocated : Seq K 𝓛 (raw ((Allocates 𝓛 at_mem run).post (to_allocate 𝓛 at_mem run E n κ q p g) v) ∷ Γ) G
  allocated = use1 𝓛 (later (some (λ r. ((‵ (flft κ q) ⊛ ‵ ftrue) ⊛ ‵ (Answer.own_val r (v ∷ [])))
      ⊛ some (λ (ws : Unit {0} × (Unit {0} × (Unit {0} × Unit {0}))). ‵ (fsep ftrue (fsep ftrue (fsep ftrue ftrue)))
      ⊛ ‵ (Block r))))) (id⊢ 𝓤 _) $ await t soaks $
      pick t (λ r. split t $ move t (1 ∷ []) $ pick t (λ ws. split t $ drop t $ move t (1 ∷ []) $ split t $ split t $
      move t (1 ∷ []) $ drop t $ move t (1 ∷ 2 ∷ 0 ∷ []) $ answers r))
