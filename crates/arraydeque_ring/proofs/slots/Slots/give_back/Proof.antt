-- `give_back` makes the empty places one block again, and frees it. Assumes `Logic`.
use Rattle.arraydeque_ring.proofs.memory.{
  Blocks.{scaled, block_ty, token},
  Called.{after_block, returned},
  Heap.{Deallocates, to_deallocate, deallocate_goes},
  Kit.{refl, sym, List, [], ◌∷◌, ◌++◌, ◌*◌, arith, id⊢, ftrue, froom, flft, inst_fn, ty_array, Val},
  Kit.{vunit, vptr, tables, ‵, raw, ◌⊛◌, ◌$◌, !, move, keep, drop, use1, use3, split, join},
  Kit.{rewrite, fsplit, feq_i, suffices, done, whole, sub, of_opd, lit, unit_lit, align_word, bin},
  Kit.{stop, fld, no_more, and_then, first, blocks, branches, skips, returns, alloc_all, pass_all},
  Kit.{free_all, look_at, get, get_in, sets, lands_last, nothing, calls_at_last, framed, block_ptr},
  Kit.{El, args, elτ, frame, at_ret},
  Methods.{walked, seen, whole_slots, words},
  Regions.{near, slots_Good, slots_apart, item_size, row_room, owned_if},
}
use types.Kit.{runs, allocs, params', regoal}
use denote.Plain.{Nothing-Lawful}
use Rattle.std.{
  proofs.{Flags.T_true, impls.GlobalAllocator.deallocate.Met.met},
  specs.Prelude.nat_lt,
}
use Rattle.std.specs.contracts.alloc.Global as heap
use Rattle.std.specs.contracts.impls.GlobalAllocator.deallocate as gives
use Rattle.arraydeque_ring.specs.contracts.slots.Slots.give_back as f
use Rattle.arraydeque_ring.proofs.slots.Slots.give_back.Statement as stated
use Rattle.arraydeque_ring.proofs.slots.Slots.give_back.Code as code

pub give_back_spec : {M : Type 1} → stated.statement M
give_back_spec 𝓤 𝓛 𝓜 𝓡 wired X L =
    let E : El = record { row = X; laws = L } in let here = inst_fn (args E) code.function in
    let 𝓣 = tables 𝓤 𝓛.H 𝓜 𝓡 𝓡.env in
    walked 1 𝓛 (whole_slots E (seen heap.the_row (words 0))) 𝓜 𝓡 _ _ (f.clauses X 𝓛 𝓜.mem 𝓡.returns) _ _
    (code.unfolded 𝓤 𝓛.H 𝓜 𝓡 wired (X, tt)) (λ κs qs bounds a _ fit post ends.
    let κ = κs.0 in let q = qs.0 in
    let r = a.0 in let hp = a.1.0.ref_ptr in let h = a.1.0.now in
    let s = item_size E in
    drop ! $ slots_apart E ! r fit.0 (λ g b o n ok words.
    let bytes = near E ok n (omega arith) in
    use1 𝓛 (‵ (froom (ty_array (elτ E) n) b o)) (row_room E 𝓛 b r.places n o (sym ok.capacity)) $
    use1 𝓛 (‵ (froom (block_ty E n) b o)) (𝓛.laws.room-raw (ty_array (elτ E) n) b o) $
    move ! (2 ∷ []) $ fsplit ! $ drop ! $ move ! (2 ∷ 1 ∷ 0 ∷ []) $
    -- [the right; the room; the handle; its token; the other tokens]
    regoal ! (λ (vs : List Val). allocs here.locals (λ En. params' En (vs ++ (vptr hp.0 hp.1 ∷ []))
    (runs 𝓣.C 𝓣.Λ En here.body (at_ret En post)))) words refl $
    alloc_all ! (λ l. pass_all ! refl (slots_Good E b o n ok.word, ((tt, tt), tt)) $
    let Gives = Deallocates 𝓛 𝓜.mem 𝓡.returns in
    let z = to_deallocate 𝓛 𝓜.mem 𝓡.returns E n κ q hp h b o in
    let out =
    suffices ! _ (ends vunit tt tt) $ feq_i ! _ (vunit ∷ []) _ refl $ frame ! $ join ! $ nothing ! $ move ! (1 ∷ []) $
    done ! in
    sets ! (of_opd ! (get_in ! (fld ! refl (stop !)) (sub ! 0 refl (whole !)))) refl (tt, tt) $
    sets ! (of_opd ! (get_in ! (fld ! refl (stop !)) (sub ! 1 refl (whole !)))) refl (tt, record { fits = ok.word }) $
    sets ! (scaled ! (get ! refl) bytes) refl (tt, record { fits = bytes }) $
    sets ! (bin ! (lit ! tt) (get ! refl) tt) refl (tt, tt) $
    first ! $ branches ! (get ! refl)
    (λ some. rewrite ! 0 (λ w. ‵ (owned_if w (token E g n (block_ptr b o))))
    (T_true (nat_lt 0 (n * s)) some) refl $
    blocks ! $ sets ! (of_opd ! (get ! refl)) refl (tt, tt) $
    sets ! (scaled ! (get ! refl) bytes) refl (tt, record { fits = bytes }) $
    move ! (2 ∷ 3 ∷ []) $ join ! $ move ! (2 ∷ 1 ∷ 0 ∷ []) $
    use3 𝓛 (raw (Gives.pre z)) (deallocate_goes 𝓛 𝓜.mem 𝓡.returns E n κ q hp h b o bytes) $
    calls_at_last ! (framed 𝓤 𝓛.H 𝓜 𝓣) Gives
    (met 𝓤 𝓛 𝓜 𝓡 (code.calls-std_heap::GlobalAllocator::deallocate 𝓡.env wired)) z (and_then ! (get ! refl)
    (and_then ! (get ! refl) (and_then ! (get ! refl) (and_then ! (align_word !) (no_more !))))) (λ v.
    returned 𝓛 ! tt gives.ended (gives.clauses 𝓛 𝓜.mem 𝓡.returns) z v (Nothing-Lawful 𝓛) (λ u ws v_typed. drop ! $
    lands_last ! refl v_typed.0 $
    after_block ! 𝓡 here l 5 post $
    sets ! (of_opd ! (unit_lit !)) refl (tt, tt) $ returns ! (look_at ! 0 refl) $ free_all ! refl $
    use1 𝓛 (‵ (flft κ q) ⊛ ‵ ftrue) (id⊢ 𝓤 _) $ split ! $ keep ! (0 ∷ 3 ∷ []) $
    out)))
    (λ none. skips ! $ after_block ! 𝓡 here l 5 post $
    sets ! (of_opd ! (unit_lit !)) refl (tt, tt) $ returns ! (look_at ! 0 refl) $ free_all ! refl $
    keep ! (3 ∷ 4 ∷ []) $
    out))))
