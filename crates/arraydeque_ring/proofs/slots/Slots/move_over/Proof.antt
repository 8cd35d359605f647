-- `move_over` hands `copy_nonoverlapping` a run of values,
-- and room for it in another region, and puts both back. Assumes `Logic`.
use Rattle.arraydeque_ring.{
  proofs.memory.{
    Called.{after_block, first_fact, knows, returned},
    Kit.{vptr, ◌≡◌, refl, [], ◌∷◌, ◌++◌, ◌+◌, ◌*◌, arith, length, take, drop_list, id⊢, full_share},
    Kit.{ftrue, froom, flft, inst_fn, w64, ty_array, vunit, vint, tables, owns, ‵, raw, ◌⊛◌, ◌$◌},
    Kit.{ !, move, use1, drop, split, join, fjoin, feq_i, suffices, done, whole, sub, look_in},
    Kit.{of_opd, unit_lit, bin, load, stop, fld, no_more, and_then, first, blocks, returns},
    Kit.{alloc_all, pass_all, free_all, look_at, get, through, sets, lands_last, usize, RawPtr},
    Kit.{block_ptr, heard, says_two, calls_at_last, framed, triple_of, part_at, El, R, args, elτ},
    Kit.{common_steps, Array, pure_i, frame},
    Methods.{walked, mutable, comes_back, back, word, words},
    Regions.{Sr, Seen, near, run_fits, slots_open, slots_close, scaled, item_size, array_out},
    Regions.{array_in, room_out, room_in},
  },
  specs.{Runs.run_emptied, Steps.more_transfers},
}
use denote.Plain.{Nothing-Lawful}
use Rattle.std.specs.contracts.ptr.copy_nonoverlapping as copy
use Rattle.std.proofs.ptr.copy_nonoverlapping.Met as copy_thm
use Rattle.arraydeque_ring.specs.contracts.slots.Slots.move_over as f
use Rattle.arraydeque_ring.proofs.slots.Slots.move_over.Statement as stated
use Rattle.arraydeque_ring.proofs.slots.Slots.move_over.Code as code

pub move_over_spec : {M : Type 1} → stated.statement M
move_over_spec 𝓤 𝓛 𝓜 𝓡 wired X L =
    let E : El = record { row = X; laws = L } in let here = inst_fn (args E) code.function in
    let 𝓣 = tables 𝓤 𝓛.H 𝓜 𝓡 𝓡.env in
    let Copies = triple_of 𝓛 (copy.signature X) (copy.spec X 𝓛 𝓜.mem 𝓡.returns) in
    walked 2 𝓛 (mutable (comes_back 2 𝓛 (Sr E)) (word (mutable (back 𝓛 3 1 tt (Sr E)) (words 2)))) 𝓜 𝓡 _ _
    (f.clauses X 𝓛 𝓜.mem 𝓡.returns) _ _ (code.unfolded 𝓤 𝓛.H 𝓜 𝓡 wired (X, tt))
    (λ κs qs bounds a _ fit post ends.
    let κ₂ = κs.1.1.0 in let q₂ = qs.1.1.0 in
    let r = a.0.now in let ps = r.places in let r' = a.1.1.0.now in let ts = r'.places in
    let from = a.1.0 in let to = a.1.1.1.0 in let n = a.1.1.1.1.0 in let s = item_size E in
    first_fact ! (λ lives. first_fact ! (λ filled. heard ! _ (λ empty.
    let within = filled.0 in let target = empty.0 in let xs = filled.1.0 in
    let es = run_emptied from n ps in
    let us = take to ts ++ (take n (drop_list from ps) ++ drop_list (to + n) ts) in
    let es_long : length ps ≡ length es = grind (arith, common_steps) in
    let us_long : length ts ≡ length us = grind (arith, common_steps) in
    let new : Seen E = record { places = es; steps = more_transfers n r.steps } in
    let new' : Seen E = record { places = us; steps = more_transfers n r'.steps } in
    move ! (5 ∷ []) $ use1 𝓛 (‵ (flft κs.1.0 qs.1.0) ⊛ ‵ (flft κ₂ q₂) ⊛ ‵ ftrue) (id⊢ 𝓤 _) $ split ! $
    alloc_all ! (λ l. pass_all ! refl ((tt, tt), (fit.0, ((tt, tt), fit.1))) $ move ! (2 ∷ 3 ∷ 6 ∷ 4 ∷ 5 ∷ 0 ∷ []) $
    slots_open E ! tt r (λ g b o m ok. move ! (6 ∷ 7 ∷ 8 ∷ []) $ slots_open E ! tt r' (λ g' b' o' m' ok'.
    let from_near = near E ok from (omega arith) in let to_near = near E ok' to (omega arith) in
    let src = from * s + o in let dst = to * s + o' in
    first ! $ blocks ! $
    sets ! (of_opd ! (load ! (through ! refl (fld ! refl (stop !))) (look_in ! 8 (sub ! 0 refl (whole !)))))
    refl (tt, tt) $
    sets ! (scaled ! (get ! refl) from_near) refl (tt, record { fits = from_near }) $
    sets ! (bin ! (get ! refl) (get ! refl) tt) refl (tt, tt) $
    sets ! (of_opd ! (load ! (through ! refl (fld ! refl (stop !))) (look_in ! 2 (sub ! 0 refl (whole !)))))
    refl (tt, tt) $
    sets ! (of_opd ! (get ! refl)) refl (tt, tt) $
    sets ! (scaled ! (get ! refl) to_near) refl (tt, record { fits = to_near }) $
    sets ! (bin ! (get ! refl) (get ! refl) tt) refl (tt, tt) $
    room_out E ! b' o' ts to n target $ move ! (7 ∷ []) $ array_out E ! b o ps from n filled $
    move ! (0 ∷ 2 ∷ []) $ fjoin ! $
    -- [the two runs; the others here;
    -- the others there; there: the right, the words, the borrow in three; here, likewise; the token]
    let z : Copies.Ghost = (
      (
        (κ₂, tt),
        (q₂, tt),
        tt,
        (block_ptr b src, (block_ptr b' dst, (n, tt))),
        (vptr b src ∷ [], (vptr b' dst ∷ [], (vint w64 n ∷ [], tt))),
      ),
      xs,
    ) in
    knows ! (run_fits E ok n (omega arith)).1 $ join ! $ knows ! lives $ join ! $
    pure_i ! (owns (RawPtr ∷ RawPtr ∷ usize ∷ []) z.0.3 z.0.4) _ (refl, (refl, ((refl, fit.1.1.0.1.fits), tt))) $
    move ! (14 ∷ 0 ∷ []) $ join ! $ join ! $
    use1 𝓛 (raw (Copies.pre z)) (id⊢ 𝓤 _) $
    calls_at_last ! (framed 𝓤 𝓛.H 𝓜 𝓣) Copies
    (copy_thm.met 𝓤 𝓛 𝓜 𝓡 (code.calls-std::ptr::copy_nonoverlapping 𝓡.env wired) X L) z
    (and_then ! (get ! refl) (and_then ! (get ! refl) (and_then ! (get ! refl) (no_more !)))) (λ v.
    returned 𝓛 ! tt (copy.ended X) (copy.clauses X 𝓛 𝓜.mem 𝓡.returns) z v (Nothing-Lawful 𝓛) (λ u ws v_typed. drop ! $
    lands_last ! refl v_typed.0 $ move ! (1 ∷ []) $
    use1 𝓛 (‵ (part_at (Array (R E) n) full_share xs b' dst) ⊛ ‵ (froom (ty_array (elτ E) n) b src)) (id⊢ 𝓤 _) $
    split ! $
    after_block ! 𝓡 here l 1 post $
    sets ! (of_opd ! (unit_lit !)) refl (tt, tt) $
    -- [the values; the room; the token; the others here; the others there; ..]
    move ! (0 ∷ 4 ∷ []) $ array_in E ! b' o' ts to n target xs filled.1.1 $
    move ! (0 ∷ 4 ∷ 5 ∷ 6 ∷ 7 ∷ 8 ∷ []) $ slots_close E ! tt new' ok' us_long $
    move ! (3 ∷ 5 ∷ []) $ room_in E ! b o ps from n within $
    move ! (0 ∷ 5 ∷ 6 ∷ 7 ∷ 8 ∷ 9 ∷ []) $ slots_close E ! tt new ok es_long $
    returns ! (look_at ! 0 refl) $ free_all ! refl $
    suffices ! _ (ends vunit tt (new, (new', tt))) $ frame ! $ frame ! $ move ! (1 ∷ 2 ∷ []) $ frame ! $ frame ! $
    feq_i ! _ (vunit ∷ []) _ refl $ frame ! $ says_two ! (refl, refl) $ done !)))))))))
