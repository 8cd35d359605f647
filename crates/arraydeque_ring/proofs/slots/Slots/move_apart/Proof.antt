-- `move_apart` hands `copy_nonoverlapping` a run of values and room for it in the same region, and puts both back.
-- Assumes `Logic`.
use Rattle.arraydeque_ring.{
  proofs.{
    memory.{
      Apart.apart_out,
      Called.{after_block, first_fact, knows, returned},
      Kit.{vptr, refl, sym, [], ◌∷◌, ◌+◌, ◌*◌, arith, id⊢, full_share, froom, inst_fn},
      Kit.{w64, ty_array, vunit, vint, tables, owns, ‵, raw, ◌⊛◌, ◌$◌, !, move, use1, use3, drop},
      Kit.{split, join, fjoin, feq_i, suffices, done, whole, sub, look_in, of_opd, unit_lit, bin},
      Kit.{load, stop, fld, no_more, and_then, first, blocks, returns, alloc_all, pass_all},
      Kit.{free_all, look_at, get, through, sets, lands_last, usize, RawPtr, block_ptr, heard, says},
      Kit.{calls_at_last, framed, triple_of, part_at, El, R, args, elτ, Array, pure_i, frame},
      Methods.{method, comes_back},
      Regions.{Sr, Seen, near, run_fits, slots_open, slots_close, scaled, item_size, Row},
    },
    moved.Flat.length-moved,
  },
  specs.{Moved.run_moved, Steps.more_transfers},
}
use denote.Plain.{Nothing-Lawful}
use Rattle.std.specs.contracts.ptr.copy_nonoverlapping as copy
use Rattle.std.proofs.ptr.copy_nonoverlapping.Met as copy_thm
use Rattle.arraydeque_ring.specs.contracts.slots.Slots.move_apart as f
use Rattle.arraydeque_ring.proofs.slots.Slots.move_apart.Statement as stated
use Rattle.arraydeque_ring.proofs.slots.Slots.move_apart.Code as code

pub move_apart_spec : {M : Type 1} → stated.statement M
move_apart_spec 𝓤 𝓛 𝓜 𝓡 wired X L =
    let E : El = record { row = X; laws = L } in let here = inst_fn (args E) code.function in
    let 𝓣 = tables 𝓤 𝓛.H 𝓜 𝓡 𝓡.env in
    let Copies = triple_of 𝓛 (copy.signature X) (copy.spec X 𝓛 𝓜.mem 𝓡.returns) in
    method 1 3 (Sr E) 𝓛 (comes_back 1 𝓛 _) 𝓜 𝓡 _ _ (f.clauses X 𝓛 𝓜.mem 𝓡.returns) _ _
    (code.unfolded 𝓤 𝓛.H 𝓜 𝓡 wired (X, tt)) (λ κs qs bounds a _ fit post ends.
    let κ₂ = κs.1.0 in let q₂ = qs.1.0 in
    let r = a.0.now in let ps = r.places in
    let to = a.1.0 in let from = a.1.1.0 in let n = a.1.1.1.0 in let s = item_size E in
    first_fact ! (λ lives. first_fact ! (λ filled. first_fact ! (λ target. heard ! _ (λ apart.
    let within = filled.0 in let xs = filled.1.0 in
    let new : Seen E = record { places = run_moved to from n ps; steps = more_transfers (2 * n) r.steps } in
    alloc_all ! (λ l. pass_all ! refl ((tt, tt), fit) $
    slots_open E ! tt r (λ g b o m ok.
    let from_near = near E ok from (omega arith) in let to_near = near E ok to (omega arith) in
    let src = from * s + o in let dst = to * s + o in
    first ! $ blocks ! $
    sets ! (of_opd ! (load ! (through ! refl (fld ! refl (stop !))) (look_in ! 2 (sub ! 0 refl (whole !)))))
    refl (tt, tt) $
    sets ! (scaled ! (get ! refl) from_near) refl (tt, record { fits = from_near }) $
    sets ! (bin ! (get ! refl) (get ! refl) tt) refl (tt, tt) $
    sets ! (of_opd ! (load ! (through ! refl (fld ! refl (stop !))) (look_in ! 2 (sub ! 0 refl (whole !)))))
    refl (tt, tt) $
    sets ! (of_opd ! (get ! refl)) refl (tt, tt) $
    sets ! (scaled ! (get ! refl) to_near) refl (tt, record { fits = to_near }) $
    sets ! (bin ! (get ! refl) (get ! refl) tt) refl (tt, tt) $
    apart_out E ! b o ps to from n filled target apart (λ Rest back. fjoin ! $
    -- [the two runs; the other places; the right; the words; the open borrow, in three; the other token]
    let z : Copies.Ghost = (
      (
        (κ₂, tt),
        (q₂, tt),
        tt,
        (block_ptr b src, (block_ptr b dst, (n, tt))),
        (vptr b src ∷ [], (vptr b dst ∷ [], (vint w64 n ∷ [], tt))),
      ),
      xs,
    ) in
    knows ! (run_fits E ok n (omega arith)).1 $ join ! $ knows ! lives $ join ! $
    pure_i ! (owns (RawPtr ∷ RawPtr ∷ usize ∷ []) z.0.3 z.0.4) _ (refl, (refl, ((refl, fit.1.1.0.1.fits), tt))) $
    move ! (8 ∷ 0 ∷ []) $ join ! $ join ! $
    use1 𝓛 (raw (Copies.pre z)) (id⊢ 𝓤 _) $
    calls_at_last ! (framed 𝓤 𝓛.H 𝓜 𝓣) Copies
    (copy_thm.met 𝓤 𝓛 𝓜 𝓡 (code.calls-std::ptr::copy_nonoverlapping 𝓡.env wired) X L) z
    (and_then ! (get ! refl) (and_then ! (get ! refl) (and_then ! (get ! refl) (no_more !)))) (λ v.
    returned 𝓛 ! tt (copy.ended X) (copy.clauses X 𝓛 𝓜.mem 𝓡.returns) z v (Nothing-Lawful 𝓛) (λ u ws v_typed. drop ! $
    lands_last ! refl v_typed.0 $ move ! (1 ∷ []) $
    use1 𝓛 (‵ (part_at (Array (R E) n) full_share xs b dst) ⊛ ‵ (froom (ty_array (elτ E) n) b src)) (id⊢ 𝓤 _) $
    split ! $
    after_block ! 𝓡 here l 1 post $
    sets ! (of_opd ! (unit_lit !)) refl (tt, tt) $
    -- [the values; the room; the token; the other places; ..]
    move ! (0 ∷ 1 ∷ 3 ∷ []) $ use3 𝓛 (‵ (Row E 𝓛 b o new.places)) back $
    move ! (0 ∷ 2 ∷ 3 ∷ 4 ∷ 5 ∷ 6 ∷ []) $ slots_close E ! tt new ok (sym (length-moved to from n ps)) $
    returns ! (look_at ! 0 refl) $ free_all ! refl $
    suffices ! _ (ends vunit tt (new, tt)) $ frame ! $ frame ! $
    feq_i ! _ (vunit ∷ []) _ refl $ frame ! $ join ! $ says ! refl $ done !))))))))))
