-- `slice` lends the values of a filled run. Assumes `Logic`.
use Rattle.arraydeque_ring.proofs.{
  memory.{
    Called.{after_block, first_fact},
    Kit.{refl, sym, ap, [], ◌∷◌, ℕ, ◌+◌, ◌*◌, ◌<◌, ◌^◌, arith, length, inst_fn, vptr, ‵, ◌$◌, ! },
    Kit.{move, use1, drop, join, fsplit, fjoin, feq_i, flt_i, suffices, done, agg, of_opd, bin},
    Kit.{load, look, stop, fld, no_more, and_then, first, blocks, returns, alloc_all, pass_all},
    Kit.{free_all, look_at, get, through, sets, sets_last, says, heard, El, R, args, times_below},
    Kit.{slice_val, elements_shared, ◌∙◌, looks, shuts, RawPtr, Ptr, ptr_val, feq_l, rewrite},
    Kit.{cell_at, frame},
    Lent.slots_seen,
    Methods.{walked, seen, words},
    Regions.{Sr, scaled, item_size, run_seen},
  },
  places.Filled.length_filled,
}
use denote.{Opens.hide, Struct.Laws.RawPtr-copy}
use Rattle.arraydeque_ring.specs.contracts.slots.Slots.slice as f
use Rattle.arraydeque_ring.proofs.slots.Slots.slice.Statement as stated
use Rattle.arraydeque_ring.proofs.slots.Slots.slice.Code as code

pub slice_spec : {M : Type 1} → stated.statement M
slice_spec 𝓤 𝓛 𝓜 𝓡 wired X L =
    let E : El = record { row = X; laws = L } in let here = inst_fn (args E) code.function in
    walked 1 𝓛 (seen (Sr E) (words 2)) 𝓜 𝓡 _ _ (f.clauses X 𝓛 𝓜.mem 𝓡.returns) _ _
    (code.unfolded 𝓤 𝓛.H 𝓜 𝓡 wired (X, tt)) (λ κs qs bounds a _ fit post ends.
    let rb = a.0.ref_ptr.0 in let ro = a.0.ref_ptr.1 in let r = a.0.now in let i = a.1.0 in let len = a.1.1.0 in
    let len_fits = fit.1.1.0.1 in let s = item_size E in
    first_fact ! (λ _. heard ! _ (λ asked.
    let within = asked.0 in let xs = asked.1.0 in let held = asked.1.1 in
    let long = length_filled r.places i len asked in
    fsplit ! $ drop ! $ slots_seen E ! r rb ro (λ p b o at reach.
    let all : length r.places * s < 2 ^ 63 = omega arith in
    let far : i * s < 2 ^ 64 = omega (arith, times_below i (length r.places) s (2 ^ 63) (omega arith) all) in
    use1 𝓛 (‵ (elements_shared (R E) xs b (i * s + o) κs.0)) (run_seen E 𝓛 b κs.0 o r.places i len xs held) $
    hide ! $
    -- [the values; the pointer; its token; the other tokens]
    move ! (1 ∷ 2 ∷ 3 ∷ []) $
    alloc_all ! (λ l. pass_all ! refl ((tt, tt), fit.1) $
    first ! $ blocks ! $
    looks ! tt RawPtr (RawPtr-copy.copied _ _ 𝓛).opens p rb (ro + 0) (λ q' vs. move ! (1 ∷ []) $ feq_l ! (λ word.
    rewrite ! 0 (λ us. ‵ (cell_at q' RawPtr.mir us rb (ro + 0))) (word ∙ ap (λ r. ptr_val r ∷ []) at) refl $
    move ! (2 ∷ []) $ drop ! $
    sets ! (of_opd ! (load ! (through ! refl (fld ! refl (stop !))) (look ! 0 refl))) refl (tt, tt) $
    feq_i ! _ _ _ (ap (λ (r : Ptr). ptr_val r ∷ []) (sym at)) $
    move ! (1 ∷ 0 ∷ []) $ shuts ! tt RawPtr q' p (vptr b o ∷ []) rb (ro + 0) $
    sets ! (scaled ! (get ! refl) far) refl (tt, record { fits = far }) $
    sets ! (bin ! (get ! refl) (get ! refl) tt) refl (tt, tt) $
    let run : ℕ × ℕ = (b, i * s + o) in
    sets_last ! (agg ! (and_then ! (get ! refl) (and_then ! (get ! refl) (no_more !)))) refl
    (tt, (tt, (len_fits, tt))) $
    after_block ! 𝓡 here l 1 post $
    sets ! (of_opd ! (get ! refl)) refl (tt, (tt, (len_fits, tt))) $
    returns ! (look_at ! 0 refl) $ free_all ! refl $
    suffices ! _ (ends (slice_val run len) (record { ref_ptr = run; now = xs }) tt) $
    move ! (2 ∷ []) $ flt_i ! _ (2 ^ 63) (times_below (length xs) (length r.places) s (2 ^ 63) (omega arith) all) $
    flt_i ! (length xs) (2 ^ 64) (omega arith) $ fjoin ! $
    feq_i ! _ _ _ (ap (λ (k : ℕ). slice_val run k ∷ []) (sym long)) $ fjoin ! $ fjoin ! $
    frame ! $ join ! $ says ! held $ done !)))))))
