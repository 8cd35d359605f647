-- `write` fills an empty place. Assumes `Logic`.
use Rattle.arraydeque_ring.proofs.memory.{
  Called.{after_block, first_fact},
  Kit.{part_in, full_share, refl, sym, [], ◌∷◌, ◌+◌, ◌*◌, arith, set, length-set, Some, inst_fn},
  Kit.{vunit, ‵, ◌$◌, !, move, use2, join, feq_i, suffices, done, whole, sub, look_in, of_opd},
  Kit.{unit_lit, bin, load, init, stop, fld, assigns_last, first, blocks, returns, alloc_all},
  Kit.{pass_all, free_all, look_at, get, through, sets, heard, as_written, says, El, R, args, elτ},
  Kit.frame,
  Methods.{walked, mutable, comes_back, word, item, words},
  Regions.{scaled, Sr, Seen, near, slots_open, slots_close, item_size, place_out, place_in},
  Regions.place_owned,
}
use Rattle.arraydeque_ring.specs.Steps.{more_transfers}
use Rattle.arraydeque_ring.specs.contracts.slots.Slots.write as f
use Rattle.arraydeque_ring.proofs.slots.Slots.write.Statement as stated
use Rattle.arraydeque_ring.proofs.slots.Slots.write.Code as code

pub write_spec : {M : Type 1} → stated.statement M
write_spec 𝓤 𝓛 𝓜 𝓡 wired X L =
    let E : El = record { row = X; laws = L } in let here = inst_fn (args E) code.function in
    walked 1 𝓛 (mutable (comes_back 1 𝓛 (Sr E)) (word (item E (words 0)))) 𝓜 𝓡 _ _ (f.clauses X 𝓛 𝓜.mem 𝓡.returns)
    _ _ (code.unfolded 𝓤 𝓛.H 𝓜 𝓡 wired (X, tt)) (λ κs qs bounds a _ fit post ends.
    let r = a.0.now in let i = a.1.0 in
    let x = a.1.1.0 in let v = fit.1.0.0 in let v_fits = fit.1.0.1 in
    first_fact ! (λ _. heard ! _ (λ asked. let within = asked.0 in
    alloc_all ! (λ l. pass_all ! refl ((tt, tt), (fit.0, (v_fits, tt))) $ move ! (0 ∷ 1 ∷ 3 ∷ []) $
    slots_open E ! tt r (λ g b o n ok.
    let far = near E ok i (omega arith) in let at = i * item_size E + o in
    let new : Seen E = record { places = set r.places i (Some x); steps = more_transfers 1 r.steps } in
    place_out E ! b o r.places i within asked.1 $
    as_written ! (elτ E) b at $
    -- [the room; the other places; the right; the words; the open borrow, in three; what x owns; the other token]
    first ! $ blocks ! $
    sets ! (of_opd ! (load ! (through ! refl (fld ! refl (stop !))) (look_in ! 3 (sub ! 0 refl (whole !)))))
    refl (tt, tt) $
    sets ! (of_opd ! (get ! refl)) refl (tt, tt) $
    sets ! (scaled ! (get ! refl) far) refl (tt, record { fits = far }) $
    sets ! (bin ! (get ! refl) (get ! refl) tt) refl (tt, tt) $ sets ! (of_opd ! (get ! refl)) refl v_fits $
    assigns_last ! (of_opd ! (get ! refl)) (through ! refl (stop !)) (init ! 0 refl v_fits) $
    after_block ! 𝓡 here l 1 post $
    sets ! (of_opd ! (unit_lit !)) refl (tt, tt) $
    move ! (0 ∷ 7 ∷ []) $ use2 𝓛 (‵ (place_owned (R E) b at (Some x)))
    (part_in 𝓛 (R E) refl full_share x b at v) $
    place_in E ! b o r.places i within (Some x) $
    slots_close E ! tt new ok (sym (length-set r.places i (Some x))) $
    returns ! (look_at ! 0 refl) $ free_all ! refl $
    suffices ! _ (ends vunit tt (new, tt)) $ frame ! $ frame ! $ feq_i ! _ (vunit ∷ []) _ refl $ frame ! $ join ! $
    says ! refl $ done !)))))
