-- `write_block` fills N empty places at once. Assumes `Logic`.
use Rattle.arraydeque_ring.proofs.memory.{
  Called.{after_block, first_fact},
  Kit.{frame, ◌≡◌, refl, sym, ap, ℕ, [], ◌∷◌, ◌++◌, map, Some, ◌+◌, ◌*◌, arith, length, take},
  Kit.{drop_list, full_share, inst_fn, vunit, ty_array, ‵, ◌$◌, !, move, use2, feq_i, suffices},
  Kit.{done, whole, sub, look_in, of_opd, unit_lit, bin, load, init, stop, fld, assigns_last},
  Kit.{first, blocks, returns, alloc_all, pass_all, free_all, look_at, get, through, sets, heard},
  Kit.{says, part_at, El, R, elτ, common_steps, a_type, a_number, part_in, Array, layouts, number},
  Kit.join,
  Methods.{walked, mutable, comes_back, word, block, words},
  Regions.{Sr, Seen, near, slots_open, slots_close, scaled, item_size, array_in, room_out},
}
use Rattle.arraydeque_ring.specs.Steps.{more_transfers}
use Rattle.arraydeque_ring.specs.contracts.slots.Slots.write_block as f
use Rattle.arraydeque_ring.proofs.slots.Slots.write_block.Statement as stated
use Rattle.arraydeque_ring.proofs.slots.Slots.write_block.Code as code

pub write_block_spec : {M : Type 1} → stated.statement M
write_block_spec 𝓤 𝓛 𝓜 𝓡 wired X N L N_fits =
    let E : El = record { row = X; laws = L } in
    let types = layouts (a_type ∷ a_number ∷ []) (X, (number N, tt)) in
    let here = inst_fn types code.function in
    walked 2 𝓛 (mutable (comes_back 2 𝓛 (Sr E)) (word (block E N (words 0)))) 𝓜 𝓡 _ _
    (f.clauses X (number N) 𝓛 𝓜.mem 𝓡.returns) _ _
    (code.unfolded 𝓤 𝓛.H 𝓜 𝓡 wired (X, (number N, tt))) (λ κs qs bounds a _ fit post ends.
    let r = a.0.now in let ps = r.places in let τ = ty_array (elτ E) N in let Items = Array (R E) N in
    let i = a.1.0 in let s = item_size E in
    let xs = a.1.1.0 in let v = fit.1.0.0 in let v_fits = fit.1.0.1 in let long = fit.1.0.2 in
    first_fact ! (λ _. first_fact ! (λ _. first_fact ! (λ _. first_fact ! (λ _. heard ! _ (λ empty.
    let within = empty.0 in
    alloc_all ! (λ l. pass_all ! refl ((tt, tt), (fit.0, (v_fits, tt))) $ move ! (0 ∷ 1 ∷ 3 ∷ []) $
    slots_open E ! tt r (λ g b o n ok.
    let far = near E ok i (omega arith) in let at = i * s + o in
    let new : ℕ → Seen E = λ k. record {
      places = take i ps ++ (map Some xs ++ drop_list (i + k) ps);
      steps = more_transfers N r.steps;
    } in
    let same : length ps ≡ length (new N).places = grind (arith, common_steps, long) in
    room_out E ! b o ps i N within $
    -- [the room; the other places; the right; the words; the open borrow, in three; what the array owns;
    -- the other token]
    first ! $ blocks ! $
    sets ! (of_opd ! (load ! (through ! refl (fld ! refl (stop !))) (look_in ! 3 (sub ! 0 refl (whole !)))))
    refl (tt, tt) $
    sets ! (scaled ! (get ! refl) far) refl (tt, record { fits = far }) $
    sets ! (bin ! (get ! refl) (get ! refl) tt) refl (tt, tt) $
    sets ! (of_opd ! (get ! refl)) refl (tt, tt) $
    sets ! (of_opd ! (get ! refl)) refl v_fits $
    assigns_last ! (of_opd ! (get ! refl)) (through ! refl (stop !)) (init ! 0 refl v_fits) $
    after_block ! 𝓡 here l 1 post $
    sets ! (of_opd ! (unit_lit !)) refl (tt, tt) $
    move ! (0 ∷ 7 ∷ []) $ use2 𝓛 (‵ (part_at Items full_share xs b at))
    (part_in 𝓛 Items refl full_share xs b at v) $
    array_in E ! b o ps i N within xs refl $
    slots_close E ! tt (new N) ok same $
    returns ! (look_at ! 0 refl) $ free_all ! refl $
    suffices ! _ (ends vunit tt (new N, tt)) $ frame ! $ frame ! $
    feq_i ! _ (vunit ∷ []) _ refl $ frame ! $ join ! $ says ! (ap new (sym long)) $ done !))))))))
