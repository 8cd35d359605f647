-- `move_block` moves N values at once. Assumes `Logic`.
use Rattle.arraydeque_ring.{
  proofs.{
    memory.{
      Called.{after_block, first_fact},
      Kit.{frame, ◌≡◌, refl, sym, ap, [], ◌∷◌, ℕ, ◌+◌, ◌*◌, arith, length, full_share, fat, froom},
      Kit.{inst_fn, ty_array, vunit, vptr, ‵, ◌⊛◌, some, ◌$◌, !, move, use1, use2, split, join},
      Kit.{pick, rewrite, feq_i, suffices, done, whole, sub, look_in, of_opd, unit_lit, bin, load},
      Kit.{look, init, stop, fld, assigns_last, first, blocks, returns, alloc_all, pass_all},
      Kit.{free_all, look_at, get, through, sets, is, heard, says, part_at, El, R, elτ},
      Kit.{common_steps, a_type, a_number, part_in, part_out, Array, layouts, number},
      Methods.{method, comes_back},
      Regions.{Sr, Seen, near, slots_open, slots_close, scaled, item_size, Row, array_out},
      Regions.{array_in, room_out, room_in},
    },
    moved.Flat.{length-moved, moved_parts},
  },
  specs.{Moved.run_moved, Runs.run_emptied, Steps.more_transfers},
}
use Rattle.std.proofs.Math.Nat.{add-mul}
use types.Run.{well_typed}
use Rattle.arraydeque_ring.specs.contracts.slots.Slots.move_block as f
use Rattle.arraydeque_ring.proofs.slots.Slots.move_block.Statement as stated
use Rattle.arraydeque_ring.proofs.slots.Slots.move_block.Code as code

pub move_block_spec : {M : Type 1} → stated.statement M
move_block_spec 𝓤 𝓛 𝓜 𝓡 wired X N L N_fits =
    let E : El = record { row = X; laws = L } in
    let types = layouts (a_type ∷ a_number ∷ []) (X, (number N, tt)) in
    let here = inst_fn types code.function in
    method 2 3 (Sr E) 𝓛 (comes_back 2 𝓛 _) 𝓜 𝓡 _ _ (f.clauses X (number N) 𝓛 𝓜.mem 𝓡.returns) _ _
    (code.unfolded 𝓤 𝓛.H 𝓜 𝓡 wired (X, (number N, tt))) (λ κs qs bounds a _ fit post ends.
    let r = a.0.now in let ps = r.places in let τ = ty_array (elτ E) N in let Items = Array (R E) N in
    let to = a.1.0 in let from = a.1.1.0 in let at = a.1.1.1.0 in let dst = to + at in
    let src = from + at in let s = item_size E in
    first_fact ! (λ _. first_fact ! (λ _. first_fact ! (λ _. first_fact ! (λ filled. heard ! _ (λ target.
    let within = filled.0 in let xs = filled.1.0 in
    let es = run_emptied src N ps in
    let es_long : length es ≡ length ps = grind (arith, common_steps) in
    let new : Seen E = record { places = run_moved dst src N ps; steps = more_transfers (2 * N) r.steps } in
    alloc_all ! (λ l. pass_all ! refl ((tt, tt), fit) $
    slots_open E ! tt r (λ g b o n ok.
    let to_near = near E ok to (omega arith) in let from_near = near E ok from (omega arith) in
    let at_near = near E ok at (omega arith) in
    let on : (i : ℕ) → vptr b (at * s + (i * s + o)) ≡ vptr b ((i + at) * s + o) =
    λ i. ap (vptr b) (omega (arith, add-mul i at s)) in
    array_out E ! b o ps src N filled $
    use1 𝓛 (some (λ v. ‵ (fat full_share τ b (src * s + o) v) ⊛ ‵ (Items.own_val xs (v ∷ []))))
    (part_out 𝓛 Items refl full_share xs b (src * s + o)) $ pick ! (λ v. split ! $ well_typed ! (λ v_fits.
    -- [the array; what it owns; the other places; the right; the words; the open borrow, in three; the other tokens]
    first ! $ blocks ! $
    sets ! (of_opd ! (load ! (through ! refl (fld ! refl (stop !))) (look_in ! 4 (sub ! 0 refl (whole !)))))
    refl (tt, tt) $
    sets ! (scaled ! (get ! refl) to_near) refl (tt, record { fits = to_near }) $
    sets ! (bin ! (get ! refl) (get ! refl) tt) refl (tt, tt) $
    sets ! (scaled ! (get ! refl) at_near) refl (tt, record { fits = at_near }) $
    sets ! (is ! (bin ! (get ! refl) (get ! refl) tt) (on to)) refl (tt, tt) $
    sets ! (of_opd ! (get ! refl)) refl (tt, tt) $
    sets ! (of_opd ! (load ! (through ! refl (fld ! refl (stop !))) (look_in ! 4 (sub ! 0 refl (whole !)))))
    refl (tt, tt) $
    sets ! (scaled ! (get ! refl) from_near) refl (tt, record { fits = from_near }) $
    sets ! (bin ! (get ! refl) (get ! refl) tt) refl (tt, tt) $
    sets ! (scaled ! (get ! refl) at_near) refl (tt, record { fits = at_near }) $
    sets ! (is ! (bin ! (get ! refl) (get ! refl) tt) (on from)) refl (tt, tt) $
    sets ! (of_opd ! (get ! refl)) refl (tt, tt) $
    sets ! (of_opd ! (load ! (through ! refl (stop !)) (look ! 0 refl))) refl v_fits $
    -- the source is empty, and the target is room
    use1 𝓛 (‵ (froom τ b (src * s + o))) (𝓛.laws.at_room τ b (src * s + o) v) $
    move ! (0 ∷ 2 ∷ []) $ room_in E ! b o ps src N within $ room_out E ! b o es dst N (omega arith) $
    assigns_last ! (of_opd ! (get ! refl)) (through ! refl (stop !)) (init ! 0 refl v_fits) $
    after_block ! 𝓡 here l 1 post $
    sets ! (of_opd ! (unit_lit !)) refl (tt, tt) $
    -- [the array; the other places; what the array owns; ..]
    move ! (0 ∷ 2 ∷ []) $ use2 𝓛 (‵ (part_at Items full_share xs b (dst * s + o)))
    (part_in 𝓛 Items refl full_share xs b (dst * s + o) v) $
    array_in E ! b o es dst N (omega arith) xs filled.1.1 $
    rewrite ! 0 (λ l. ‵ (Row E 𝓛 b o l)) (moved_parts ps dst src N within target) refl $
    slots_close E ! tt new ok (sym (length-moved dst src N ps)) $
    returns ! (look_at ! 0 refl) $ free_all ! refl $
    suffices ! _ (ends vunit tt (new, tt)) $ frame ! $ frame ! $
    feq_i ! _ (vunit ∷ []) _ refl $ frame ! $ join ! $ says ! refl $ done !))))))))))
