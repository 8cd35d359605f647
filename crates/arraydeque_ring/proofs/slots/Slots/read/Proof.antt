-- `read` empties a filled place. Assumes `Logic`.
use Rattle.arraydeque_ring.proofs.{
  memory.{
    Called.{after_block, first_fact},
    Kit.{part_out, frame, refl, sym, [], ◌∷◌, ◌+◌, ◌*◌, arith, set, length-set, None, full_share},
    Kit.{fat, froom, inst_fn, ‵, ◌⊛◌, some, ◌$◌, move, !, use1, split, join, pick, suffices, done},
    Kit.{whole, sub, look_in, of_opd, bin, load, look, stop, fld, first, blocks, returns},
    Kit.{alloc_all, pass_all, free_all, look_at, get, through, sets, sets_last, heard, as_raw},
    Kit.{says_two, El, R, args, elτ},
    Methods.{method, comes_back},
    Regions.{scaled, Sr, Seen, near, slots_open, slots_close, item_size, place_out, place_in},
  },
  places.Filled.filled_within,
}
use types.Run.{well_typed}
use Rattle.arraydeque_ring.specs.Steps.{more_transfers}
use Rattle.arraydeque_ring.specs.contracts.slots.Slots.read as f
use Rattle.arraydeque_ring.proofs.slots.Slots.read.Statement as stated
use Rattle.arraydeque_ring.proofs.slots.Slots.read.Code as code

pub read_spec : {M : Type 1} → stated.statement M
read_spec 𝓤 𝓛 𝓜 𝓡 wired X L =
    let E : El = record { row = X; laws = L } in let here = inst_fn (args E) code.function in
    method 1 1 (Sr E) 𝓛 (comes_back 1 𝓛 _) 𝓜 𝓡 _ _ (f.clauses X 𝓛 𝓜.mem 𝓡.returns) _ _
    (code.unfolded 𝓤 𝓛.H 𝓜 𝓡 wired (X, tt)) (λ κs qs bounds a _ fit post ends.
    let r = a.0.now in let i = a.1.0 in
    first_fact ! (λ _. heard ! _ (λ asked.
    let x = asked.0 in let within = filled_within r.places i x asked.1 in
    alloc_all ! (λ l. pass_all ! refl ((tt, tt), fit) $
    slots_open E ! tt r (λ g b o n ok.
    let far = near E ok i (omega arith) in let at = i * item_size E + o in
    let new : Seen E = record { places = set r.places i None; steps = more_transfers 1 r.steps } in
    place_out E ! b o r.places i within asked.1 $
    use1 𝓛 (some (λ v. ‵ (fat full_share (elτ E) b at v) ⊛ ‵ (X.own_val x (v ∷ []))))
    (part_out 𝓛 (R E) refl full_share x b at) $ pick ! (λ v. split ! $ well_typed ! (λ v_fits.
    -- [the value; what x owns; the other places; the right; the words; the open borrow, in three; the other token]
    first ! $ blocks ! $
    sets ! (of_opd ! (load ! (through ! refl (fld ! refl (stop !))) (look_in ! 4 (sub ! 0 refl (whole !)))))
    refl (tt, tt) $
    sets ! (scaled ! (get ! refl) far) refl (tt, record { fits = far }) $
    sets ! (bin ! (get ! refl) (get ! refl) tt) refl (tt, tt) $
    sets_last ! (of_opd ! (load ! (through ! refl (stop !)) (look ! 0 refl))) refl v_fits $
    after_block ! 𝓡 here l 1 post $
    sets ! (of_opd ! (get ! refl)) refl v_fits $
    use1 𝓛 (‵ (froom (elτ E) b at)) (𝓛.laws.at_room (elτ E) b at v) $ as_raw ! (elτ E) b at $
    move ! (0 ∷ 2 ∷ 3 ∷ 4 ∷ 5 ∷ 6 ∷ 7 ∷ []) $
    place_in E ! b o r.places i within None $
    slots_close E ! tt new ok (sym (length-set r.places i None)) $ returns ! (look_at ! 0 refl) $ free_all ! refl $
    suffices ! _ (ends v x (new, tt)) $ frame ! $ frame ! $ move ! (1 ∷ []) $ frame ! $ join ! $
    says_two ! (asked.1, refl) $ done !)))))))
