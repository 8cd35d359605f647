-- `get_mut` lends the value in a filled place, and that place follows it. Assumes `Logic`.
use Rattle.arraydeque_ring.{
  proofs.{
    memory.{
      Called.{after_block, first_fact},
      Kit.{feq_i, fjoin3, nothing, join, refl, sym, [], ◌∷◌, ◌+◌, ◌*◌, arith, set, length-set, Some},
      Kit.{inst_fn, vptr, ‵, ◌$◌, ◌∵◌, !, qed, move, frame, suffices, done, whole, sub, look_in},
      Kit.{of_opd, bin, load, addr, stop, fld, first, blocks, returns, alloc_all, pass_all, free_all},
      Kit.{look_at, get, through, sets, sets_last, mem, says, El, R, args, heard},
      Lent.slots_lend,
      Methods.{method, spent},
      Regions.{scaled, Sr, near, slots_open, item_size, Around, place_out, place_in, place_owned},
    },
    places.Filled.filled_within,
  },
  specs.Steps.more_lends,
}
use Rattle.arraydeque_ring.specs.contracts.slots.Slots.get_mut as f
use Rattle.arraydeque_ring.proofs.slots.Slots.get_mut.Statement as stated
use Rattle.arraydeque_ring.proofs.slots.Slots.get_mut.Code as code

pub get_mut_spec : {M : Type 1} → stated.statement M
get_mut_spec 𝓤 𝓛 𝓜 𝓡 wired X L =
    let E : El = record { row = X; laws = L } in let here = inst_fn (args E) code.function in
    method 1 1 (Sr E) 𝓛 (spent 1 𝓛 _) 𝓜 𝓡 _ _ (f.clauses X 𝓛 𝓜.mem 𝓡.returns) _ _
    (code.unfolded 𝓤 𝓛.H 𝓜 𝓡 wired (X, tt)) (λ κs qs bounds a _ typed post ends.
    let r = a.0.now in let i = a.1.0 in
    first_fact ! (λ _. heard ! _ (λ asked.
    let x = asked.0 in let within = filled_within r.places i x asked.1 in
    alloc_all ! (λ l. pass_all ! refl ((tt, tt), typed) $
    slots_open E ! tt r (λ g b o n ok.
    let far = near E ok i (omega arith) in
    first ! $ blocks ! $
    sets ! (of_opd ! (load ! (through ! refl (fld ! refl (stop !))) (look_in ! 2 (sub ! 0 refl (whole !)))))
    refl (tt, tt) $
    sets ! (of_opd ! (get ! refl)) refl (tt, tt) $
    sets ! (scaled ! (get ! refl) far) refl (tt, record { fits = far }) $
    sets ! (bin ! (get ! refl) (get ! refl) tt) refl (tt, tt) $
    sets_last ! (addr ! (through ! refl (stop !))) refl (tt, tt) $
    after_block ! 𝓡 here l 1 post $
    sets ! (of_opd ! (get ! refl)) refl (tt, tt) $
    let at = i * item_size E + o in
    place_out E ! b o r.places i within asked.1 $
    slots_lend E ! tt ok (mem (R E)) (λ w. record {
      places = set r.places i (Some w);
      steps = more_lends 1 r.steps;
    }) x at
    (λ w. sym (length-set r.places i (Some w)))
    (λ w. qed 𝓛 (‵ (place_owned (R E) b at (Some w)) ∷ ‵ (Around E 𝓛 b o r.places i 1) ∷ []) ∵
    place_in E ! b o r.places i within (Some w) $ done !) (λ δ. feq_i ! _ (vptr b at ∷ []) _ refl $ fjoin3 ! $
    -- [the `&mut`; its token; what the region follows; the other token]
    returns ! (look_at ! 0 refl) $ free_all ! refl $
    suffices ! _ (ends (vptr b at) (record { ref_ptr = (b, at); ghost_name = δ; now = x }) tt) $ nothing ! $ frame ! $
    frame ! $ move ! (0 ∷ 2 ∷ []) $ join ! $ frame ! $ says ! asked.1 $ done !))))))
