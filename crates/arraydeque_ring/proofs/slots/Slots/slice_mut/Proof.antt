-- `slice_mut` lends the values of a filled run, and the region follows them. Assumes `Logic`.
use Rattle.arraydeque_ring.{
  proofs.{
    loans.{
      Made.slice_lent,
      Placed.{placed, run, as_run, length-as_many, length-with_run},
      Runs.{Values, as_values, as_places},
    },
    memory.{
      Called.{after_block, first_fact},
      Kit.{named_lft, nothing, join, refl, sym, ◌∙◌, [], ◌∷◌, map, ◌+◌, ◌*◌, arith, length-map},
      Kit.{Some, inst_fn, ‵, ◌⊛◌, ◌$◌, ◌∵◌, qed, !, move, use1, use2, split, frame, rewrite},
      Kit.{suffices, done, whole, sub, look_in, agg, of_opd, bin, load, stop, fld, no_more},
      Kit.{and_then, first, blocks, returns, alloc_all, pass_all, free_all, look_at, get, through},
      Kit.{sets, sets_last, says, heard, El, R, args, slice_val},
      Lent.slots_lend,
      Methods.{method, spent},
      Regions.{Sr, near, run_fits, slots_open, scaled, item_size, places_owned, Around, run_out},
      Regions.run_in,
    },
    places.Filled.length_filled,
  },
  specs.{Runs.{as_many, with_run}, Steps.more_lends},
}
use Rattle.arraydeque_ring.specs.contracts.slots.Slots.slice_mut as f
use Rattle.arraydeque_ring.proofs.slots.Slots.slice_mut.Statement as stated
use Rattle.arraydeque_ring.proofs.slots.Slots.slice_mut.Code as code

pub slice_mut_spec : {M : Type 1} → stated.statement M
slice_mut_spec 𝓤 𝓛 𝓜 𝓡 wired X L =
    let E : El = record { row = X; laws = L } in let here = inst_fn (args E) code.function in
    method 1 2 (Sr E) 𝓛 (spent 1 𝓛 _) 𝓜 𝓡 _ _ (f.clauses X 𝓛 𝓜.mem 𝓡.returns) _ _
    (code.unfolded 𝓤 𝓛.H 𝓜 𝓡 wired (X, tt)) (λ κs qs bounds a _ typed post ends.
    let r = a.0.now in let ps = r.places in
    let from = a.1.0 in let len = a.1.1.0 in let len_ok = typed.1.0.1 in
    first_fact ! (λ _. heard ! _ (λ asked.
    let xs = asked.1.0 in let long = length_filled ps from len asked in
    alloc_all ! (λ l. pass_all ! refl ((tt, tt), typed) $
    slots_open E ! tt r (λ g b o n ok.
    let far = near E ok from (omega arith) in
    first ! $ blocks ! $
    sets ! (of_opd ! (load ! (through ! refl (fld ! refl (stop !))) (look_in ! 2 (sub ! 0 refl (whole !)))))
    refl (tt, tt) $
    sets ! (of_opd ! (get ! refl)) refl (tt, tt) $
    sets ! (scaled ! (get ! refl) far) refl (tt, record { fits = far }) $
    sets ! (bin ! (get ! refl) (get ! refl) tt) refl (tt, tt) $
    sets_last ! (agg ! (and_then ! (get ! refl) (and_then ! (get ! refl) (no_more !)))) refl
    (tt, (tt, (len_ok, tt))) $
    after_block ! 𝓡 here l 1 post $
    sets ! (of_opd ! (get ! refl)) refl (tt, (tt, (len_ok, tt))) $
    let at = from * item_size E + o in let Others = Around E 𝓛 b o ps from len in
    use1 𝓛 (‵ (places_owned (R E) b at (run ps from len)) ⊛ ‵ Others) (run_out E 𝓛 b o ps from len asked.0) $ split ! $
    as_values E b o ! from xs asked.1.1 long $
    slots_lend E ! tt ok (Values E len) (λ ws. record {
      places = with_run from (as_many xs ws) ps;
      steps = more_lends 1 r.steps;
    }) xs at
    (λ ws. sym (length-with_run from (as_many xs ws) ps (omega (arith, length-as_many xs ws)))) (λ ws.
    qed 𝓛 (‵ ((Values E len).own_at ws b at) ∷ ‵ Others ∷ []) ∵ as_places E b o ! from ws (λ same.
    use2 𝓛 (‵ (places_owned (R E) b o (placed from len (map Some ws) ps)))
    (run_in E 𝓛 b o ps from len asked.0 (map Some ws) (length-map ws Some ∙ same)) $
    rewrite ! 0 (λ qs. ‵ (places_owned (R E) b o qs)) (as_run from xs ws ps long same) refl $
    done !)) (λ δ. slice_lent (named_lft 2 0 tt κs) (R E) 𝓛 ! xs long (run_fits E ok len (omega arith)) $
    -- [the slice; its token; what the region follows; the other token]
    returns ! (look_at ! 0 refl) $ free_all ! refl $ suffices ! _ (ends (slice_val (b, at) len)
    (record { ref_ptr = (b, at); ghost_name = δ; now = xs }) tt) $ nothing ! $ frame ! $ frame ! $ move ! (0 ∷ 2 ∷ []) $
    join ! $ frame ! $ says ! asked.1.1 $ done !))))))
