-- `with_memory` cuts a new block into empty places, and keeps the right to free it. Assumes `Logic`.
use Rattle.arraydeque_ring.proofs.memory.{
  Blocks.{scaled, right_at_start},
  Called.{after_block, first_fact},
  Heap.{Allocates, to_allocate, allocate_goes, allocated},
  Kit.{true, false, ◌≡◌, refl, [], ◌∷◌, ◌*◌, ◌<◌, ◌^◌, arith, lit<, Ok, Err, inst_fn, ty_array},
  Kit.{vstruct, vcons, vnil, after_seq, at_return, tables, ‵, raw, given, any_q, ◌$◌, !, move},
  Kit.{drop, use1, use2, join, learn, frame, fsplit, suffices, done, whole, agg, live, vrt},
  Kit.{in_variant, of_opd, lit, align_word, stop, fld, no_more, and_then, first, switches_on, exec},
  Kit.{returns, alloc_all, pass_all, free_all, look_at, get, get_in, get_tag, sets, sets_last},
  Kit.{lands_as, env, Is, layout, heard, owned, calls_at, framed, says, as_written, first_Good},
  Kit.{after, head, arm_body, El, args, elτ, Struct},
  Methods.{walked, seen, handle, words},
  Regions.{Sr, places, right, heap_Good, slots_val, slots_Good, slots_made, Fits-empty, item_size},
  Regions.{of_room, empty_region},
}
use denote.Struct.Struct.{Struct-Makes}
use Rattle.std.proofs.{
  alloc.Calls.Answer-typed,
  impls.GlobalAllocator.allocate.Met.met,
  ResultValues.{ok_of, err_of},
}
use denote.Struct.Declared as Declared
use Rattle.std.specs.contracts.result.Result as results
use Rattle.std.specs.contracts.alloc.AllocError as refusals
use Rattle.std.specs.contracts.alloc.Global as heap
use Rattle.arraydeque_ring.specs.contracts.slots.Slots.with_memory as f
use Rattle.arraydeque_ring.proofs.slots.Slots.with_memory.Statement as stated
use Rattle.arraydeque_ring.proofs.slots.Slots.with_memory.Code as code

pub with_memory_spec : {M : Type 1} → stated.statement M
with_memory_spec 𝓤 𝓛 𝓜 𝓡 wired X L =
    let E : El = record { row = X; laws = L } in let Out = results.the_row (Sr E) refusals.the_row in
    let here = inst_fn (args E) code.function in
    let 𝓣 = tables 𝓤 𝓛.H 𝓜 𝓡 𝓡.env in
    walked 1 𝓛 (seen heap.the_row (handle (words 1))) 𝓜 𝓡 _ _ (f.clauses X 𝓛 𝓜.mem 𝓡.returns) _ _
    (code.unfolded 𝓤 𝓛.H 𝓜 𝓡 wired (X, tt)) (λ κs qs bounds a _ fit post ends.
    let κ = κs.0 in let q = qs.0 in
    let p = a.0.ref_ptr in let h = a.0.now in let g = a.1.0 in
    let n = a.1.1.0 in let n_fits = fit.1.1.0.1.fits in let s = item_size E in
    first_fact ! (λ _. first_fact ! (λ some. heard ! _ (λ named_by.
    let bytes : n * s < 2 ^ 64 = omega arith in
    fsplit ! $ drop ! $
    -- [the `&`; its token; the other tokens]
    alloc_all ! (λ l. pass_all ! refl ((tt, tt), (heap_Good, fit.1.1)) $
    let En = env here.locals l in
    let arms = head (after 2 here.body) in
    let Then = any_q (after_seq 𝓤 𝓛.H _ (at_return 𝓤 𝓛.H En post)) in
    let Asks = Allocates 𝓛 𝓜.mem 𝓡.returns in
    let z = to_allocate 𝓛 𝓜.mem 𝓡.returns E n κ q p h in
    sets ! (scaled ! (get ! refl) bytes) refl (tt, record { fits = bytes }) $
    use2 𝓛 (raw (Asks.pre z)) (allocate_goes 𝓛 𝓜.mem 𝓡.returns E n κ q p h bytes) $
    calls_at ! (framed 𝓤 𝓛.H 𝓜 𝓣) Asks
    (met 𝓤 𝓛 𝓜 𝓡 (code.calls-std_heap::GlobalAllocator::allocate 𝓡.env wired)) z
    (and_then ! (get ! refl) (and_then ! (get ! refl) (and_then ! (align_word !) (no_more !)))) (λ v.
    allocated ! tt 𝓜.mem 𝓡.returns E n κ q p h v
    (λ b o e.
    let r = empty_region n in
    let made = slots_val b o n in let typed = slots_Good E b o n n_fits in
    let ok = first_Good (layout (Sr E)) made typed in
    lands_as ! e refl (Answer-typed true b o) $ first ! $
    switches_on ! (get_tag ! (vrt ! refl (fld ! refl (stop !))) (whole !)) $
    exec ! 𝓣.C 𝓣.Λ En (arm_body 0 arms) Then $
    sets ! (of_opd ! (get_in ! (vrt ! refl (fld ! refl (stop !))) (in_variant ! 0 0 refl refl (whole !)))) refl
    (tt, tt) $ sets ! (of_opd ! (get ! refl)) refl (tt, tt) $
    sets ! (agg ! (and_then ! (get ! refl) (and_then ! (get ! refl) (and_then ! (get ! refl) (no_more !)))))
    refl typed $
    sets_last ! (agg ! (and_then ! (lit ! tt) (and_then ! (get ! refl) (no_more !)))) refl ok $
    after_block ! 𝓡 here l 3 post $ sets ! (of_opd ! (get ! refl)) refl ok $
    as_written ! (ty_array (elτ E) n) b o $ use1 𝓛 (‵ (places E r b o)) (of_room E 𝓛 b n o) $ move ! (1 ∷ []) $
    use1 𝓛 (given (o ≡ 0) (‵ (right E g n b o))) (right_at_start E 𝓛 g n b o some) $ learn ! (λ start.
    move ! (1 ∷ 0 ∷ []) $
    slots_made E ! (Fits-empty E o n n_fits (omega arith)) $
    use1 𝓛 (‵ (Out.own_val (Ok r) (live 0 (vcons made vnil) ∷ []))) (ok_of 𝓛 (Sr E) refusals.the_row r made) $
    returns ! (look_at ! 0 refl) $ free_all ! refl $
    suffices ! _ (ends (live 0 (vcons made vnil)) (Ok r) tt) $ frame ! $ join ! $ says ! refl $ done !))
    (λ e.
    let Refusal = Struct (Declared.shape refusals.the_type) in
    let none = live 1 (vcons (vstruct vnil) vnil) in
    lands_as ! e refl (Answer-typed false 0 0) $ first ! $
    switches_on ! (get_tag ! (vrt ! refl (fld ! refl (stop !))) (whole !)) $
    exec ! 𝓣.C 𝓣.Λ En (arm_body 1 arms) Then $
    sets ! (of_opd ! (get_in ! (vrt ! refl (fld ! refl (stop !))) (in_variant ! 1 0 refl refl (whole !))))
    refl (tt, tt) $
    sets_last ! (agg ! (and_then ! (lit ! tt) (and_then ! (get ! refl) (no_more !)))) refl
    (tt, (record { fits = lit< tt }, (tt, tt))) $
    after_block ! 𝓡 here l 3 post $
    sets ! (of_opd ! (get ! refl)) refl (tt, (record { fits = lit< tt }, (tt, tt))) $
    owned ! Refusal (Is Refusal) (Struct-Makes 𝓛 (Declared.shape refusals.the_type) tt) tt (vstruct vnil ∷ [])
    (tt, (refl, tt)) $
    use1 𝓛
    (‵ (Out.own_val (Err (record {})) (none ∷ []))) (err_of 𝓛 (Sr E) refusals.the_row (record {}) (vstruct vnil)) $
    returns ! (look_at ! 0 refl) $ free_all ! refl $
    suffices ! _ (ends none (Err (record {})) tt) $ frame ! $ join ! $ says ! tt $ done !)))))))
