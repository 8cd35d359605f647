-- `without_memory` makes places that take no bytes out of nothing. Assumes `Logic`.
use Rattle.arraydeque_ring.proofs.memory.{
  Blocks.no_right,
  Called.first_fact,
  Kit.{arith, refl, ‵, ◌$◌, !, use0, suffices, done, agg, addr, from, stop, no_more, and_then},
  Kit.{returns, alloc_all, pass_all, free_all, look_at, get, sets, says, heard, block_ptr, El},
  Kit.{frame, join},
  Methods.{walked, handle, words},
  Regions.{Fits-empty, places, right, heap_Good, slots_val, slots_Good, slots_made, of_nothing},
  Regions.empty_region,
}
use Rattle.arraydeque_ring.specs.contracts.slots.Slots.without_memory as f
use Rattle.arraydeque_ring.proofs.slots.Slots.without_memory.Statement as stated
use Rattle.arraydeque_ring.proofs.slots.Slots.without_memory.Code as code

pub without_memory_spec : {M : Type 1} → stated.statement M
without_memory_spec 𝓤 𝓛 𝓜 𝓡 wired X L =
    let E : El = record { row = X; laws = L } in
    walked 0 𝓛 (handle (words 1)) 𝓜 𝓡 _ _ (f.clauses X 𝓛 𝓜.mem 𝓡.returns) _ _
    (code.unfolded 𝓤 𝓛.H 𝓜 𝓡 wired (X, tt)) (λ κs qs bounds a _ fit post ends.
    let g = a.0 in let n = a.1.0 in let n_fits = fit.1.0.1.fits in
    let r = empty_region n in
    first_fact ! (λ _. heard ! _ (λ no_bytes.
    alloc_all ! (λ l. pass_all ! refl (heap_Good, fit.1) $
    let b = l 3 in
    sets ! (agg ! (no_more !)) refl (tt, tt) $
    sets ! (addr ! (from ! (stop !))) refl (tt, tt) $
    sets ! (agg ! (and_then ! (get ! refl) (and_then ! (get ! refl) (and_then ! (get ! refl) (no_more !))))) refl
    (slots_Good E b 0 n n_fits) $
    returns ! (look_at ! 0 refl) $ free_all ! refl $
    suffices ! _ (ends (slots_val b 0 n) r tt) $
    -- [the token; the others]
    use0 𝓛 (‵ (right E g n b 0)) (no_right E 𝓛 g n (block_ptr b 0) no_bytes) $
    use0 𝓛 (‵ (places E r b 0)) (of_nothing E 𝓛 b n 0 no_bytes) $
    slots_made E ! (Fits-empty E 0 n n_fits (omega (arith, no_bytes))) $
    frame ! $ join ! $ says ! refl $ done !))))
