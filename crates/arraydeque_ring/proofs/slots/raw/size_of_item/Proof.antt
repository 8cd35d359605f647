-- `size_of_item` answers the size of any type, capped to a word. Assumes `Logic`.
use Rattle.arraydeque_ring.proofs.memory.{
  Kit.{refl, [], ◌∷◌, ◌^◌, w64, vint, size, capped, capped_fits, ◌$◌, !, join, fjoin, feq_i, flt_i},
  Kit.{suffices, done, of_opd, size_word, returns, alloc_all, pass_all, free_all, look_at, sets},
  Kit.{says, layout, a_type, layouts, frame, drop},
  Methods.{walked, words},
}
use Rattle.arraydeque_ring.specs.contracts.slots.raw.size_of_item as f
use Rattle.arraydeque_ring.proofs.slots.raw.size_of_item.Statement as stated
use Rattle.arraydeque_ring.proofs.slots.raw.size_of_item.Code as code

pub size_of_item_spec : {M : Type 1} → stated.statement M
size_of_item_spec 𝓤 𝓛 𝓜 𝓡 wired X L =
    let types = layouts (a_type ∷ []) (X, tt) in
    let s = capped (size (layout X)) in
    walked 0 𝓛 (words 0) 𝓜 𝓡 _ _ (f.clauses X 𝓛 𝓜.mem 𝓡.returns) _ _
    (code.unfolded 𝓤 𝓛.H 𝓜 𝓡 wired (X, tt)) (λ κs qs bounds a g _ post ends.
    drop ! $ alloc_all ! (λ l. pass_all ! refl tt $
    sets ! (of_opd ! (size_word !)) refl (tt, record { fits = capped_fits (size (layout X)) }) $
    returns ! (look_at ! 0 refl) $ free_all ! refl $
    suffices ! _ (ends (vint w64 s) s tt) $
    flt_i ! s (2 ^ 64) (capped_fits (size (layout X))) $ feq_i ! _ (vint w64 s ∷ []) _ refl $
    fjoin ! $ frame ! $ join ! $ says ! refl $ done !))
