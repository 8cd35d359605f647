-- `count` lets the counts grow, and does nothing else. Assumes `Logic`.
use Rattle.arraydeque_ring.{
  proofs.{
    memory.{
      Kit.{refl, [], ◌∷◌, vunit, ◌$◌, !, join, feq_i, suffices, done, of_opd, unit_lit, returns},
      Kit.{alloc_all, pass_all, free_all, look_at, sets, plain, says, El, frame, drop, false},
      Methods.{walked, mutable, comes_back, told, words},
      Regions.{Sr, Seen, slots_open, slots_close},
    },
    slots.StepKind.TheLaws.{the_laws, the_row_laws},
  },
  specs.Counted.counted,
}
use denote.Enum.Laws.{Tells-lowered}
use Rattle.arraydeque_ring.specs.contracts.slots.StepKind as kind
use Rattle.arraydeque_ring.specs.contracts.slots.Slots.count as f
use Rattle.arraydeque_ring.proofs.slots.Slots.count.Statement as stated
use Rattle.arraydeque_ring.proofs.slots.Slots.count.Code as code

pub count_spec : {M : Type 1} → stated.statement M
count_spec 𝓤 𝓛 𝓜 𝓡 wired X L =
    let E : El = record { row = X; laws = L } in
    walked 1 𝓛 (mutable (comes_back 1 𝓛 (Sr E)) (told (plain (λ _. kind.the_row)) (λ _ _ _. refl) false
    (λ _. Tells-lowered kind.enum the_laws) (words 1))) 𝓜 𝓡 _ _ (f.clauses X 𝓛 𝓜.mem 𝓡.returns)
    _ _ (code.unfolded 𝓤 𝓛.H 𝓜 𝓡 wired (X, tt)) (λ κs qs bounds a _ fit post ends.
    let r = a.0.now in let k = a.1.0 in
    let new : Seen E = record r { steps = counted k a.1.1.0 r.steps } in
    drop ! $ alloc_all ! (λ l. pass_all ! refl
    ((tt, tt), (((the_row_laws.lawful 𝓛).typed k _ fit.0).0, fit.1)) $
    -- [obs; the borrow; its token; the other token]
    slots_open E ! tt r (λ g b o m ok.
    sets ! (of_opd ! (unit_lit !)) refl (tt, tt) $
    slots_close E ! tt new ok refl $ returns ! (look_at ! 0 refl) $ free_all ! refl $
    suffices ! _ (ends vunit tt (new, tt)) $ frame ! $ frame ! $ feq_i ! _ (vunit ∷ []) _ refl $ frame ! $ join ! $
    says ! refl $ done !)))
