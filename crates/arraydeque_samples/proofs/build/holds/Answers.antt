use Rattle.std.{
  proofs.{
    Common.{◌≡◌, ◌&&◌, Bool, true, false, List, ◌++◌, length, sym, ap, ap₂, ◌∙◌},
    lemmas.List.{take-append-drop},
  },
  specs.{Cmp.Lexicographic.pointwise, List.IsSplitAt},
}
use Rattle.arraydeque.proofs.Sections.{pointwise-both}
use Rattle.arraydeque_samples.proofs.build.holds.Goals as goal

-- two slices of a list, beside another list that is cut where the first slice ends
in_parts : {X : Type 0} (E : X → X → Bool) (first second front rest list items : List X) → first ++ second ≡ list
    → IsSplitAt items (length first) front rest → (same : Bool) → same ≡ pointwise E first front
    → (same && pointwise E second rest) ≡ pointwise E list items
in_parts E first second front rest list items joined cut same told =
    let whole = ap₂ (λ xs ys. xs ++ ys) cut.1 cut.2 ∙ take-append-drop (length first) items in
    ap (λ b. b && pointwise E second rest) told ∙ sym (pointwise-both E first second front rest (sym cut.3))
    ∙ ap₂ (pointwise E) joined whole

pub returns-then-eq : goal.returns-then-eq
returns-then-eq g c =
    let slices = c.as_slices.result in
    c.eq-then-eq.ensures ∙ in_parts g.T.PartialEq.eq slices.0.now slices.1.now c.in-Some.front.now c.in-Some.rest.now
    c.args.deque.now.items c.args.items.now
    c.as_slices.ensures.joined c.in-Some.ensures.cases true c.if-eq.ensures

pub returns-else-eq : goal.returns-else-eq
returns-else-eq g c =
    let slices = c.as_slices.result in
    c.if-eq.false ∙ in_parts g.T.PartialEq.eq slices.0.now slices.1.now c.in-Some.front.now c.in-Some.rest.now
    c.args.deque.now.items c.args.items.now
    c.as_slices.ensures.joined c.in-Some.ensures.cases false c.if-eq.ensures
