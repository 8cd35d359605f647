use Rattle.std.proofs.{
  Common.{◌≡◌, true≢false, List, [], ◌++◌, append-nil, sym, ap, ap₂, ◌∙◌},
  lemmas.{Bool.Decides.{Decides-int_eq}, Slice.Eq.{slice_eq-Decides}},
}
use Rattle.arraydeque_samples.proofs.build.is_cut.Goals as goal

-- the first slice is the whole list where the second is empty
whole : {X : Type 0} (first second list : List X) → first ++ second ≡ list → second ≡ [] → first ≡ list
whole first second list joined none = sym (append-nil first) ∙ ap (λ l. first ++ l) (sym none) ∙ joined

pub returns-then-eq-clause-joined : goal.returns-then-eq-clause-joined
returns-then-eq-clause-joined g c =
    let slices = c.as_slices.result in
    let same_first = slice_eq-Decides Decides-int_eq slices.0.now c.args.first.now c.eq.result c.eq.ensures in
    let same_second =
    slice_eq-Decides Decides-int_eq slices.1.now c.args.second.now c.eq-then-eq.result c.eq-then-eq.ensures in
    λ same. ap₂ (λ xs ys. xs ++ ys) (sym (same_first.0 c.if-eq.true)) (sym (same_second.0 same))
    ∙ c.as_slices.ensures.joined

pub returns-then-eq-clause-one_piece : goal.returns-then-eq-clause-one_piece
returns-then-eq-clause-one_piece g c =
    let slices = c.as_slices.result in
    let same_first = slice_eq-Decides Decides-int_eq slices.0.now c.args.first.now c.eq.result c.eq.ensures in
    let same_second =
    slice_eq-Decides Decides-int_eq slices.1.now c.args.second.now c.eq-then-eq.result c.eq-then-eq.ensures in
    λ in_one. let none = c.as_slices.ensures.one_piece in_one in
    let all = whole slices.0.now slices.1.now c.args.deque.now.items c.as_slices.ensures.joined none in (
      λ same. (sym (same_first.0 c.if-eq.true) ∙ all, sym (same_second.0 same) ∙ none),
      λ cut. same_second.1 (none ∙ sym cut.1),
    )

pub returns-else-eq-clause-one_piece : goal.returns-else-eq-clause-one_piece
returns-else-eq-clause-one_piece g c =
    let slices = c.as_slices.result in
    let same_first = slice_eq-Decides Decides-int_eq slices.0.now c.args.first.now c.eq.result c.eq.ensures in
    λ in_one. let none = c.as_slices.ensures.one_piece in_one in
    let all = whole slices.0.now slices.1.now c.args.deque.now.items c.as_slices.ensures.joined none in
    (λ same. absurd (true≢false (sym same ∙ c.if-eq.false)), λ cut. same_first.1 (all ∙ sym cut.0))
