use Rattle.std.proofs.{Common.{◌∙◌, ◌++◌, ◌∷◌, [], ap, inr, subst, sym}, lemmas.Int.to_z-of_z}
use mir.Syntax.{w64}
use Rattle.adq.{
  proofs.{Numbers.fits, ValuesRead.{Parted, parted_more, parted_bad}},
  specs.{declared.fault.Fault.TheVariants.Line, Line.words_of},
}
use Rattle.adq.proofs.line.Line.values.Goals as goal

pub loop-word-preserved : goal.loop-word-preserved
loop-word-preserved c =
    let parted = subst (Parted (words_of c.args.self.rest.now) c.loop-word.values.items) c.in-Some.ensures.words
    c.loop-word.invariant.parted in
    let spelled = c.in-Some-value_of.ensures in
    let pushed = ap (λ x. c.loop-word.values.items ++ x ∷ [])
    (to_z-of_z w64 _ (fits c.in-Some-value_of.value spelled.2 spelled.3)) in record {
      number = c.word.ensures.number ∙ c.loop-word.invariant.number;
      parted = subst (λ xs. Parted (words_of c.args.self.rest.now) xs (words_of c.word.new.self.rest.now))
          (sym (c.in_ok-push-in-Some-value_of.ensures.items ∙ pushed)) (parted_more _ _ _ _ _ parted spelled);
    }

pub returns-in-None : goal.returns-in-None
returns-in-None c =
    let parted = subst (Parted (words_of c.args.self.rest.now) c.loop-word.values.items) c.in-Some.ensures.words
    c.loop-word.invariant.parted in
    inr (
      c.bad.ensures ∙ ap Line (c.word.ensures.number ∙ c.loop-word.invariant.number),
      λ v. parted_bad _ _ _ _ v.items parted c.in-None.ensures,
    )
