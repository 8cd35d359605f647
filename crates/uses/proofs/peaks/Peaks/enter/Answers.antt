use Rattle.std.proofs.{
  Common.{◌≡◌, ◌++◌, ◌∷◌, [], None, ap, ◌∙◌, rules},
  lemmas.Result.on_ok_weaker,
}
use Rattle.uses.proofs.Rising.{
  fallen,
  pop-lower,
  pop-none,
  pop-stays,
  peaks-enter,
  fewer-still,
  unchanged-full,
}
use Rattle.uses.proofs.peaks.Peaks.enter.Goals as goal

pub loop-preserved : goal.loop-preserved
loop-preserved g c =
    let lower = pop-lower _ _ c.args.sample (λ x b y met. search rules) _ _ _ c.pop_back_if.ensures.cases in record {
      same = lower ∙ c.loop.invariant.same;
      unchanged_or_fewer = fewer-still _ _ _ (search rules) c.loop.invariant.unchanged_or_fewer;
    }

pub returns-clause-peaks : goal.returns-clause-peaks
returns-clause-peaks g c =
    let s = c.args.sample in
    let popped = c.pop_back_if.ensures.cases in
    let none : c.pop_back_if.result ≡ None = search rules in
    let stay = pop-none _ _ s (λ x b y met. search rules) _ _ _ popped none in
    let same = pop-lower _ _ s (λ x b y met. search rules) _ _ _ popped ∙ c.loop.invariant.same in
    on_ok_weaker c.push_back.result
    (λ pushed samples was. pushed ∙ ap (λ l. l ++ s ∷ []) (stay ∙ same ∙ ap (fallen s) was) ∙ peaks-enter samples s)
    c.push_back.ensures.items

pub returns-clause-unchanged : goal.returns-clause-unchanged
returns-clause-unchanged g c =
    let popped = c.pop_back_if in
    let none : popped.result ≡ None = search rules in
    let stay = pop-stays _ _ c.args.sample (λ x b y met. search rules) _ _ _ popped.ensures.cases none in
    unchanged-full c.push_back.result g.row.CAP c.args.self.now popped.new.self.items c.push_back.new.self.items
    (search rules) (search rules) (rw stay c.loop.invariant.unchanged_or_fewer) (search rules)
