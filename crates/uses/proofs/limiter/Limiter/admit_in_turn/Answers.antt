use Rattle.std.proofs.Common.{◌≡◌, None, ◌∙◌, rules}
use Rattle.uses.proofs.Recent.{pop-none, pop-old, pop-rises}
use Rattle.uses.specs.Limiter.{recent}
use Rattle.uses.proofs.limiter.Limiter.admit_in_turn.Given as given
use Rattle.uses.proofs.limiter.Limiter.admit_in_turn.Goals as goal

pub loop-preserved : goal.loop-preserved
loop-preserved g c =
    let was = c.loop.invariant in let cases = c.pop_front_if.ensures.cases in
    let span = c.self.inside.span in let now = c.args.now in record {
      same = pop-old span now _ _ (λ x b y met. search rules) _ _ _ cases ∙ was.same;
      rises = pop-rises span now _ _ (λ x b y met. search rules) _ _ _ was.rises cases;
      span = was.span;
    }

-- what is left once no first request is to go
kept : (g : given.Over) (c : goal.After-is_ok g)
    → c.pop_front_if.new.self.items ≡ recent c.self.inside.span c.args.now c.self.inside.admitted.items
kept g c =
    let was = c.loop.invariant in let cases = c.pop_front_if.ensures.cases in
    let span = c.self.inside.span in let now = c.args.now in
    let none : c.pop_front_if.result ≡ None = search rules in
    let stay = pop-none span now _ _ (λ x b y met. search rules) _ _ _ was.rises cases none in
    let all = stay ∙ pop-old span now _ _ (λ x b y met. search rules) _ _ _ cases ∙ was.same in
    rw (← c.self.view_is) at all

pub returns-clause-possible : goal.returns-clause-possible
returns-clause-possible g c = rw (← c.self.view_is, ← kept g c) (search rules)

pub returns-clause-admitted : goal.returns-clause-admitted
returns-clause-admitted g c = rw (← c.self.view_is, ← kept g c) (search rules)

pub returns-clause-refused : goal.returns-clause-refused
returns-clause-refused g c = rw (← c.self.view_is, ← kept g c) (search rules)
