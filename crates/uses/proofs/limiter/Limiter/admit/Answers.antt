use Rattle.std.proofs.{Common.{◌-◌, nat_lt, rules}, lemmas.Fn.filter_same}
use Rattle.uses.proofs.limiter.Limiter.admit.Goals as goal

pub returns-clause-possible : goal.returns-clause-possible
returns-clause-possible g c =
    let kept = filter_same _ (λ time. nat_lt (c.args.now - time) c.self.inside.span) _
    (λ x b f' k. search rules) _ _ c.retain.ensures.filtered in
    rw (← c.self.view_is, ← kept) (search rules)

pub returns-clause-admitted : goal.returns-clause-admitted
returns-clause-admitted g c =
    let kept = filter_same _ (λ time. nat_lt (c.args.now - time) c.self.inside.span) _
    (λ x b f' k. search rules) _ _ c.retain.ensures.filtered in
    rw (← c.self.view_is, ← kept) (search rules)

pub returns-clause-refused : goal.returns-clause-refused
returns-clause-refused g c =
    let kept = filter_same _ (λ time. nat_lt (c.args.now - time) c.self.inside.span) _
    (λ x b f' k. search rules) _ _ c.retain.ensures.filtered in
    rw (← c.self.view_is, ← kept) (search rules)
