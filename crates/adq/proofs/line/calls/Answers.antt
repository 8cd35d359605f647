use Rattle.std.proofs.{
  Common.{eqb, rules, tests},
  lemmas.{
    Iterator.{
      Consumers.{YieldsList-turn, YieldsList-end, YieldsList-from_enumerate},
      Splits.YieldsList-from_slice_split,
    },
    Result.err_from_is_err_and,
  },
}
use Rattle.adq.proofs.LinesRead.{read_more, blamed, read_all}
use Rattle.adq.proofs.line.calls.Goals as goal

pub returns-in_err-call-clause-bad : goal.returns-in_err-call-clause-bad
returns-in_err-call-clause-bad c =
    let road = YieldsList-from_enumerate (YieldsList-from_slice_split _ (λ b. eqb b 10) c.args.text.now (cc) (cc) (cc)
    (λ x b q k. search (rules, tests))) (cc) in
    let turn = YieldsList-turn road c.loop-index.yielded _ c.loop-index.yielded_by _ _
    (c.in-Some.index, c.in-Some.line) c.in-Some.is c.next.ensures.steps in
    let h = blamed c.args.text.now _ c.loop-index.calls.items (c.in-Some.index, c.in-Some.line.now)
    c.in_err-call.field-0.0 turn c.loop-index.invariant c.in_err-call.ensures in
    let p = err_from_is_err_and c.from_residual.result c.from_residual.ensures.1 in rw (p.1, p.2) h

pub loop-index-preserved : goal.loop-index-preserved
loop-index-preserved c =
    let road = YieldsList-from_enumerate (YieldsList-from_slice_split _ (λ b. eqb b 10) c.args.text.now (cc) (cc) (cc)
    (λ x b q k. search (rules, tests))) (cc) in
    let turn = YieldsList-turn road c.loop-index.yielded _ c.loop-index.yielded_by _ _
    (c.in-Some.index, c.in-Some.line) c.in-Some.is c.next.ensures.steps in
    read_more c.args.text.now c.loop-index.yielded (c.in-Some.index, c.in-Some.line) c.loop-index.calls.items _
    (c.in-Some.index, c.in-Some.line.now) c.in_ok-call.call
    c.in_ok-append.ensures turn c.loop-index.invariant c.in_ok-call.ensures

pub returns-clause-ok : goal.returns-clause-ok
returns-clause-ok c =
    let road = YieldsList-from_enumerate (YieldsList-from_slice_split _ (λ b. eqb b 10) c.args.text.now (cc) (cc) (cc)
    (λ x b q k. search (rules, tests))) (cc) in
    let end =
    YieldsList-end road c.loop-index.yielded _ c.loop-index.yielded_by _ _ c.in-None.is c.next.ensures.steps in
    read_all c.args.text.now c.loop-index.yielded _ end.1 c.loop-index.invariant
