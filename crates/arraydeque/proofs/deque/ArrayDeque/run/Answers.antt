use Rattle.std.{
  proofs.{
    Common.{arith, subst, sym, ◌∙◌},
    lemmas.{
      Grind.common_steps,
      Iterator.{Adapters.YieldsList-from_vec, Consumers.YieldsList-end},
      List.map-id,
    },
  },
  specs.Mem.type_size,
}
use Rattle.arraydeque.{proofs.DequeRuns.{DequeRun-push, RunCosts-of}, specs.Run.DequeRun}
use Rattle.arraydeque.proofs.deque.ArrayDeque.run.Goals as goal

pub loop-call-preserved : goal.loop-call-preserved
loop-call-preserved g c = grind (arith, DequeRun-push)

pub returns : goal.returns
returns g c =
    let made = c.into_iter-call-iterator.ensures.into_iter_gives in
    let source = YieldsList-from_vec {s = c.into_iter-call-iterator.result} _ made.0 (made.1 ∙ c.args.calls.ok.0) in
    let all = YieldsList-end source c.loop-call.yielded c.loop-call.call-iterator c.loop-call.yielded_by c.next.result
    c.next.new.self c.in-None.is c.next.ensures.steps in
    let done = sym (map-id _) ∙ all.0 in
    let whole = subst (λ calls. DequeRun g.B.MachinePolicy.policy (type_size g.row.T) c.args.self.now calls
    c.loop-call.replies.items c.loop-call.self) done c.loop-call.invariant.whole in
    let costs = RunCosts-of g.B.MachinePolicy.policy _ _ _ _ _ whole in
    grind arith

pub returns-in-Err-clause-refused : goal.returns-in-Err-clause-refused
returns-in-Err-clause-refused g c = grind (arith, common_steps)
