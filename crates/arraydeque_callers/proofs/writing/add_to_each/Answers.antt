use Rattle.std.proofs.Common.{rules, arith, ℕ, ◌+◌, ◌^◌, ◌<◌}
use Rattle.arraydeque.proofs.WrittenEach.{may_write}
use Rattle.arraydeque_callers.proofs.writing.add_to_each.Goals as goal

pub for_each_mut-requires : goal.for_each_mut-requires
for_each_mut-requires g c =
    let fits = λ (item : ℕ). item + c.args.by < 2 ^ 64 in
    (omega arith, may_write _ _ (λ x h y called. search rules) _ fits c.requires (λ x small. small))
