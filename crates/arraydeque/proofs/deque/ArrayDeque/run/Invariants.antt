use Rattle.std.{
  proofs.Common.{◌≡◌, ◌+◌, ◌≤◌, length, vec_len},
  specs.{Mem.type_size, Vec.{vec_capacity, Iter.into_iter_len}},
}
use Rattle.arraydeque.specs.Run.{DequeRun}
use Rattle.arraydeque.proofs.deque.ArrayDeque.run.Given as goal

abbrev pub invariant-loop-call : goal.invariant-loop-call
invariant-loop-call g l = record {
  exact : vec_capacity l.replies ≡ length l.fn.calls.items;
  room : vec_len l.replies + into_iter_len l.call-iterator ≤ vec_capacity l.replies;
  whole : DequeRun g.B.MachinePolicy.policy (type_size g.row.T) l.fn.self l.yielded l.replies.items l.self;
}
