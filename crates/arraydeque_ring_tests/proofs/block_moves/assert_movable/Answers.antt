use Rattle.std.proofs.{Common.{inl, inr, ◌≡◌, arith, rules}, lemmas.Bool.cases_lt}
use Rattle.arraydeque_ring_tests.proofs.block_moves.assert_movable.Goals as goal

pub loop-k-preserved : goal.loop-k-preserved
loop-k-preserved g c = record {
  filled = λ j lt. elim (cases_lt j c.loop-k.k) [
    | inl a ↦ c.loop-k.invariant.filled j a
    | inr b ↦ let same : j ≡ c.loop-k.k = omega arith in rw same (c.is_filled-filled.ensures (search rules))
  ];
  free = λ j lt. elim (cases_lt j c.loop-k.k) [
    | inl a ↦ c.loop-k.invariant.free j a
    | inr b ↦ let same : j ≡ c.loop-k.k = omega arith in rw same (c.is_free-free.ensures (search rules))
  ];
}
