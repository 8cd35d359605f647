use Rattle.std.{
  proofs.{
    Common.{replicate, true, refl},
    lemmas.{Fn.called_at, List.{length-replicate, replicate_more}, Option.slice_get_read},
  },
  specs.Fn.CalledAt,
}
use Rattle.arraydeque_ring.proofs.retained.First.{until_goes, answer_next}
use Rattle.arraydeque_ring.proofs.ring.retain.kept_count_of.Goals as goal

pub f-requires : goal.f-requires
f-requires g c =
    c.requires (replicate c.loop-index.index true) _ _ (rw length-replicate
    (slice_get_read _ _ _ _ refl c.loop-index-test.true c.index-items-index.is)) c.loop-index.invariant.in_turn

pub returns-then-not-f-clause-in_turn : goal.returns-then-not-f-clause-in_turn
returns-then-not-f-clause-in_turn g c =
    let lt = c.loop-index-test.true in
    rw (until_goes _ _ lt) (answer_next (CalledAt g.F.FnMut) _ _ _ c.loop-index.index _ _ _ lt c.index-items-index.is
    c.loop-index.invariant.in_turn (called_at g.F.FnMut c.f.ensures c.if-not-f.true))

pub loop-index-preserved : goal.loop-index-preserved
loop-index-preserved g c = record {
  in_turn = rw (← replicate_more _ true) (answer_next (CalledAt g.F.FnMut) _ _ _ c.loop-index.index _ _ _
      c.loop-index-test.true c.index-items-index.is c.loop-index.invariant.in_turn
      (called_at g.F.FnMut c.f.ensures c.if-not-f.false));
}
