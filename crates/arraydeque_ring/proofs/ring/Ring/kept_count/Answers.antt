use Rattle.std.proofs.Common.{◌≡◌, ◌-◌, length, arith}
use Rattle.arraydeque_ring.proofs.{
  Opened.slice_facts,
  retained.First.{asked_front, asked_back, until_in_front, until_in_back},
}
use Rattle.arraydeque_ring.proofs.ring.Ring.kept_count.Goals as goal

pub kept_count_of-kept-requires : goal.kept_count_of-kept-requires
kept_count_of-kept-requires g c = asked_front _ _ _ _ (rw (← c.as_slices.ensures.joined) at c.requires)

pub returns-then-kept-front-clause-in_turn : goal.returns-then-kept-front-clause-in_turn
returns-then-kept-front-clause-in_turn g c = grind (arith, until_in_front)

pub kept_count_of-requires : goal.kept_count_of-requires
kept_count_of-requires g c = grind (arith, asked_back)

pub returns-clause-in_turn : goal.returns-clause-in_turn
returns-clause-in_turn g c =
    let kept = c.kept_count_of-kept in
    let before : c.self.inside.len - length c.as_slices.result.1.now ≡ kept.result = grind (arith, slice_facts) in
    grind (arith, until_in_back)
