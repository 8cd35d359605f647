use Rattle.std.proofs.Common.{arith}
use Rattle.arraydeque.proofs.{
  Pushed.{WrapsFront-no_places, WrapsFront-room, WrapsFront-both},
  Taken.{TakesAll-ends, TakesAll-fills, TakesAll-both},
}
use Rattle.arraydeque.proofs.deque.extend.ArrayDeque+T+CAP+Wrapping.extend_front.Goals as goal

pub returns-then-capacity-eq0 : goal.returns-then-capacity-eq0
returns-then-capacity-eq0 g c = record {
  taken =
      TakesAll-ends _ c.into_iter-elements.ensures.into_iter_gives _ c.drop_all.ensures.drains
      (WrapsFront-no_places g.row.CAP c.args.self.now _ (omega arith) c.capacity.ensures.within);
}

pub returns-then-ended : goal.returns-then-ended
returns-then-ended g c =
    let came = c.fill_front-ended.ensures.came in
    record {
      taken = TakesAll-fills _ c.into_iter-elements.ensures.into_iter_gives came c.if-ended.true
          (WrapsFront-room g.row.CAP (omega arith) c.args.self.now _ _ came.holds c.fill_front-ended.ensures.within);
    }

pub returns : goal.returns
returns g c =
    let came = c.fill_front-ended.ensures.came in
    let begun = c.into_iter-elements.ensures.into_iter_gives in
    record {
      taken = TakesAll-both _ begun came c.if-ended.false c.displace_last.ensures
          (WrapsFront-both g.row.CAP (omega arith) c.args.self.now _ _ came.holds c.self.inside.ring _ _ c.self.view_is
          c.self.invariant.0 (c.fill_front-ended.ensures.full c.if-ended.false) c.displace_last.ensures.holds);
    }
