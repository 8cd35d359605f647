use Rattle.std.proofs.Common.{arith}
use Rattle.arraydeque.proofs.{
  Pushed.{WrapsBack-no_places, WrapsBack-room, WrapsBack-both},
  Taken.{TakesAll-ends, TakesAll-fills, TakesAll-both},
}
use Rattle.arraydeque.proofs.deque.extend.ArrayDeque+T+CAP+Wrapping.extend_back.Goals as goal

pub returns-then-capacity-eq0 : goal.returns-then-capacity-eq0
returns-then-capacity-eq0 g c = record {
  taken =
      TakesAll-ends _ c.into_iter-elements.ensures.into_iter_gives _ c.drop_all.ensures.drains
      (WrapsBack-no_places g.row.CAP c.args.self.now _ (omega arith) c.capacity.ensures.within);
}

pub returns-then-ended : goal.returns-then-ended
returns-then-ended g c =
    let came = c.fill_back-ended.ensures.came in
    record {
      taken = TakesAll-fills _ c.into_iter-elements.ensures.into_iter_gives came c.if-ended.true
          (WrapsBack-room g.row.CAP (omega arith) c.args.self.now _ _ came.holds c.fill_back-ended.ensures.within);
    }

pub returns : goal.returns
returns g c =
    let came = c.fill_back-ended.ensures.came in
    let begun = c.into_iter-elements.ensures.into_iter_gives in
    record {
      taken = TakesAll-both _ begun came c.if-ended.false c.displace_first.ensures
          (WrapsBack-both g.row.CAP (omega arith) c.args.self.now _ _ came.holds c.self.inside.ring _ _ c.self.view_is
          c.self.invariant.0 (c.fill_back-ended.ensures.full c.if-ended.false) c.displace_first.ensures.holds);
    }
