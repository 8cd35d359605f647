use Rattle.std.proofs.Common.{arith}
use Rattle.uses.proofs.Displaced.{displaced_there, room_between, in_window}
use Rattle.uses.proofs.median.Median.push.Goals as goal

pub invariant_of-self : goal.invariant_of-self
invariant_of-self g c =
    let was = c.self.invariant in
    let pushed = c.push_back-oldest in
    record {
      some = was.some;
      order = record {
        same = in_window c.self.inside.recent.items pushed.new.self.items c.self.inside.ordered.items c.args.sample
            pushed.result pushed.ensures.conserved was.order.same c.take_out_given.new.ordered.items
            c.take_out_given.ensures.none_lost c.put_in.new.ordered.items c.put_in.ensures.none_lost;
        rises = c.put_in.ensures.rises;
      };
    }

pub take_out_given-requires : goal.take_out_given-requires
take_out_given-requires g c =
    let was = c.self.invariant in
    let there = displaced_there g.row.CAP c.self.inside.recent.items c.self.inside.ordered.items
    c.push_back-oldest.result was.some was.order.same c.push_back-oldest.ensures.displaced in
    (omega arith, (was.order.rises, there))

pub put_in-requires : goal.put_in-requires
put_in-requires g c =
    let pushed = c.push_back-oldest in
    let less = room_between c.self.inside.recent.items pushed.new.self.items c.self.inside.ordered.items c.args.sample
    pushed.result pushed.ensures.conserved c.self.invariant.order.same c.take_out_given.new.ordered.items
    c.take_out_given.ensures.none_lost in
    (omega arith, (c.take_out_given.ensures.rises, omega (arith, less, pushed.ensures.within)))
