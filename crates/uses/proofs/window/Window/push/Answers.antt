use Rattle.std.proofs.Common.{◌<◌, ◌^◌, option_to_list, arith}
use Rattle.arraydeque.proofs.KeepLast.{All-kept}
use Rattle.uses.proofs.Totals.{sum-kept, sum-option, sum-fits}
use Rattle.uses.proofs.window.Window.push.Goals as goal

pub overflow_add-self : goal.overflow_add-self
overflow_add-self g c =
    let was = c.self.invariant in
    let small : c.args.sample < 2 ^ 32 = omega arith in
    let fits = sum-fits g.row.CAP c.self.inside.recent.items c.args.sample was.within was.few was.small small in
    omega (arith, fits, was.summed)

pub invariant_of-self : goal.invariant_of-self
invariant_of-self g c =
    let was = c.self.invariant in
    let small : c.args.sample < 2 ^ 32 = omega arith in
    let same = c.push_back.ensures.conserved in
    let summed = sum-kept
    (option_to_list c.push_back.result) c.push_back.new.self.items c.self.inside.recent.items c.args.sample same in
    let left = sum-option c.push_back.result in
    record {
      summed = omega (arith, summed, left, was.summed, c.unwrap_or-left.ensures);
      within = c.push_back.ensures.within;
      few = was.few;
      small = All-kept (λ y. y < 2 ^ 32) g.row.CAP _ _ _ c.push_back.ensures.items was.small small;
    }
