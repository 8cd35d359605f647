use Rattle.std.proofs.Common.{◌≤◌, ◌^◌, slice_index_or, w16, w64, pos, FitsSigned, arith, rules}
use Rattle.std.proofs.lemmas.Int.{ints}
use Rattle.uses.proofs.{Dot.{dot-step, dot-end}, Signed.{abs-product, widened-product}}
use Rattle.uses.proofs.filter.Filter.output.Goals as goal

pub overflow_add-output : goal.overflow_add-output
overflow_add-output g c =
    let few : g.row.TAPS ≤ 2 ^ 32 = search rules in
    let a : FitsSigned w16 (slice_index_or c.args.self.now.coefficients c.loop-age.age (pos 0)) = search rules in
    let b : FitsSigned w16 c.index.result.now = search rules in
    let product = widened-product w16 w64 _ _ a b (omega arith) (omega arith) in
    omega (arith, ints, few, product, abs-product w16 _ _ a b, c.loop-age.invariant.small)

pub loop-age-preserved : goal.loop-age-preserved
loop-age-preserved g c =
    let few : g.row.TAPS ≤ 2 ^ 32 = search rules in
    let at = c.loop-age in
    let filter = c.args.self.now in
    let a : FitsSigned w16 (slice_index_or filter.coefficients at.age (pos 0)) = search rules in
    let b : FitsSigned w16 c.index.result.now = search rules in
    let product = widened-product w16 w64 _ _ a b (omega arith) (omega arith) in
    let most = abs-product w16 _ _ a b in
    let step = dot-step filter.coefficients filter.recent.items at.age _ (omega arith) c.index.ensures in
    record {
      summed = omega (arith, ints, few, product, most, step, at.invariant.small, at.invariant.summed);
      small = omega (arith, ints, few, product, most, at.invariant.small);
    }

pub returns : goal.returns
returns g c =
    let filter = c.args.self.now in
    let end = dot-end filter.coefficients filter.recent.items c.loop-age.age (omega arith) in
    omega (arith, ints, end, c.loop-age.invariant.summed)
