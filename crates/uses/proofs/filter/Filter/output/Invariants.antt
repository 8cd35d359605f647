use Rattle.std.{
  proofs.Common.{◌≡◌, ◌≤◌, ◌*◌, ◌^◌, ◌+ℤ◌, drop},
  specs.Int.RustNames.unsigned_abs,
}
use Rattle.uses.specs.Filter.{dot}
use Rattle.uses.proofs.filter.Filter.output.Given as goal

abbrev pub invariant-loop-age : goal.invariant-loop-age
invariant-loop-age g l = record {
  summed : l.output +ℤ dot (drop l.age l.self.coefficients) (drop l.age l.self.recent.items)
      ≡ dot l.self.coefficients l.self.recent.items;
  small : unsigned_abs l.output ≤ l.age * 2 ^ 30;
}
