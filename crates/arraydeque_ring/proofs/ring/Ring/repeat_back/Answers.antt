use Rattle.std.proofs.{
  Common.{◌≡◌, ◌+◌, ◌++◌, replicate, length, arith},
  lemmas.List.{length-replicate, take-replicate, drop-replicate},
}
use Rattle.arraydeque_ring.{
  proofs.{
    Opened.{bounds, rest_empty, round_laid, Shows},
    ring.Ring.repeat_back.{Given.Over, Goals.{After-put_same-slots, After-put_same}},
  },
  specs.Ring.place_of,
}
use Rattle.arraydeque_ring.proofs.ring.Ring.repeat_back.Goals as goal

here : (g : Over) (c : After-put_same-slots g)
    → c.wrap_add-behind.result ≡ place_of c.self.inside.start c.self.inside.len (length c.self.inside.slots.places)
here g c = rw c.capacity-capacity.ensures at c.wrap_add-behind.ensures

pub put_same-requires : goal.put_same-requires
put_same-requires g c =
    let known = bounds c.self.inside _ c.self.invariant c.self.view_is in
    let many = length-replicate c.args.count c.args.value in
    let at = here g c in
    grind (
      arith,
      take-replicate c.min-first.result c.args.count c.args.value (omega arith),
      many,
      rest_empty c.self.inside c.self.invariant (replicate c.args.count c.args.value) c.min-first.result
          (omega (arith, known, at)) (omega (arith, many)) (omega (arith, known, at)) (omega (arith, known, many))
          (λ more. omega (arith, known, many, at, more)),
    )

after : (g : Over) (c : After-put_same g) → let old = c.args.self.now in
    let xs = replicate c.args.count c.args.value in
    Shows old.capacity c.self.inside.start (c.self.inside.len + c.args.count) (old.items ++ xs) c.put_same.result.places
after g c =
    let known = bounds c.self.inside _ c.self.invariant c.self.view_is in
    let many = length-replicate c.args.count c.args.value in
    let at = here g c.before in
    grind (
      arith,
      known,
      many,
      take-replicate c.min-first.result c.args.count c.args.value (omega arith),
      drop-replicate c.min-first.result c.args.count c.args.value,
      round_laid c.self.inside c.self.invariant (replicate c.args.count c.args.value) c.min-first.result
          (omega (arith, known, at)) (omega (arith, many)) (omega (arith, known, at)) (omega (arith, known, many))
          (λ more. omega (arith, known, many, at, more)) c.put_same.result.places,
    )

pub invariant_of-self : goal.invariant_of-self
invariant_of-self g c = let now = after g (goal.at.invariant_of-self g c).After-put_same in (now.1, now.2)

pub returns : goal.returns
returns g c = grind (arith, bounds, after g (goal.at.returns g c).After-put_same)
