use Rattle.std.proofs.{Common.{[], ◌∷◌, add-zero, refl, arith}, lemmas.List.length-drop}
use Rattle.arraydeque.{
  proofs.Scanned.{first_taken, none_taken, Advances-nothing, Advances-append, HasRest-ended},
  specs.Lookahead.{Advances, left_of},
}
use Rattle.arraydeque.proofs.lookahead.Scanner.advance.Goals as goal

pub loop-gone-init : goal.loop-gone-init
unfolding left_of
loop-gone-init g c = grind (arith, Advances-nothing)

pub loop-gone-preserved : goal.loop-gone-preserved
loop-gone-preserved g c =
    let was = c.loop-gone.invariant in
    let next = c.in-Some.ensures in
    let buffer = c.loop-gone.self.buffer in
    let one : Advances g.I.Iterator.next_gives g.I.Iterator.remaining c.loop-gone.self 1 c.next.new.self =
    record {
      items = c.in-Some.field-0 ∷ [];
      as_many = refl;
      hands_out = next.hands_out;
      rest = next.rest;
      buffer = next.buffer;
      buffered = λ there. first_taken buffer c.in-Some.field-0 (next.buffered there).0;
      left = λ ends. let on = next.goes.on ends in (on.1, omega (arith, on.2));
      lowers = λ ends. let low = next.lowers ends in (low.0, omega (arith, low.1));
      counts = next.counts;
    } in
    let left = length-drop c.loop-gone.gone c.args.self.now.buffer in
    grind (arith, Advances-append)

pub returns-in_default-clause-advances : goal.returns-in_default-clause-advances
returns-in_default-clause-advances g c =
    let was = c.loop-gone.invariant in
    let next = c.in_default.ensures in
    let empty = none_taken c.loop-gone.self.buffer (λ some. (next.buffered some).0) in
    let none : Advances g.I.Iterator.next_gives g.I.Iterator.remaining c.loop-gone.self 0 c.next.new.self =
    record {
      items = [];
      as_many = refl;
      hands_out = next.hands_out;
      rest = next.rest;
      buffer = grind (arith, next.buffer, empty);
      buffered = λ there. refl;
      left = λ ends. let up = next.left ends in (up.0, omega (arith, up.1));
      lowers = λ ends. let low = next.lowers ends in (low.0, omega (arith, low.1));
      counts = next.counts;
    } in
    grind (arith, add-zero, Advances-append)

pub returns-in_default-clause-over : goal.returns-in_default-clause-over
returns-in_default-clause-over g c fewer =
    let next = c.in_default.ensures in
    let empty = none_taken c.loop-gone.self.buffer (λ some. (next.buffered some).0) in
    grind (arith, HasRest-ended)
