use Rattle.std.proofs.{
  Common.{◌≤◌, [], ◌∷◌, ap, arith, length},
  lemmas.{Grind.common_steps, List.{length-take, take-append-le}},
}
use Rattle.arraydeque.{
  proofs.Scanned.{HandsOut-append, HasRest-ended, TakesOff-from_out},
  specs.Lookahead.left_of,
}
use Rattle.arraydeque.proofs.lookahead.Scanner.read_ahead.Goals as goal

pub loop-self-preserved : goal.loop-self-preserved
unfolding left_of
loop-self-preserved g c =
    let was = c.loop-self.invariant in
    let old = c.args.self.now.buffer in
    let buffer = c.loop-self.self.buffer in
    let read = rw (← c.self-in-loop-self.view_is) at c.in-Some.ensures.reads in
    let longer : length old ≤ length buffer = omega (arith, ap length was.keeps, length-take (length old) buffer) in
    record {
      hands_out = HandsOut-append g.I.Iterator.next_gives c.args.self.now c.loop-self.self
          (record { iter = _; buffer = _; ended = _; left = c.read.new.self.left }) [] [] was.hands_out
          (c.in-Some.item ∷ [], read, grind (arith, common_steps));
      keeps = grind (arith, common_steps, take-append-le (length old) buffer (c.in-Some.item ∷ []) longer);
      within = grind (arith, common_steps);
      unchanged = λ there. absurd (grind (arith, common_steps));
      ended = grind (arith, common_steps);
      left = grind (arith, common_steps);
      lowers = grind (arith, common_steps);
    }

pub returns-in_default-clause-reads_on : goal.returns-in_default-clause-reads_on
unfolding left_of
returns-in_default-clause-reads_on g c =
    let was = c.loop-self.invariant in
    let whole = HandsOut-append g.I.Iterator.next_gives c.args.self.now c.loop-self.self c.read.new.self [] []
    was.hands_out ([], c.in_default.ensures.reads, grind (arith, common_steps)) in
    record {
      hands_out = whole;
      rest = TakesOff-from_out g.I.Iterator.next_gives _ _ [] whole;
      keeps = grind (arith, was.keeps);
      within = grind (arith, common_steps);
      unchanged = λ there. absurd (grind (arith, common_steps));
      left = grind (arith, common_steps);
      lowers = grind (arith, common_steps);
      counts = c.in_default.ensures.counts;
    }

pub returns-clause-reads_on : goal.returns-clause-reads_on
unfolding left_of
returns-clause-reads_on g c =
    let was = c.loop-self.invariant in
    record {
      hands_out = was.hands_out;
      rest = TakesOff-from_out g.I.Iterator.next_gives _ _ [] was.hands_out;
      keeps = was.keeps;
      within = was.within;
      unchanged = was.unchanged;
      left = was.left;
      lowers = was.lowers;
      counts = grind (arith, common_steps);
    }

pub returns-in_default-clause-over : goal.returns-in_default-clause-over
returns-in_default-clause-over g c fewer = HasRest-ended g.I.Iterator.next_gives _ (grind arith)
