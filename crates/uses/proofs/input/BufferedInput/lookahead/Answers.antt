use Rattle.std.proofs.{
  Common.{[], ◌∷◌, ◌++◌, sym, append_assoc, unwrap_or, arith},
  lemmas.Grind.common_steps,
}
use Rattle.uses.proofs.Padded.{ReadsRaw-push, padded}
use Rattle.uses.proofs.input.BufferedInput.lookahead.Goals as goal

pub loop-self-preserved : goal.loop-self-preserved
loop-self-preserved g c =
    let was = c.loop-self.invariant.reads in
    record {
      len = grind (arith, common_steps);
      reads = (
        was.0 ++ unwrap_or c.next.result 0 ∷ [],
        ReadsRaw-push g.I.Iterator.next_gives c.args.self.now.input was.0 c.loop-self.self-inside.input c.next.result
            c.next.new.self was.1 c.next.ensures.steps,
        grind (arith, common_steps, was.2, append_assoc),
      );
    }

pub returns-clause-padded : goal.returns-clause-padded
returns-clause-padded g c fused =
    let was = c.loop-self.invariant.reads in
    let reads = padded g.I.Iterator.next_gives fused c.args.self.now.input was.0 c.loop-self.self-inside.input was.1 in
    (was.0, reads, sym was.2)
