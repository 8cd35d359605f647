use Rattle.std.proofs.{
  Common.{◌++◌, [], ◌∷◌, take, get_or, append_assoc, arith},
  lemmas.Grind.common_steps,
}
use Rattle.uses.proofs.Grouped.{text_of-append, left_of-append}
use Rattle.uses.proofs.encoder.EncoderWrite.write.Goals as goal

pub loop-taken-preserved : goal.loop-taken-preserved
loop-taken-preserved g c =
    let was = c.loop-taken.invariant in
    let bytes = c.args.self.now.group ++ take c.loop-taken.taken c.args.buf.now in
    let next = get_or c.args.buf.now c.loop-taken.taken 0 ∷ [] in
    record {
      text = grind (
        arith,
        common_steps,
        append_assoc,
        text_of-append bytes next,
        was.text,
        was.group,
        c.if-put.ensures.text,
      );
      group = grind (
        arith,
        common_steps,
        append_assoc,
        left_of-append bytes next,
        was.group,
        c.if-put.ensures.group,
      );
      most = omega arith;
    }
