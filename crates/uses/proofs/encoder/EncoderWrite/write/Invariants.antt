use Rattle.std.proofs.Common.{◌≡◌, ◌-◌, ◌≤◌, ◌++◌, length, take}
use Rattle.uses.specs.Encoder.{text_of, left_of}
use Rattle.uses.proofs.encoder.EncoderWrite.write.Given as goal

abbrev pub invariant-loop-taken : goal.invariant-loop-taken
invariant-loop-taken g l = record {
  text : l.self.text ≡ l.fn.self.text ++ text_of (l.fn.self.group ++ take l.taken l.buf);
  group : l.self.group ≡ left_of (l.fn.self.group ++ take l.taken l.buf);
  most : l.taken ≤ length l.buf;
}

abbrev pub decreases-loop-taken : goal.decreases-loop-taken
decreases-loop-taken g l = length l.buf - l.taken
