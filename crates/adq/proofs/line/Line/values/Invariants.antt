use Rattle.std.proofs.Common.{◌≡◌, length}
use Rattle.adq.{proofs.ValuesRead.Parted, specs.Line.words_of}
use Rattle.adq.proofs.line.Line.values.Given as goal

-- the words so far spell the values so far
abbrev pub invariant-loop-word : goal.invariant-loop-word
invariant-loop-word l = record {
  number : l.self.number ≡ l.fn.self.number;
  parted : Parted (words_of l.fn.self.rest.now) l.values.items (words_of l.self.rest.now);
}

abbrev pub decreases-loop-word : goal.decreases-loop-word
decreases-loop-word l = length (words_of l.self.rest.now)
