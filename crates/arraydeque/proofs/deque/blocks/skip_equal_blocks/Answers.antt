use Rattle.std.proofs.Common.{arith}
use Rattle.arraydeque.proofs.Sections.{behind-nothing, behind-pairs, split-whole}
use Rattle.arraydeque.proofs.deque.blocks.skip_equal_blocks.Goals as goal

pub returns-then-pairs-lt-BLOCK_PAIRS : goal.returns-then-pairs-lt-BLOCK_PAIRS
returns-then-pairs-lt-BLOCK_PAIRS g c = behind-nothing c.args.left.now c.args.right.now

pub returns-then-bytes-least_bytes : goal.returns-then-bytes-least_bytes
returns-then-bytes-least_bytes g c = behind-nothing c.args.left.now c.args.right.now

pub loop-pairs-init : goal.loop-pairs-init
loop-pairs-init g c = record {
  behind = behind-nothing c.args.left.now c.args.right.now;
  left = omega (arith, c.min-pairs.ensures);
  right = omega (arith, c.min-pairs.ensures);
}

pub loop-pairs-preserved : goal.loop-pairs-preserved
loop-pairs-preserved g c =
    let left = split-whole 32 c.split_at.ensures.front c.split_at.ensures.back in
    let right = split-whole 32 c.split_at-in-loop-pairs.ensures.front c.split_at-in-loop-pairs.ensures.back in
    record {
      behind = behind-pairs c.loop-pairs.invariant.behind _ _ left right c.if-not-are_all_equal.ensures;
      left = omega (arith, c.loop-pairs.invariant.left, c.split_at.ensures.back_len);
      right = omega (arith, c.loop-pairs.invariant.right, c.split_at-in-loop-pairs.ensures.back_len);
    }
