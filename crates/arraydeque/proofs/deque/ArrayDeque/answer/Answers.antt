use Rattle.std.proofs.Common.{inl, inr}
use Rattle.arraydeque.proofs.deque.ArrayDeque.answer.Goals as goal

pub returns-in-Swap : goal.returns-in-Swap
returns-in-Swap g c = record { makes = rw c.in-Swap.is (c.answer_swap.ensures.makes _) }

pub returns-in-Replace : goal.returns-in-Replace
returns-in-Replace g c = record { makes = rw c.in-Replace.is (c.answer_replace.ensures.makes _) }

pub returns-in-Drain : goal.returns-in-Drain
returns-in-Drain g c = record { makes = rw c.in-Drain.is (c.answer_drain.ensures.makes _) }

pub returns-in-SplitOff : goal.returns-in-SplitOff
returns-in-SplitOff g c = record { makes = rw c.in-SplitOff.is (c.answer_split_off.ensures.makes _) }

pub returns-in-ExtendBack : goal.returns-in-ExtendBack
returns-in-ExtendBack g c =
    let made = c.answer_extend_back.ensures in
    record { makes = elim c.in-ExtendBack.is [ inl back ↦ rw back made.makes | inr std ↦ rw std made.makes_extend ] }
