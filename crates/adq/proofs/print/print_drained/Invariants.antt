use Rattle.std.proofs.Common.{◌≡◌, ◌++◌, true, codes, string_bytes}
use Rattle.adq.proofs.ListText.{text_left}
use Rattle.adq.proofs.print.print_drained.Given as goal

-- what is printed, and the text of the items left, are the text of the list
abbrev pub invariant-loop-item : goal.invariant-loop-item
invariant-loop-item l = string_bytes l.text ++ text_left l.is_first l.item-iterator
    ≡ string_bytes l.fn.text ++ (codes "[" ++ text_left true l.fn.items)
