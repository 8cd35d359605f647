-- What answers, lists and faults print.
use Rattle.std.specs.{
  Fmt.signed_decimal,
  List.join_by,
  Option.option_map_or,
  Prelude.{ℕ, ℤ, List, [], ◌∷◌, ◌++◌, codes, decimal, if◌then◌else◌},
}
use Rattle.arraydeque.specs.Machine.{Answer}
use Rattle.adq.specs.declared.fault.Fault.{Fault}

-- the text of a list
abbrev pub list_text : List ℤ → List ℕ
list_text items = codes "[" ++ join_by signed_decimal (codes ", ") items ++ codes "]"

-- the text of an answer
abbrev pub text_of : Answer ℤ → List ℕ
text_of Answer.done = codes "ok"
text_of (Answer.item o) = option_map_or signed_decimal o (codes "none")
text_of (Answer.displaced o) = option_map_or signed_decimal o (codes "none")
text_of (Answer.number n) = decimal n
text_of (Answer.truth b) = if b then codes "true" else codes "false"
text_of (Answer.drained items) = list_text items
text_of (Answer.split items) = list_text items
text_of (Answer.full x) = codes "full " ++ signed_decimal x
text_of (Answer.out_of_range o) = codes "range"
text_of Answer.no_memory = codes "memory"
text_of (Answer.not_offered x) = codes "unoffered"

-- the text of a fault
abbrev pub fault_text : Fault → List ℕ
fault_text Fault.Arguments = codes "bad arguments"
fault_text (Fault.Line number) = codes "bad line " ++ decimal number
fault_text Fault.Memory = codes "out of memory"
fault_text Fault.Io = codes "input or output failed"

-- the line that reports a fault
abbrev pub report_of : Fault → List ℕ
report_of fault = codes "adq: " ++ fault_text fault ++ 10 ∷ []
