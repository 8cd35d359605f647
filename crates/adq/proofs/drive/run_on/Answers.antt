use Rattle.std.proofs.Common.{ap, rules, [], Err}
use Rattle.adq.specs.declared.fault.Fault.TheVariants.{Memory}
use Rattle.adq.proofs.Ended.{ended, read_whole}
use Rattle.adq.proofs.drive.run_on.Goals as goal

-- where memory is refused or a stream failed, any text will do
pub returns-in_err-deque : goal.returns-in_err-deque
returns-in_err-deque g c = ([], Err Memory, search rules, search rules, search rules)

pub returns-in_err-read : goal.returns-in_err-read
returns-in_err-read g c = ([], Err c.in_err-read.field-0.0, search rules, search rules, search rules)

pub returns-in_err-calls : goal.returns-in_err-calls
returns-in_err-calls g c = let whole = rw c.new-text.ensures.items at c.in_ok-read.ensures.bytes in
    let end = Err c.in_err-calls.field-0.0 in
    (c.read.new.text.items, end, search rules, read_whole _ [] _ end whole, search rules)

pub returns-in_err-replies : goal.returns-in_err-replies
returns-in_err-replies g c = ([], Err Memory, search rules, search rules, search rules)

pub returns : goal.returns
returns g c = let whole = rw c.new-text.ensures.items at c.in_ok-read.ensures.bytes in (
  c.read.new.text.items,
  c.print.result,
  ended _ _ c.as_slice.result.now c.read.new.text.items
      c.in_ok-calls.calls.items c.in_ok-replies.replies.items c.in_ok-deque.deque.items c.run.new.self.items
      c.print.result c.as_slice.ensures.value c.in_ok-calls.ensures.ok (ap (λ d. d.items) c.in_ok-deque.ensures.ok)
      c.in_ok-replies.ensures.ok c.print.ensures.ok c.print.ensures.refused,
  read_whole _ [] _ c.print.result whole,
  search rules,
)
