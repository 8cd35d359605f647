use Rattle.std.{
  below.core.proofs.fmt.Cut.AppendsIfIntact-from_calls,
  proofs.Common.{◌∙◌, ◌++◌, ap, subst},
}
use Rattle.adq.specs.{Run.Writes, Text.report_of}
use Rattle.adq.proofs.fault.Fault.tell.Goals as goal

pub returns-in-Ok : goal.returns-in-Ok
returns-in-Ok g c =
    let report = report_of c.args.self.now in
    let all = (AppendsIfIntact-from_calls _ report _ c.in-Ok.ensures.writes c.new-line.ensures.intact).1 in
    let line = c.as_bytes.ensures.value ∙ c.as_str.ensures.value ∙ all
    ∙ ap (λ l. l ++ report) c.new-line.ensures.text in
    subst (λ text. Writes (g.F.Write.contents c.args.faults.now) (g.F.Write.contents c.write.new.output) text
    c.write.result) line c.write.ensures
