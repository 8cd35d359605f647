use Rattle.std.proofs.Common.{◌∙◌, sym, subst, inr, refl, IsUtf8, [], Some, None}
use Rattle.adq.proofs.LinesRead.{read}
use Rattle.adq.proofs.line.call_of.Goals as goal

pub returns-in_default : goal.returns-in_default
returns-in_default c =
    inr (refl, λ o h. c.in_default.ensures.cases.0 (subst IsUtf8 (sym c.strip_return.ensures) h.0))

pub returns-in_default-word : goal.returns-in_default-word
returns-in_default-word c = let t = c.in-Ok.ensures.cases in
    read _ _ [] None (t.0 ∙ c.strip_return.ensures)
    (subst IsUtf8 c.strip_return.ensures t.1) c.in_default-word.ensures.words tt

pub returns : goal.returns
returns c = let t = c.in-Ok.ensures.cases in
    read _ _ _ (Some c.in_ok-call.field-0) (t.0 ∙ c.strip_return.ensures)
    (subst IsUtf8 c.strip_return.ensures t.1) c.in-Some.ensures.words c.in_ok-call.ensures
