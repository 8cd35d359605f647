use Rattle.std.proofs.Common.{slice_get, ap, ◌∙◌}
use Rattle.uses.proofs.Rising.{first-largest}
use Rattle.uses.proofs.peaks.Peaks.largest.Goals as goal

pub returns : goal.returns
returns g c = λ samples was.
    c.copied.ensures ∙ c.front.ensures.value ∙ ap (λ l. slice_get l 0) (c.self.view_is ∙ was) ∙ first-largest samples
