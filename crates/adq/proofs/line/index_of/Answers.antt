use Rattle.std.proofs.{
  Common.{lit<, ◌∙◌, sym, subst},
  lemmas.{Bool.false≢true, Str.Pattern.starts_char},
}
use Rattle.adq.{proofs.Numbers.{Reads, index_read, plus_no_index}, specs.Line.index}
use Rattle.adq.proofs.line.index_of.Goals as goal

pub returns-then-starts_with : goal.returns-then-starts_with
returns-then-starts_with c =
    let plus = starts_char 43 _ _ c.starts_with.ensures.cases (lit< tt) (lit< tt) in
    plus_no_index c.args.word.now (plus.0 c.if-starts_with.true)

pub returns : goal.returns
returns c =
    let plus = starts_char 43 _ _ c.starts_with.ensures.cases (lit< tt) (lit< tt) in
    subst (Reads index c.args.word.now) (sym c.ok.ensures.value)
    (index_read c.args.word.now _ (λ e. false≢true (sym c.if-starts_with.false ∙ plus.1 e)) c.parse.ensures.value.0)
