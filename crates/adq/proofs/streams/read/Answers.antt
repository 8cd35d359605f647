use Rattle.std.{
  proofs.{
    Common.{◌≡◌, ◌∙◌, ◌++◌, [], ap, sym, append-nil, append_assoc, subst, take, Ok, rules},
    KnownBytes.{Consumes-nil, Consumes-trans, Consumes-kept, Consumes-all},
  },
  specs.Io.KnownBytes.{ReadConsumes, IsAtEnd},
}
use Rattle.adq.proofs.streams.read.Goals.{in-Ok+in_ok-extend_from_slice-in-Ok, in-Err}
use Rattle.adq.proofs.streams.read.Goals as goal

pub loop-init : goal.loop-init
loop-init g c = ([], sym (append-nil _), Consumes-nil _)

pub returns-in-Ok-eq0-clause-bytes : goal.returns-in-Ok-eq0-clause-bytes
returns-in-Ok-eq0-clause-bytes g c =
    let so_far = c.loop.invariant in
    let read = subst (λ r. ReadConsumes (g.R.Read.remaining c.loop.input) (g.R.Read.remaining c.read.new.self) r
    c.read.new.buf) (c.in-Ok-eq0.is ∙ ap Ok c.in-Ok-eq0.field-0-test) c.read.ensures.bytes in
    let end : IsAtEnd (g.R.Read.remaining c.read.new.self) = search rules in
    Consumes-all _ _ (so_far.0 ++ []) c.args.text.now.items c.loop.text.items
    (Consumes-trans _ _ _ so_far.0 [] so_far.2 read.0) end
    (so_far.1 ∙ ap (λ bs. c.args.text.now.items ++ bs) (sym (append-nil so_far.0)))

pub loop-preserved : goal.loop-preserved
loop-preserved g c =
    let so_far = c.loop.invariant in elim c.match-read.branch [
      | in-Ok+in_ok-extend_from_slice-in-Ok w ↦
          let count = w.in-Ok.count in
          let read = subst (λ r. ReadConsumes (g.R.Read.remaining c.loop.input)
          (g.R.Read.remaining c.read.new.self) r c.read.new.buf) w.in-Ok.is c.read.ensures.bytes in
          let text : c.match-read.text.items ≡ c.loop.text.items ++ take count c.read.new.buf =
          ap (λ v. v.items) w.text-is ∙ w.in_ok-extend_from_slice-in-Ok.ensures.items in (
            so_far.0 ++ take count c.read.new.buf,
            text ∙ ap (λ l. l ++ take count c.read.new.buf) so_far.1
                ∙ append_assoc c.args.text.now.items so_far.0 (take count c.read.new.buf),
            Consumes-trans _ _ _ _ _ so_far.2 read.0,
          )
      | in-Err w ↦
          let kept = subst (λ r. ReadConsumes (g.R.Read.remaining c.loop.input)
          (g.R.Read.remaining c.read.new.self) r c.read.new.buf) w.in-Err.is c.read.ensures.bytes in
          (so_far.0, ap (λ v. v.items) w.text-is ∙ so_far.1, Consumes-kept _ _ _ _ so_far.2 kept)
    ]
