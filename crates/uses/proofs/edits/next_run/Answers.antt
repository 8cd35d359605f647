use Rattle.std.proofs.{
  Common.{◌≡◌, ◌≢◌, ◌≤◌, [], ◌∷◌, length, take, drop, append-nil, ap, subst, ◌∙◌, arith},
  lemmas.List.{length-take, length-drop, take-take},
}
use Rattle.arraydeque.{
  proofs.Scanned.{TakesOff-append, NextIs-buffer},
  specs.Lookahead.{TakesOff},
}
use Rattle.uses.{
  proofs.Runs.{take-min, first-taken, none-first},
  specs.Edits.{written_out},
}
use Rattle.uses.proofs.edits.next_run.Goals as goal

pub returns-clause-taken : goal.returns-clause-taken
returns-clause-taken g c =
    let there = c.read_ahead-there.result in
    let buffer = c.read_ahead-there.new.self.buffer in
    let count = c.count_equal-count.result in
    let went = c.advance.ensures.advances in
    let long = ap length c.ahead-2.ensures in
    let within : count ≤ there = omega (arith, long, length-take there buffer) in
    let many : count ≤ length buffer = omega (arith, long, length-take there buffer) in
    let all = (c.advance.ensures.buffered many).0 in
    let items : went.items ≡ written_out (record { edit = c.in_ok-edit.field-0.now; count = count } ∷ []) =
    grind (
      arith,
      append-nil,
      all,
      went.buffered (omega arith),
      take-take count there buffer within,
      c.ahead-2.ensures,
      c.count_equal-count.ensures.equal,
    ) in
    subst (λ l. TakesOff g.I.Iterator.next_gives c.args.edits.now l c.advance.new.self) items
    (TakesOff-append g.I.Iterator.next_gives c.args.edits.now c.read_ahead-there.new.self c.advance.new.self []
    went.items c.read_ahead-there.ensures.reads_on.rest went.rest)

pub returns-clause-longest : goal.returns-clause-longest
returns-clause-longest g c fewer =
    let read = c.read_ahead-there.ensures in
    let buffer = c.read_ahead-there.new.self.buffer in
    let count = c.count_equal-count.result in
    let ahead = g.row.AHEAD in
    let long = ap length c.ahead-2.ensures in
    let many : count ≤ length buffer = omega (arith, long, length-take c.read_ahead-there.result buffer) in
    let all = (c.advance.ensures.buffered many).0 in
    let left : c.advance.new.self.buffer ≡ drop count buffer =
    c.advance.ensures.advances.buffer ∙ ap (λ n. drop n buffer) all in
    let seen : c.ahead-2.result ≡ take ahead buffer =
    c.ahead-2.ensures ∙ ap (λ n. take n buffer) read.count ∙ take-min ahead buffer in
    NextIs-buffer g.I.Iterator.next_gives (λ edit. edit ≢ c.in_ok-edit.field-0.now) c.advance.new.self
    (rw (left, ← first-taken count ahead buffer fewer, ← seen) c.count_equal-count.ensures.other)
    (rw left (none-first (drop count buffer) _ (λ none. c.advance.ensures.all all
    ∙ read.fewer (omega (arith, none, length-drop count buffer, read.count)))))
