use Rattle.std.proofs.{
  Common.{◌≡◌, [], ◌∷◌, ◌++◌},
  lemmas.{Grind.flat_map-append, List.Elements.All-push},
}
use Rattle.arraydeque.proofs.Scanned.{TakesOff-append}
use Rattle.uses.{
  proofs.{Cut.AreCut-push, tokens.tokenize.Goals.{in-Some, in_default}},
  specs.Tokens.{joined, IsOfOneKind, IsOneByteIfSign},
}
use Rattle.uses.proofs.tokens.tokenize.Goals as goal

pub loop-alloc-preserved : goal.loop-alloc-preserved
loop-alloc-preserved g c =
    let was = c.loop-alloc.invariant in
    let tokens = c.loop-alloc.tokens.items in
    let token = c.in-Ok-Some.token in
    let next = rw c.in-Ok-Some.field-0-is at c.in-Ok-Some.ensures in
    let pushed : c.push_reserved.new.self.items ≡ tokens ++ token ∷ [] = cc in
    record {
      taken = rw (pushed, flat_map-append) (TakesOff-append g.I.Iterator.next_gives c.args.scanner.now
          c.loop-alloc.scanner c.next_token.new.scanner (joined tokens) (joined (token ∷ [])) was.taken next.taken);
      one_kind = rw pushed (All-push IsOfOneKind tokens token was.one_kind next.one_kind);
      signs = rw pushed (All-push IsOneByteIfSign tokens token was.signs next.signs);
      longest = λ rest has. rw pushed (AreCut-push tokens token rest
          (was.longest (joined (token ∷ []) ++ rest) (next.taken rest has)) next.one_kind (next.longest rest has));
      ends = (next.goes.on was.ends).1;
    }

pub returns-in-Err-clause-source_kind : goal.returns-in-Err-clause-source_kind
returns-in-Err-clause-source_kind g c = let was = c.loop-alloc.invariant.one_kind in elim c.match-refusal.branch [
  | in-Some w ↦
      let pushed : c.match-refusal.tokens.items ≡ c.loop-alloc.tokens.items ++ w.in-Some.token ∷ [] = cc in
      rw pushed (All-push IsOfOneKind c.loop-alloc.tokens.items w.in-Some.token was (rw w.in-Some.is at
      c.in-Err.ensures.source_kind))
  | in_default w ↦ let same : c.match-refusal.tokens.items ≡ c.loop-alloc.tokens.items = cc in rw same was
]
