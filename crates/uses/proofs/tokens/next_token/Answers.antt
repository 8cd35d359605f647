use Rattle.std.proofs.{
  Common.{◌≡◌, ◌≢◌, [], ◌∷◌, ◌++◌, rules, arith},
  lemmas.{Grind.common_steps, List.Elements.All-push},
}
use Rattle.arraydeque.proofs.Scanned.{TakesOff-append}
use Rattle.uses.specs.{declared.tokens.Kind.TheVariants.Sign, Tokens.kind_of}
use Rattle.uses.proofs.tokens.next_token.Goals as goal

pub loop-scanner-preserved : goal.loop-scanner-preserved
loop-scanner-preserved g c =
    let was = c.loop-scanner.invariant in
    let on = c.in-Some-next_if.ensures.goes.on was.ends in
    let byte = c.in-Some-next_if.byte in
    let text = c.loop-scanner.text.items in
    let accepted = c.in-Some-next_if.ensures.accepted in
    let same : kind_of byte ≡ c.kind_of-kind.result = search rules in
    let no_sign : c.kind_of-kind.result ≢ Sign = search rules in
    let pushed : c.push_reserved-in-loop-scanner.new.self.items ≡ text ++ byte ∷ [] = cc in
    record {
      taken = rw pushed (TakesOff-append g.I.Iterator.next_gives c.args.scanner.now c.loop-scanner.scanner
          c.next_if.new.self text (byte ∷ []) was.taken c.in-Some-next_if.ensures.rest);
      some = grind (arith, common_steps);
      one_kind = rw pushed (All-push (λ byte. kind_of byte ≡ c.kind_of-kind.result) text byte was.one_kind same);
      signs = λ sign. absurd (no_sign sign);
      ends = on.1;
      goes = omega (arith, on.2, was.goes);
    }
