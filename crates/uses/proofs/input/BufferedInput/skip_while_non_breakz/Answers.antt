use Rattle.std.proofs.{
  Common.{◌≡◌, ◌≢◌, false, [], ◌∷◌, ◌++◌, append-nil, drop, arith},
  lemmas.{Bool.Decides.nat_tests, Grind.common_steps, List.Elements.All-push},
}
use Rattle.uses.{proofs.Padded.{HandsOut-append, HandsOut-skip}, specs.Input.is_breakz}
use Rattle.uses.proofs.input.BufferedInput.skip_while_non_breakz.Goals as goal

pub loop-self-preserved : goal.loop-self-preserved
loop-self-preserved g c =
    let gives = g.I.Iterator.next_gives in
    let was = c.loop-self.invariant.skipped in
    let look = c.look_ch.new.self in
    let ch = c.look_ch.result in
    let plain : is_breakz ch ≡ false = grind arith in
    let some : ch ≢ 0 = λ zero. grind (arith, nat_tests, plain, zero) in
    let seen = rw append-nil at (HandsOut-append gives c.args.self.now was.0 c.loop-self.self [] look was.2
    c.look_ch.ensures.reads) in
    rw c.skip.ensures (record {
      ends = (c.look_ch.ensures.fewer c.loop-self.invariant.ends some).0;
      skipped = (
        was.0 ++ ch ∷ [],
        All-push (λ x. is_breakz x ≡ false) was.0 ch was.1 plain,
        HandsOut-append gives c.args.self.now was.0 look (ch ∷ []) (record look { buffer = drop 1 look.buffer }) seen
            (HandsOut-skip gives look ch c.look_ch.ensures.next),
        grind (arith, common_steps, was.3, c.look_ch.ensures.len),
      );
    })

pub returns-clause-skips : goal.returns-clause-skips
returns-clause-skips g c =
    let was = c.loop-self.invariant.skipped in record {
      chars = was.0;
      plain = was.1;
      hands_out = rw append-nil at (HandsOut-append g.I.Iterator.next_gives c.args.self.now was.0 c.loop-self.self []
          c.look_ch.new.self was.2 c.look_ch.ensures.reads);
      within = grind (arith, was.3, c.look_ch.ensures.len);
    }
