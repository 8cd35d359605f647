use Rattle.std.proofs.{
  Common.{◌++◌, ◌∷◌, [], pos, w64, sym, ap₂, ◌∙◌, arith},
  lemmas.{Int.to_z_pos, List.FromFn.{map-range_with_len_more}},
}
use Rattle.arraydeque_samples.proofs.build.numbers.Goals as goal

pub loop-number-preserved : goal.loop-number-preserved
loop-number-preserved c =
    let number = c.loop-number.number in
    let was = c.loop-number.invariant in
    let small = to_z_pos w64 number (omega (arith, c.loop-number-test.true, was.capacity, c.loop-number.list.small)) in
    record {
      capacity = omega (arith, was.capacity, c.push.ensures.capacity);
      items = c.in_ok-push.ensures.items ∙ ap₂ (λ l x. l ++ x ∷ []) was.items small
          ∙ sym (map-range_with_len_more pos 0 number number (omega arith));
    }
