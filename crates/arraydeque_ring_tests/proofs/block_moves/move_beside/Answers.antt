use Rattle.std.proofs.{
  Common.{ℕ, ◌≡◌, length, get_or, replicate, List, Option, None, inl, inr, sym, subst, ap, ◌∙◌},
  Common.arith,
  lemmas.{
    Bool.cases_lt,
    Grind.{get_or-set_at},
    List.{ext_get_or, get_or-replicate, get_or-set_other, length-replicate, length-set},
    List.{FromFn.{length-map-range_with_len, get_or-map-range_with_len}},
  },
}
use Rattle.arraydeque_ring.specs.Moved.{held_after, IsFilledRound}
use Rattle.arraydeque_ring_tests.proofs.block_moves.move_beside.Goals.{
  in-Some+else-assert_eq,
  in_default,
}
use Rattle.arraydeque_ring_tests.proofs.block_moves.move_beside.Goals as goal

pub wrap_move-requires-clause-filled : goal.wrap_move-requires-clause-filled
wrap_move-requires-clause-filled g c =
    subst (λ (ps : List (Option ℕ)). IsFilledRound c.args.src c.args.len ps)
    (sym c.in_ok-slots.ensures) c.assert_movable.ensures.filled

pub loop-place-init : goal.loop-place-init
loop-place-init g c =
    let before = c.in_ok-slots.slots.places in
    let held = held_after c.args.dst c.args.src c.args.len before in
    let moved = c.wrap_move.ensures.places in
    let many = ap length c.in_ok-slots.ensures in
    record {
      long = ap length moved ∙ length-map-range_with_len held 0 (length before) ∙ many;
      gone = λ x lt. absurd (omega arith);
      left = λ x le lt. ap (λ (ps : List (Option ℕ)). get_or ps x None) moved
          ∙ get_or-map-range_with_len held 0 (length before) x x None (omega (arith, many)) (omega arith)
          ∙ ap (λ (ps : List (Option ℕ)). held_after c.args.dst c.args.src c.args.len ps x) c.in_ok-slots.ensures;
    }

pub loop-place-preserved : goal.loop-place-preserved
loop-place-preserved g c =
    let was = c.loop-place.invariant in
    let places = c.loop-place.slots.places in
    let place = c.loop-place.place-counter in
    let here = c.loop-place-test.true in
    elim c.match-held_then.branch [
      | in-Some+else-assert_eq w ↦
          let now = ap (λ s. s.places) w.slots-is ∙ w.take.ensures.places in
          record {
            long = ap length now ∙ length-set places place None ∙ was.long;
            gone = λ x lt. ap (λ (ps : List (Option ℕ)). get_or ps x None) now ∙ elim (cases_lt x place) [
              | inl before ↦ get_or-set_other places place x None None (λ same. absurd (omega arith))
                  ∙ was.gone x before
              | inr le ↦ get_or-set_at places place x None None (omega arith) (omega (arith, was.long))
            ];
            left = λ x le lt. ap (λ (ps : List (Option ℕ)). get_or ps x None) now
                ∙ get_or-set_other places place x None None (λ same. absurd (omega arith))
                ∙ was.left x (omega arith) lt;
          }
      | in_default w ↦
          let now = ap (λ s. s.places) w.slots-is in
          record {
            long = ap length now ∙ was.long;
            gone = λ x lt. ap (λ (ps : List (Option ℕ)). get_or ps x None) now ∙ elim (cases_lt x place) [
              | inl before ↦ was.gone x before
              | inr le ↦ let same : x ≡ place = omega arith in
                  rw same (was.left place (omega arith) here ∙ sym c.held_then.ensures ∙ w.in_default.is)
            ];
            left = λ x le lt. ap (λ (ps : List (Option ℕ)). get_or ps x None) now ∙ was.left x (omega arith) lt;
          }
    ]

pub drop-slots-requires : goal.drop-slots-requires
drop-slots-requires g c =
    let walked = c.loop-place.invariant in
    let places = c.loop-place.slots.places in
    let many = length places in
    ext_get_or None places (replicate many None) (sym (length-replicate many None)) (λ x lt.
    walked.gone x (omega (arith, walked.long, c.loop-place-test.false)) ∙ sym (get_or-replicate many x None None lt))
