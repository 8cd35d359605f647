use Rattle.std.proofs.Common.{◌<◌, length, sym, ◌∙◌, inl, inr, refl, of_calls, arith}
use Rattle.arraydeque.proofs.Searched.{halves_less, halves_not_less, halves_next, count_of}
use Rattle.arraydeque.proofs.deque.searches.slice_less_count.Goals.{
  then-is_lt,
  else-is_lt,
  then-is_lt-2,
  else-is_lt-2,
}
use Rattle.arraydeque.proofs.deque.searches.slice_less_count.Goals as goal

pub loop-size-2-preserved : goal.loop-size-2-preserved
loop-size-2-preserved g c = record {
  some = omega arith;
  no_more = omega arith;
  callable = search of_calls;
  halves = halves_next g.F.FnMut _ _ _ _ _ _ c.loop-size-2.invariant.halves _ (omega arith) _ c.index-items-base.is _
      c.f.ensures _ _ (omega arith) (omega arith) (omega arith) (elim c.if-is_lt.branch [
        | then-is_lt w ↦ inl (sym c.is_lt.ensures ∙ w.if-is_lt.true, w.base-is)
        | else-is_lt w ↦ inr (sym c.is_lt.ensures ∙ w.if-is_lt.false, w.base-is)
      ]);
}

pub loop-size-preserved : goal.loop-size-preserved
loop-size-preserved g c = record {
  callable = search of_calls;
  halves = halves_next g.F.FnMut _ _ _ _ _ _ c.loop-size-2.invariant.halves _ (omega arith) _
      c.index-items-base-in-loop-size.is _ c.f-in-loop-size.ensures _ _ (omega arith) (omega arith) (omega arith)
      (elim c.if-is_lt-2.branch [
        | then-is_lt-2 w ↦ inl (sym c.is_lt-in-loop-size.ensures ∙ w.if-is_lt-2.true, w.base-is)
        | else-is_lt-2 w ↦ inr (sym c.is_lt-in-loop-size.ensures ∙ w.if-is_lt-2.false, w.base-is)
      ]);
}

pub returns-then-is_lt-3-clause-parted : goal.returns-then-is_lt-3-clause-parted
returns-then-is_lt-3-clause-parted g c =
    let lt : c.loop-size.base < length c.args.items.now = grind arith in
    count_of g.F.FnMut _ _ _ _ 0 (halves_less g.F.FnMut _ _ _ _ _ _ c.loop-size.invariant.halves _ lt _
    c.in-Some.ensures.lookup.1 _ c.f-2.ensures _ 0 (omega arith) (omega arith) (omega arith)
    (sym c.is_lt-2.ensures ∙ c.if-is_lt-3.true)) (inl refl)

pub returns-else-is_lt-3-clause-parted : goal.returns-else-is_lt-3-clause-parted
returns-else-is_lt-3-clause-parted g c =
    let lt : c.loop-size.base < length c.args.items.now = grind arith in
    count_of g.F.FnMut _ _ _ _ 0 (halves_not_less g.F.FnMut _ _ _ _ _ _ c.loop-size.invariant.halves _ lt _
    c.in-Some.ensures.lookup.1 _ c.f-2.ensures 0 (omega arith) (omega arith)
    (sym c.is_lt-2.ensures ∙ c.if-is_lt-3.false)) (inl refl)
