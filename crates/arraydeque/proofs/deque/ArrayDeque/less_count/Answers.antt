use Rattle.std.{proofs.Common.{◌+◌, ap, sym, ◌∙◌, arith}, specs.Ordering.{is_lt}}
use Rattle.arraydeque.proofs.{
  deque.ArrayDeque.less_count.Goals.{in-Some, in-None, then-is_behind, else-is_behind},
  Searched.{answers_first, parted_behind, parted_before},
}
use Rattle.arraydeque.proofs.deque.ArrayDeque.less_count.Goals as goal

pub returns-clause-parted : goal.returns-clause-parted
returns-clause-parted g c =
    let front = c.as_slices.result.0.now in
    let back = c.as_slices.result.1.now in
    let found = c.slice_less_count.ensures in
    rw (← c.as_slices.ensures.joined) (λ ord says. elim c.if-is_behind.branch [
      | then-is_behind v ↦ elim c.match-first.branch [
        | in-Some w ↦
            let item = rw w.in-Some.is at c.first.ensures.item in
            let asked = answers_first g.F.FnMut says w.f.ensures in
            let next = rw (ap (λ p. p.1.now) v.before-is) at (found.parted ord (rw w.f-is asked.1)) in (
              next.0,
              λ parted. parted_behind front back (λ y. is_lt (ord y)) parted _ _
                  (ap (λ p. p.0 + c.slice_less_count.result) v.before-is) item.3.0
                  (λ d. rw (← item.3.1 d) (ap is_lt (sym asked.0) ∙ sym w.is_lt-is_behind.ensures
                  ∙ sym w.is_behind-is ∙ v.if-is_behind.true)) next.1,
            )
        | in-None w ↦ grind arith
      ]
      | else-is_behind v ↦ elim c.match-first.branch [
        | in-Some w ↦
            let item = rw w.in-Some.is at c.first.ensures.item in
            let asked = answers_first g.F.FnMut says w.f.ensures in
            let next = rw (ap (λ p. p.1.now) v.before-is) at (found.parted ord (rw w.f-is asked.1)) in (
              next.0,
              λ parted. parted_before front back (λ y. is_lt (ord y)) parted _ _
                  (omega (arith, ap (λ p. p.0) v.before-is))
                  (rw (ap (λ p. p.1.now) v.before-is) at found.bound)
                  (λ some d. rw (← item.3.1 d) (ap is_lt (sym asked.0) ∙ sym w.is_lt-is_behind.ensures
                  ∙ sym w.is_behind-is ∙ v.if-is_behind.false)) next.1,
            )
        | in-None w ↦
            let none = rw w.in-None.is at c.first.ensures.item in
            let next = rw (ap (λ p. p.1.now) v.before-is) at (found.parted ord (rw w.f-is says)) in (
              next.0,
              λ parted. parted_before front back (λ y. is_lt (ord y)) parted _ _
                  (omega (arith, ap (λ p. p.0) v.before-is))
                  (rw (ap (λ p. p.1.now) v.before-is) at found.bound) (λ some d. absurd (omega (arith, none.3))) next.1,
            )
      ]
    ])
