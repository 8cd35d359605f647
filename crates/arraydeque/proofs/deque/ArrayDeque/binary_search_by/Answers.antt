use Rattle.std.proofs.{Common.{sym, ◌∙◌}, lemmas.Option.{get_or_from_slice_get, slice_get-get_or}}
use Rattle.arraydeque.proofs.{
  deque.ArrayDeque.binary_search_by.Goals.{in_default, in_default-2},
  Searched.{answers_first, first_found, missed_at, equal_of},
}
use Rattle.arraydeque.proofs.deque.ArrayDeque.binary_search_by.Goals as goal

pub returns-in-Some-clause-position : goal.returns-in-Some-clause-position
returns-in-Some-clause-position g c = λ ord says d.
    let count = c.less_count-index.ensures.parted ord says in
    let asked = answers_first g.F.FnMut count.0 c.f.ensures in
    let at = get_or_from_slice_get c.args.self.now.items c.less_count-index.result c.in-Some.item.now d
    (sym c.in-Some.ensures.value) in
    rw (at, ← asked.0) (equal_of _ (sym c.is_eq.ensures ∙ c.if-is_eq.true))

pub returns-in-Some-clause-first : goal.returns-in-Some-clause-first
returns-in-Some-clause-first g c = λ ord says. first_found ord _ _ (c.less_count-index.ensures.parted ord says).1

pub returns-clause-position : goal.returns-clause-position
returns-clause-position g c = λ ord says.
    let count = c.less_count-index.ensures.parted ord says in
    elim c.match-get.branch [
      | in_default-2 w ↦
          let asked = answers_first g.F.FnMut count.0 w.f.ensures in
          rw w.result-is (missed_at ord _ _ count.1 (λ d lt.
          let at = get_or_from_slice_get c.args.self.now.items c.less_count-index.result w.in-Some.item.now d
          (sym w.in-Some.ensures.value) in
          rw (at, ← asked.0) (sym w.is_eq.ensures ∙ w.if-is_eq.false)))
      | in_default w ↦ rw w.result-is (missed_at ord _ _ count.1 (λ d lt.
          let some = slice_get-get_or _ _ d lt in
          let none = rw w.in_default.is at c.get.ensures.value in
          cc))
    ]
