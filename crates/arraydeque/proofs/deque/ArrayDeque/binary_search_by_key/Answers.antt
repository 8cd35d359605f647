use Rattle.std.proofs.Common.{◌≡◌, rules, of_calls, refl}
use denote.Param.Always.{always_mut, mut_by}
use Rattle.arraydeque.proofs.Searched.{answers_through}
use Rattle.arraydeque.proofs.deque.ArrayDeque.binary_search_by_key.Goals as goal

pub binary_search_by-requires : goal.binary_search_by-requires
binary_search_by-requires g c = (
  search rules,
  mut_by _ (λ s. always_mut g.F.FnMut s.0.now) (λ s a i. i) (λ s a r t i e. search of_calls) _ c.requires,
)

pub returns-clause-position : goal.returns-clause-position
returns-clause-position g c = λ key says.
    let order = λ (k : g.row.K.Denot). g.K.Ord.cmp k c.args.key.now in
    c.binary_search_by.ensures.position (λ y. order (key y)) (answers_through g.F.FnMut _ (λ s. s.0.now)
    (λ s. s.1.now ≡ c.args.key.now) order (λ s a r t called kept. search of_calls) key _ refl says)

pub returns-clause-first : goal.returns-clause-first
returns-clause-first g c = λ key says.
    let order = λ (k : g.row.K.Denot). g.K.Ord.cmp k c.args.key.now in
    c.binary_search_by.ensures.first (λ y. order (key y)) (answers_through g.F.FnMut _ (λ s. s.0.now)
    (λ s. s.1.now ≡ c.args.key.now) order (λ s a r t called kept. search of_calls) key _ refl says)
