use Rattle.std.proofs.{Common.{◌≡◌, rules, of_calls}, lemmas.Fn.always_returns_same}
use Rattle.arraydeque.proofs.Searched.{found_at}
use Rattle.arraydeque.proofs.deque.ArrayDeque.binary_search.Goals as goal

pub returns-clause-position : goal.returns-clause-position
returns-clause-position g c =
    let ord = λ (y : g.row.T.Denot). g.T.Ord.cmp y c.args.x.now in
    c.binary_search_by.ensures.position ord
    (always_returns_same _ (λ a r. r ≡ ord a.0.now) _ (λ a r f called. search (rules, of_calls)))

pub returns-clause-first : goal.returns-clause-first
returns-clause-first g c =
    let ord = λ (y : g.row.T.Denot). g.T.Ord.cmp y c.args.x.now in
    c.binary_search_by.ensures.first ord
    (always_returns_same _ (λ a r. r ≡ ord a.0.now) _ (λ a r f called. search (rules, of_calls)))

pub returns-clause-ok : goal.returns-clause-ok
returns-clause-ok g c =
    found_at (λ (y : g.row.T.Denot). g.T.Ord.cmp y c.args.x.now) _ _ (returns-clause-position g c)
