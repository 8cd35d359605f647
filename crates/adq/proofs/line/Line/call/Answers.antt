use Rattle.std.{proofs.Common.{ℕ, ℤ, [], ◌∷◌, rules}, specs.List.AllZip}
use Rattle.arraydeque.specs.declared.run.Call.{Call}
use Rattle.adq.{proofs.Spelling.{told, alone}, specs.Line.{Spells, index, value, words_of}}
use Rattle.adq.proofs.line.Line.call.Goals as goal

pub returns-in_err-index-in-insert : goal.returns-in_err-index-in-insert
returns-in_err-index-in-insert c =
    told _ _ _ c.from_residual-in_err-index-in-insert.ensures.1 c.in_err-index-in-insert.ensures
    (λ h. let k : (i : ℕ) (x : ℤ) → ¬ (AllZip Spells (words_of c.args.self.rest.now) (index i ∷ value x ∷ [])) =
    λ i x. h (i, x) in search rules)

pub returns-in_err-i-in-swap : goal.returns-in_err-i-in-swap
returns-in_err-i-in-swap c = told _ _ _ c.from_residual-in_err-i-in-swap.ensures.1 c.in_err-i-in-swap.ensures
    (λ h. let k : (i j : ℕ) → ¬ (AllZip Spells (words_of c.args.self.rest.now) (index i ∷ index j ∷ [])) = λ i j.
    h (i, j) in search rules)

pub returns-in_err-index-in-replace : goal.returns-in_err-index-in-replace
returns-in_err-index-in-replace c =
    told _ _ _ c.from_residual-in_err-index-in-replace.ensures.1 c.in_err-index-in-replace.ensures
    (λ h. let k : (i : ℕ) (x : ℤ) → ¬ (AllZip Spells (words_of c.args.self.rest.now) (index i ∷ value x ∷ [])) =
    λ i x. h (i, x) in search rules)

pub returns-in_err-from-in-drain : goal.returns-in_err-from-in-drain
returns-in_err-from-in-drain c =
    told _ _ _ c.from_residual-in_err-from-in-drain.ensures.1 c.in_err-from-in-drain.ensures
    (λ h. let k : (i j : ℕ) → ¬ (AllZip Spells (words_of c.args.self.rest.now) (index i ∷ index j ∷ [])) = λ i j.
    h (i, j) in search rules)

pub returns-in-pop_front : goal.returns-in-pop_front
returns-in-pop_front c = alone Call.PopFront c.args.name.now (words_of c.args.self.rest.now) _ _
    (c.in-pop_front.is, tt) (search rules) c.end.ensures

pub returns-in-pop_back : goal.returns-in-pop_back
returns-in-pop_back c = alone Call.PopBack c.args.name.now (words_of c.args.self.rest.now) _ _
    (c.in-pop_back.is, tt) (search rules) c.end-in-pop_back.ensures

pub returns-in-clear : goal.returns-in-clear
returns-in-clear c = alone Call.Clear c.args.name.now (words_of c.args.self.rest.now) _ _ (c.in-clear.is, tt)
    (search rules) c.end-in-clear.ensures

pub returns-in-linearize : goal.returns-in-linearize
returns-in-linearize c = alone Call.Linearize c.args.name.now (words_of c.args.self.rest.now) _ _
    (c.in-linearize.is, tt) (search rules) c.end-in-linearize.ensures

pub returns-in-len : goal.returns-in-len
returns-in-len c = alone Call.Len c.args.name.now (words_of c.args.self.rest.now) _ _ (c.in-len.is, tt)
    (search rules) c.end-in-len.ensures

pub returns-in-capacity : goal.returns-in-capacity
returns-in-capacity c = alone Call.Capacity c.args.name.now (words_of c.args.self.rest.now) _ _
    (c.in-capacity.is, tt) (search rules) c.end-in-capacity.ensures

pub returns-in-is_empty : goal.returns-in-is_empty
returns-in-is_empty c = alone Call.IsEmpty c.args.name.now (words_of c.args.self.rest.now) _ _
    (c.in-is_empty.is, tt) (search rules) c.end-in-is_empty.ensures

pub returns-in-is_full : goal.returns-in-is_full
returns-in-is_full c = alone Call.IsFull c.args.name.now (words_of c.args.self.rest.now) _ _ (c.in-is_full.is, tt)
    (search rules) c.end-in-is_full.ensures
