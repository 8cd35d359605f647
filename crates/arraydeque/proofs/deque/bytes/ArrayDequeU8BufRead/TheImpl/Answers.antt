-- The method's clauses give the trait's: `after_borrow` gets weaker, and `cut` and `ok` are dropped.
use mathlib.Core.List.{[]}
use base.Logic.{sep, emp, id⊢, via, mono_r, fst∗}
use contract.Monad.{fact, fact_i}
use denote.{Builtin.u8, Param.{number, param}}
use Rattle.std.proofs.Common.{ℕ, ap}
use Rattle.std.specs.{Prelude.{IfOk, ⊤}, declared.result.Result.{Result, TheVariants.{Ok, Err}}}
use borrow.Fn.Refines.{by_parts}
use Rattle.arraydeque.{proofs.Rested.rests_weaker, specs.{contracts.deque.ArrayDeque.the_row, Deque.DequeState}}
use Rattle.arraydeque.proofs.deque.bytes.ArrayDequeU8BufRead.TheImpl.Goals as goal

known : {A E : Type 0} (r : Result A E) → IfOk r (λ _. ⊤)
known (Ok x) = tt
known (Err x) = tt

pub fill_buf-meets : goal.fill_buf-meets
fill_buf-meets g c =
    let 𝓤 = g.world.𝓤 in
    let row = the_row u8 (param 0 (number g.row.CAP)) (param 1 g.row.B) in
    by_parts 𝓤 [] [] (emp 𝓤) (emp 𝓤) _ _ (λ r e. []) (λ r e. []) _ _
    (fact_i 𝓤 (Unit {0}) (emp 𝓤) tt) (λ asked. id⊢ 𝓤 (emp 𝓤)) (λ r e. fact_i 𝓤 (Unit {0}) _ tt)
    (λ r e told. mono_r 𝓤 (fact 𝓤 _) (mono_r 𝓤 (fact 𝓤 _) (via 𝓤 _ (fst∗ 𝓤 _ (sep 𝓤 (fact 𝓤 _) (fact 𝓤 _)))
    (rests_weaker g.world.𝓛 row c.args.self _ _ (λ new same. (ap (λ (d : DequeState ℕ). d.items) same, known r))))))
    (λ pre. tt) (λ pre r e told. tt)
