-- `lend_between` is `lend`, of which it says what the loan's name tells. Assumes `Logic`.
use Rattle.std.proofs.Common.{◌-◌, length}
use Rattle.arraydeque_ring.proofs.{
  loans.Made.loan_lawful,
  memory.{
    Called.{calls_met, first_fact, knows},
    Kit.{refl, [], ◌∷◌, ◌+◌, ◌≤◌, id⊢, tables, fact, ‵, raw, ◌⊛◌, ◌$◌, !, move, keep, use1, split},
    Kit.{join, frame, fsplit, suffices, done, addr, stop, no_more, and_then, returns, alloc_all},
    Kit.{pass_all, free_all, look_at, get, through, sets, lands_as, nothing, says, heard, El, R},
    Kit.{RattleType, number},
    Methods.{passing_on, spent, machine_values},
  },
}
use denote.Param.{param}
use Rattle.arraydeque.{
  proofs.{Called.Asked, deque.ArrayDeque.lend.Met.met, Lent.Dr},
  specs.DequeLends.lends_loan,
}
use Rattle.arraydeque.specs.contracts.deque.ArrayDeque.lend as g
use Rattle.arraydeque.specs.contracts.deque.ArrayDeque.lend_between as f
use Rattle.arraydeque.proofs.deque.ArrayDeque.lend_between.Statement as stated
use Rattle.arraydeque.proofs.deque.ArrayDeque.lend_between.Code as code

pub lend_between_spec : {M : Type 1} → stated.statement M
lend_between_spec 𝓤 𝓛 𝓜 𝓡 wired X N B L fits LB members dict dict_met =
    let E : El = record { row = X; laws = L } in let C : RattleType = number N in
    let 𝓣 = tables 𝓤 𝓛.H 𝓜 𝓡 𝓡.env in
    passing_on 3 2 (Dr E N B) 𝓛 (spent 3 𝓛 _) 𝓜 𝓡 _ _ (f.clauses X C B members dict 𝓛 𝓜.mem 𝓡.returns)
    _ _ (code.unfolded 𝓤 𝓛.H 𝓜 𝓡 wired (X, (C, (B, tt))) dict) (λ κs qs bounds a _ typed post ends.
    let items = a.0.now.items in let before = a.1.0 in let behind = a.1.1.0 in
    let len = length items - before - behind in
    move ! (1 ∷ []) $ first_fact ! {P = Asked 𝓤 κs.1.1.0 κs.1.1.1.0 B (fact 𝓤 (before + behind ≤ length items))}
    (λ lives. knows ! lives $ join ! $
    alloc_all ! (λ l. pass_all ! refl ((tt, tt), typed) $
    sets ! (addr ! (through ! refl (stop !))) refl (tt, tt) $
    calls_met 𝓛 ! 𝓜 𝓣 (g.ended X C B members dict) (g.clauses X C B members dict 𝓛 𝓜.mem 𝓡.returns)
    (met 𝓤 𝓛 𝓜 𝓡 (code.calls-arraydeque::deque::ArrayDeque::lend 𝓡.env wired) X N B L fits LB members dict dict_met)
    ((κs, qs, bounds, a, machine_values 3 κs 2 a), tt) (id⊢ 𝓤 _)
    (and_then ! (get ! refl) (and_then ! (get ! refl) (and_then ! (get ! refl) (no_more !)))) (loan_lawful E)
    (λ v it ws it_typed. lands_as ! refl refl it_typed.0 $
    move ! (2 ∷ []) $
    use1 𝓛 (‵ (lends_loan (R E) (param 1 C) (param 2 B) a.0 before len it) ⊛ raw _) (id⊢ 𝓤 _) $ split ! $
    move ! (1 ∷ []) $ first_fact ! (λ value. first_fact ! (λ _. heard ! _ (λ _. fsplit ! $
    -- [what the deque follows; what the loan's name follows; the loan; the tokens]
    returns ! (look_at ! 0 refl) $ free_all ! refl $ keep ! (2 ∷ 3 ∷ 0 ∷ []) $
    suffices ! _ (ends v it tt) $ nothing ! $ frame ! $ frame ! $ frame ! $ says ! value $ done !)))))))
