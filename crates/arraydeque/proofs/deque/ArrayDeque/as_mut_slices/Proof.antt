-- `as_mut_slices` is `lend` of all items, and the deque follows the loan's slices. Assumes `Logic`.
use Rattle.std.proofs.{Common.◌-◌, mem.Facts.{says_three}}
use contract.Lifetimes.{toks}
use denote.Param.{param}
use Rattle.arraydeque.{
  proofs.{
    Called.{OfTwo, Others, Two, set_apart, come_back},
    deque.ArrayDeque.lend.Met.met,
    Lent.{Dr, all_rewritten},
  },
  specs.{Deque.as_ring, DequeLends.{lends_loan, rewritten}},
}
use Rattle.arraydeque_ring.{
  proofs.{
    memory.{
      Called.{calls_met, first_fact, knows},
      Methods.{method, spent, machine_values},
      Kit.{emp, refl, [], ◌∷◌, ◌++◌, ℕ, ◌+◌, ◌≤◌, arith, length, lit<, id⊢, tables, owns, ‵},
      Kit.{raw, ◌⊛◌, ◌$◌, !, move, drop, use1, use2, split, join, fsplit, fjoin, fjoin3, feq_i},
      Kit.{frame, suffices, addr, lit, stop, no_more, and_then, returns, alloc_all, pass_all},
      Kit.{free_all, look_at, get, through, sets, lands_as, mem, nothing, heard, done, usize, El},
      Kit.{R, RattleType, Array, both_by, after₂, mut_vals, pure_i, number},
    },
    loans.{Made.loan_lawful, Names.followed_both, Parts.all_lent, Slices.in_slices},
    slots.loan.Loan.into_slices.Met.met as into_met,
  },
  specs.Runs.as_many,
}
use Rattle.arraydeque.specs.contracts.deque.ArrayDeque.lend as g
use Rattle.arraydeque.specs.contracts.deque.ArrayDeque.as_mut_slices as f
use Rattle.arraydeque.proofs.deque.ArrayDeque.as_mut_slices.Statement as stated
use Rattle.arraydeque.proofs.deque.ArrayDeque.as_mut_slices.Code as code

pub as_mut_slices_spec : {M : Type 1} → stated.statement M
unfolding both_by
as_mut_slices_spec 𝓤 𝓛 𝓜 𝓡 wired X N B L fits LB members dict dict_met =
    let E : El = record { row = X; laws = L } in let C : RattleType = number N in
    let 𝓣 = tables 𝓤 𝓛.H 𝓜 𝓡 𝓡.env in
    method 3 0 (Dr E N B) 𝓛 (spent 3 𝓛 _) 𝓜 𝓡 _ _ (f.clauses X C B members dict 𝓛 𝓜.mem 𝓡.returns)
    _ _ (code.unfolded 𝓤 𝓛.H 𝓜 𝓡 wired (X, (C, (B, tt))) dict) (λ κs qs bounds a _ fit post ends.
    let d = a.0.now in let m = length d.items - 0 - 0 in
    first_fact ! (λ lives. first_fact ! (λ one. first_fact ! (λ two. first_fact ! {P = emp 𝓤} (λ three. drop ! $
    alloc_all ! (λ l. pass_all ! refl ((tt, tt), fit) $
    sets ! (addr ! (through ! refl (stop !))) refl (tt, tt) $
    -- [obs; the borrow; its token; the others]
    feq_i ! _ (mut_vals a.0) _ refl $ fjoin3 ! $
    let words : ℕ × (ℕ × Unit {0}) = (0, (0, tt)) in let vals = machine_values 3 κs 2 (a.0, words) in
    pure_i ! (owns (usize ∷ usize ∷ []) words vals.1) _ ((refl, lit< tt), ((refl, lit< tt), tt)) $
    -- [the words; the borrow; its token; the others]
    move ! (1 ∷ 0 ∷ []) $ fjoin ! $ move ! (1 ∷ 2 ∷ []) $ join ! $ join ! $
    knows ! {φ = 0 + 0 ≤ length d.items} (omega arith) $ knows ! three $ join ! $ knows ! two $ join ! $
    knows ! one $ join ! $ knows ! lives $ join ! $
    calls_met 𝓛 ! 𝓜 𝓣 (g.ended X C B members dict) (g.clauses X C B members dict 𝓛 𝓜.mem 𝓡.returns)
    (met 𝓤 𝓛 𝓜 𝓡 (code.calls-arraydeque::deque::ArrayDeque::lend 𝓡.env wired) X N B L fits LB members dict dict_met)
    ((κs, qs, bounds, (a.0, words), vals), tt) (id⊢ 𝓤 _)
    (and_then ! (get ! refl) (and_then ! (lit ! tt) (and_then ! (lit ! tt) (no_more !)))) (loan_lawful E)
    (λ v it ws typed. lands_as ! refl refl typed.0 $
    move ! (2 ∷ []) $
    use1 𝓛 (‵ (lends_loan (R E) (param 1 C) (param 2 B) a.0 0 m it) ⊛ raw _) (id⊢ 𝓤 _) $ split ! $
    move ! (1 ∷ []) $ first_fact ! (λ value. first_fact ! (λ cut. heard ! _ (λ piece. fsplit ! $
    -- [what the deque follows; what the loan's name follows; the loan; the tokens]
    let Rows = mem (Array (R E) 0) in
    use2 𝓛 (‵ (after₂ (mem (Dr E N B)) Rows Rows a.0.ghost_name it.first.ghost_name it.second.ghost_name
    (λ us vs. rewritten d (as_many it.first.now us ++ as_many it.second.now vs))))
    (followed_both 𝓛 (mem (Dr E N B)) (mem (Dr E N B)) Rows _ _ _ _ _ _ _
    (λ us vs. all_rewritten d m (as_many it.first.now us ++ as_many it.second.now vs) (omega arith))) $
    move ! (2 ∷ []) $
    use1 𝓛 (raw (OfTwo 𝓛 κs qs) ⊛ raw (Others 𝓛 κs qs)) (set_apart 𝓛 κs qs) $ split ! $ move ! (3 ∷ 0 ∷ []) $
    -- [the loan; two tokens; the others; what the deque follows]
    in_slices 𝓛 𝓜 𝓡 E (Two κs) !
    (into_met 𝓤 𝓛 𝓜 𝓡 (code.calls-arraydeque_ring::slots::loan::Loan::into_slices 𝓡.env wired) X L)
    (qs.0, (qs.1.0, tt)) (bounds.0, tt) lives it v (and_then ! (get ! refl) (no_more !)) (λ u typed'.
    lands_as ! refl refl typed'.0 $
    move ! (1 ∷ 2 ∷ []) $ use2 𝓛 (raw (toks 𝓛 4 κs qs)) (come_back 𝓛 κs qs) $ move ! (1 ∷ []) $
    -- [the pair; the tokens; what the deque follows]
    returns ! (look_at ! 0 refl) $ free_all ! refl $
    suffices ! _ (ends u (it.first, it.second) tt) $ nothing ! $ frame ! $ frame ! $ frame ! $
    let all = all_lent (as_ring N d) m it.first.now it.second.now (omega arith) value cut in
    says_three ! (all.0, all.1, piece) $ done !)))))))))))
