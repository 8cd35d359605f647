-- `as_mut_slices` is `lend` of all items, and the ring follows the loan's slices. Assumes `Logic`.
use Rattle.std.proofs.mem.Facts.{says_three}
use Rattle.arraydeque_ring.{
  proofs.{
    memory.{
      Kit.{emp, refl, [], ◌∷◌, ◌++◌, ℕ, ◌+◌, ◌≤◌, arith, length, lit<, id⊢, tables, owns},
      Kit.{‵, raw, ◌⊛◌, ◌$◌, !, move, drop, use1, use2, split, join, fsplit, fjoin, fjoin3, feq_i},
      Kit.{frame, suffices, addr, lit, stop, no_more, and_then, returns, alloc_all, pass_all},
      Kit.{free_all, look_at, get, through, sets, lands_as, mem, nothing, heard, done, usize, El},
      Kit.{R, Array, both_by, after₂, mut_vals, pure_i},
      Methods.{method, spent, machine_values},
      Called.{calls_met, first_fact, knows},
    },
    loans.{
      Made.loan_lawful,
      Names.followed_both,
      Parts.{all_rewritten, all_lent},
      Rings.Rr,
      Slices.in_slices,
    },
    ring.Ring.lend.Met.met,
    slots.loan.Loan.into_slices.Met.met as into_met,
  },
  specs.{RingLends.{lends_loan, rewritten}, Runs.as_many},
}
use Rattle.std.proofs.Common.{◌-◌}
use Rattle.arraydeque_ring.specs.contracts.ring.Ring.lend as g
use Rattle.arraydeque_ring.specs.contracts.ring.Ring.as_mut_slices as f
use Rattle.arraydeque_ring.proofs.ring.Ring.as_mut_slices.Statement as stated
use Rattle.arraydeque_ring.proofs.ring.Ring.as_mut_slices.Code as code

pub as_mut_slices_spec : {M : Type 1} → stated.statement M
unfolding both_by
as_mut_slices_spec 𝓤 𝓛 𝓜 𝓡 wired X L =
    let E : El = record { row = X; laws = L } in
    let 𝓣 = tables 𝓤 𝓛.H 𝓜 𝓡 𝓡.env in
    method 1 0 (Rr E) 𝓛 (spent 1 𝓛 _) 𝓜 𝓡 _ _ (f.clauses X 𝓛 𝓜.mem 𝓡.returns) _ _
    (code.unfolded 𝓤 𝓛.H 𝓜 𝓡 wired (X, tt)) (λ κs qs bounds a _ fit post ends.
    let d = a.0.now in let m = length d.items - 0 - 0 in
    first_fact ! {P = emp 𝓤} (λ lives. drop ! $
    alloc_all ! (λ l. pass_all ! refl ((tt, tt), fit) $
    sets ! (addr ! (through ! refl (stop !))) refl (tt, tt) $
    -- [obs; the borrow; its token; the others]
    feq_i ! _ (mut_vals a.0) _ refl $ fjoin3 ! $
    let words : ℕ × (ℕ × Unit {0}) = (0, (0, tt)) in let vals = machine_values 1 κs 2 (a.0, words) in
    pure_i ! (owns (usize ∷ usize ∷ []) words vals.1) _ ((refl, lit< tt), ((refl, lit< tt), tt)) $
    -- [the words; the borrow; its token; the others]
    move ! (1 ∷ 0 ∷ []) $ fjoin ! $ move ! (1 ∷ 2 ∷ []) $ join ! $ join ! $
    knows ! {φ = 0 + 0 ≤ length d.items} (omega arith) $ knows ! lives $ join ! $
    calls_met 𝓛 ! 𝓜 𝓣 (g.ended X) (g.clauses X 𝓛 𝓜.mem 𝓡.returns)
    (met 𝓤 𝓛 𝓜 𝓡 (code.calls-arraydeque_ring::ring::Ring::lend 𝓡.env wired) X L)
    ((κs, qs, bounds, (a.0, words), vals), tt) (id⊢ 𝓤 _)
    (and_then ! (get ! refl) (and_then ! (lit ! tt) (and_then ! (lit ! tt) (no_more !)))) (loan_lawful E)
    (λ v it ws it_typed. lands_as ! refl refl it_typed.0 $
    move ! (2 ∷ []) $ use1 𝓛 (‵ (lends_loan (R E) a.0 0 m it) ⊛ raw _) (id⊢ 𝓤 _) $ split ! $
    move ! (1 ∷ []) $ first_fact ! (λ value. first_fact ! (λ cut. heard ! _ (λ piece. fsplit ! $
    -- [what the ring follows; what the loan's name follows; the loan; the tokens]
    let Rows = mem (Array (R E) 0) in
    use2 𝓛 (‵ (after₂ (mem (Rr E)) Rows Rows a.0.ghost_name it.first.ghost_name it.second.ghost_name
    (λ us vs. rewritten d (as_many it.first.now us ++ as_many it.second.now vs))))
    (followed_both 𝓛 (mem (Rr E)) (mem (Rr E)) Rows _ _ _ _ _ _ _
    (λ us vs. all_rewritten d m (as_many it.first.now us ++ as_many it.second.now vs) (omega arith))) $
    move ! (1 ∷ 2 ∷ []) $ in_slices 𝓛 𝓜 𝓡 E κs !
    (into_met 𝓤 𝓛 𝓜 𝓡 (code.calls-arraydeque_ring::slots::loan::Loan::into_slices 𝓡.env wired) X L) qs bounds lives it v
    (and_then ! (get ! refl) (no_more !)) (λ u two_typed. lands_as ! refl refl two_typed.0 $
    -- [the pair; the tokens; what the ring follows]
    returns ! (look_at ! 0 refl) $ free_all ! refl $
    suffices ! _ (ends u (it.first, it.second) tt) $ nothing ! $ frame ! $ frame ! $ frame ! $
    let all = all_lent d m it.first.now it.second.now (omega arith) value cut in
    says_three ! (all.0, all.1, piece) $ done !))))))))
