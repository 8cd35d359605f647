-- `two_slices_mut` lends two runs, and the region follows their slices. Assumes `Logic`.
use base.Logic.{mono_l}
use Rattle.arraydeque_ring.{
  proofs.{
    memory.{
      Kit.{fact, sep, by, refl, [], ◌∷◌, id⊢, tables, ◌$◌, !, move, join, frame, suffices, addr},
      Kit.{stop, no_more, and_then, returns, alloc_all, pass_all, free_all, look_at, get, through},
      Kit.{sets, lands_as, mem, nothing, heard, El, R, Array, both_by},
      Regions.Sr,
      Methods.{passing_on, spent, machine_values},
      Called.{calls_met, first_fact, knows},
    },
    loans.{Made.loan_lawful, Names.followed_both, Slices.in_slices},
    slots.{Slots.lend_two.Met.met, loan.Loan.into_slices.Met.met as into_met},
  },
  specs.SlotsLends.two_lists,
}
use Rattle.arraydeque_ring.specs.contracts.slots.Slots.lend_two as g
use Rattle.arraydeque_ring.specs.contracts.slots.Slots.two_slices_mut as f
use Rattle.arraydeque_ring.proofs.slots.Slots.two_slices_mut.Statement as stated
use Rattle.arraydeque_ring.proofs.slots.Slots.two_slices_mut.Code as code

pub two_slices_mut_spec : {M : Type 1} → stated.statement M
unfolding both_by
two_slices_mut_spec 𝓤 𝓛 𝓜 𝓡 wired X L =
    let E : El = record { row = X; laws = L } in
    let 𝓣 = tables 𝓤 𝓛.H 𝓜 𝓡 𝓡.env in
    passing_on 1 4 (Sr E) 𝓛 (spent 1 𝓛 _) 𝓜 𝓡 _ _ (f.clauses X 𝓛 𝓜.mem 𝓡.returns) _ _
    (code.unfolded 𝓤 𝓛.H 𝓜 𝓡 wired (X, tt)) (λ κs qs bounds arg _ fit post ends.
    move ! (1 ∷ []) $ first_fact ! (λ lives. first_fact ! (λ one. first_fact ! (λ two. heard ! _ (λ apart.
    knows ! apart $ knows ! two $ join ! $ knows ! one $ join ! $ knows ! lives $ join ! $
    alloc_all ! (λ l. pass_all ! refl ((tt, tt), fit) $
    sets ! (addr ! (through ! refl (stop !))) refl (tt, tt) $
    calls_met 𝓛 ! 𝓜 𝓣 (g.ended X) (g.clauses X 𝓛 𝓜.mem 𝓡.returns)
    (met 𝓤 𝓛 𝓜 𝓡 (code.calls-arraydeque_ring::slots::Slots::lend_two 𝓡.env wired) X L)
    ((κs, qs, bounds, arg, machine_values 1 κs 4 arg), tt) (id⊢ 𝓤 _) (and_then ! (get ! refl) (and_then ! (get ! refl)
    (and_then ! (get ! refl) (and_then ! (get ! refl) (and_then ! (get ! refl) (no_more !)))))) (loan_lawful E)
    (λ v it ws it_typed. lands_as ! refl refl it_typed.0 $
    in_slices 𝓛 𝓜 𝓡 E κs !
    (into_met 𝓤 𝓛 𝓜 𝓡 (code.calls-arraydeque_ring::slots::loan::Loan::into_slices 𝓡.env wired) X L) qs bounds lives it v
    (and_then ! (get ! refl) (no_more !)) (λ u two_typed. lands_as ! refl refl two_typed.0 $
    -- [the pair; the tokens; what `lend_two` ensures]
    returns ! (look_at ! 0 refl) $ free_all ! refl $
    suffices ! _ (ends u (it.first, it.second) tt) $ nothing ! $ frame ! $ frame ! $ frame ! $
    by ! (mono_l 𝓤 (sep 𝓤 (fact {0} 𝓤 _) (fact {0} 𝓤 _))
    (followed_both 𝓛 (mem (Sr E)) (mem (two_lists (R E))) (mem (Array (R E) 0)) _ _ _ _ _ _ _ (λ us vs. refl)))))))))))
