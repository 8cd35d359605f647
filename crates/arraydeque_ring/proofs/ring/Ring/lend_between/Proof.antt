-- `lend_between` is `lend`, of which it says what the loan's name tells. Assumes `Logic`.
use Rattle.std.proofs.mem.Facts.{says_three}
use Rattle.arraydeque_ring.{
  proofs.{
    loans.{Made.loan_lawful, Rings.Rr},
    memory.{
      Called.{calls_met, first_fact, knows},
      Kit.{refl, [], ◌∷◌, id⊢, tables, ‵, raw, ◌⊛◌, ◌$◌, !, move, keep, use1, split, join},
      Kit.{frame, fsplit, suffices, done, addr, stop, no_more, and_then, returns, alloc_all},
      Kit.{pass_all, free_all, look_at, get, through, sets, lands_as, nothing, heard, El},
      Kit.R,
      Methods.{passing_on, spent, machine_values},
    },
    ring.Ring.lend.Met.met,
  },
  specs.RingLends.lends_loan,
}
use Rattle.std.proofs.Common.{◌-◌, length}
use Rattle.arraydeque_ring.specs.contracts.ring.Ring.lend as g
use Rattle.arraydeque_ring.specs.contracts.ring.Ring.lend_between as f
use Rattle.arraydeque_ring.proofs.ring.Ring.lend_between.Statement as stated
use Rattle.arraydeque_ring.proofs.ring.Ring.lend_between.Code as code

pub lend_between_spec : {M : Type 1} → stated.statement M
lend_between_spec 𝓤 𝓛 𝓜 𝓡 wired X L =
    let E : El = record { row = X; laws = L } in
    let 𝓣 = tables 𝓤 𝓛.H 𝓜 𝓡 𝓡.env in
    passing_on 1 2 (Rr E) 𝓛 (spent 1 𝓛 _) 𝓜 𝓡 _ _ (f.clauses X 𝓛 𝓜.mem 𝓡.returns) _ _
    (code.unfolded 𝓤 𝓛.H 𝓜 𝓡 wired (X, tt)) (λ κs qs bounds a _ typed post ends.
    let before = a.1.0 in let len = length a.0.now.items - before - a.1.1.0 in
    move ! (1 ∷ []) $ first_fact ! (λ lives. heard ! _ (λ some. knows ! some $ knows ! lives $ join ! $
    alloc_all ! (λ l. pass_all ! refl ((tt, tt), typed) $
    sets ! (addr ! (through ! refl (stop !))) refl (tt, tt) $
    calls_met 𝓛 ! 𝓜 𝓣 (g.ended X) (g.clauses X 𝓛 𝓜.mem 𝓡.returns)
    (met 𝓤 𝓛 𝓜 𝓡 (code.calls-arraydeque_ring::ring::Ring::lend 𝓡.env wired) X L)
    ((κs, qs, bounds, a, machine_values 1 κs 2 a), tt) (id⊢ 𝓤 _)
    (and_then ! (get ! refl) (and_then ! (get ! refl) (and_then ! (get ! refl) (no_more !)))) (loan_lawful E)
    (λ v it ws it_typed. lands_as ! refl refl it_typed.0 $
    move ! (2 ∷ []) $ use1 𝓛 (‵ (lends_loan (R E) a.0 before len it) ⊛ raw _) (id⊢ 𝓤 _) $ split ! $
    move ! (1 ∷ []) $ first_fact ! (λ value. first_fact ! (λ cut. heard ! _ (λ piece. fsplit ! $
    -- [what the ring follows; what the loan's name follows; the loan; the tokens]
    returns ! (look_at ! 0 refl) $ free_all ! refl $ keep ! (2 ∷ 3 ∷ 0 ∷ []) $
    suffices ! _ (ends v it tt) $ nothing ! $ frame ! $ frame ! $ frame ! $
    says_three ! (value, cut, piece) $ done !))))))))
