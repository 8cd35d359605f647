-- `lend` lends a part of the items: the ring lends its own, and the deque follows what the ring follows.
-- Assumes `Logic`.
use Rattle.std.proofs.{Common.{◌-◌, take, drop as dropped, min}, mem.Facts.{says_three}}
use Rattle.arraydeque_ring.{
  proofs.{
    loans.{Made.{loan_lawful, loan_renamed}, Names.{hands_on, followed_both, part_lent}, Rings.Rr},
    memory.{
      Called.{calls_met, first_fact, knows},
      Kit.{◌≡◌, refl, ap, ◌∙◌, List, [], ◌∷◌, ◌++◌, ℕ, ◌+◌, ◌≤◌, arith, length, full_share, id⊢},
      Kit.{Share, flft, tables, ‵, raw, ◌⊛◌, some, ◌$◌, !, move, keep, use1, use2, split, split3},
      Kit.{join, pick, frame, fsplit, fjoin, suffices, done, addr, stop, fld, no_more, and_then},
      Kit.{returns, alloc_all, pass_all, free_all, look_at, get, through, sets, lands_as, mem},
      Kit.{part_at, heard, nothing, RattleType, El, R, el_x, after₂, Array, both_by},
      Kit.{number, MutBor, NamedLft, named_lft, owns, usize, pure_i, rewrite},
      Methods.{method, spent, machine_values},
    },
    ring.Ring.lend.Met.met,
  },
  specs.{Loans.{LoanState, place_from}, Ring.RingState, Runs.as_many},
}
use types.{Late.ages, Mut.open_ref}
use denote.Param.{param}
use contract.Lifetimes.{toks}
use Rattle.arraydeque.{
  proofs.{
    Called.{Others, Two, come_back},
    Lent.{Dr, FieldsRow, Fields, view, Kept, Other, Way, fields_out, ring_out, deque_whole},
    Lent.{after_part, kept_part, seen_part, part_written},
  },
  specs.{Deque.DequeState, DequeLends.{part_rewritten, lends_loan}},
}
use base.Share
use Rattle.arraydeque_ring.specs.RingLends as ring
use Rattle.arraydeque_ring.specs.contracts.slots.loan.Loan as loan
use Rattle.arraydeque_ring.specs.contracts.ring.Ring.lend as g
use Rattle.arraydeque.specs.contracts.deque.ArrayDeque.lend as f
use Rattle.arraydeque.proofs.deque.ArrayDeque.lend.Statement as stated
use Rattle.arraydeque.proofs.deque.ArrayDeque.lend.Code as code

pub lend_spec : {M : Type 1} → stated.statement M
unfolding both_by
lend_spec 𝓤 𝓛 𝓜 𝓡 wired X N B L fits LB members dict dict_met =
    let E : El = record { row = X; laws = L } in let C : RattleType = number N in
    let 𝓣 = tables 𝓤 𝓛.H 𝓜 𝓡 𝓡.env in
    method 3 2 (Dr E N B) 𝓛 (spent 3 𝓛 _) 𝓜 𝓡 _ _ (f.clauses X C B members dict 𝓛 𝓜.mem 𝓡.returns)
    _ _ (code.unfolded 𝓤 𝓛.H 𝓜 𝓡 wired (X, (C, (B, tt))) dict) (λ κs qs bounds a _ typed post ends.
    let κ = κs.0 in let κ₁ = κs.1.0 in let q = qs.0 in let q₁ = qs.1.0 in
    let l : Share = Share.left q in let r : Share = Share.right q in
    let rb : ℕ = a.0.ref_ptr.0 in let ro : ℕ = a.0.ref_ptr.1 in let γ = a.0.ghost_name in
    let d : DequeState (el_x E) = a.0.now in let before = a.1.0 in let behind = a.1.1.0 in
    first_fact ! (λ lives. first_fact ! (λ _. first_fact ! (λ _. first_fact ! (λ _. heard ! _ (λ enough.
    alloc_all ! (λ locals. pass_all ! refl ((tt, tt), typed) $
    sets ! (addr ! (through ! refl (fld ! refl (stop !)))) refl (tt, tt) $
    -- [obs; the borrow; its token; the others]
    move ! (3 ∷ []) $ use1 𝓛 (‵ (flft κ₁ q₁) ⊛ raw (Others 𝓛 κs qs)) (id⊢ 𝓤 _) $ split ! $
    move ! (4 ∷ []) $ use1 𝓛 (‵ (flft κ l) ⊛ ‵ (flft κ r)) (𝓛.lfts.lft_split κ q) $ split ! $ move ! (4 ∷ 5 ∷ 0 ∷ []) $
    open_ref ! tt (mem (Dr E N B)) {x = d} {b = rb} {o = ro} $
    use1 𝓛 (some (λ (x : (x : Fields E N B) × ((view E N B x ≡ d) × Kept E N B x)).
    ‵ (part_at (FieldsRow E N B) full_share x.0 rb ro))) (fields_out E N B LB 𝓛 rb ro d) $ pick ! (λ opened.
    let x : Fields E N B = opened.0 in let seen = opened.1.0 in let kept = opened.1.1 in
    use1 𝓛 (‵ (part_at (Rr E) full_share x.ring rb (ro + 0)) ⊛ ‵ (Other E N B LB 𝓛 rb ro x)
    ⊛ raw (Way E N B LB 𝓛 rb ro)) (ring_out E N B LB 𝓛 rb ro x) $ split3 ! $
    -- [the ring; the other field; the way back; the open borrow, in three; half the token; that of T; the others]
    sets ! (addr ! (through ! refl (stop !))) refl (tt, tt) $
    move ! (3 ∷ []) $ ages ! (λ age. move ! (1 ∷ []) $ part_lent ! tt (Rr E) age κ x.ring rb (ro + 0) (λ δ.
    let lent : MutBor (RingState (el_x E)) = record { ref_ptr = (rb, ro + 0); ghost_name = δ; now = x.ring } in
    let words : ℕ × (ℕ × Unit {0}) = (before, (behind, tt)) in
    let vals = machine_values 1 (Two κs) 2 (lent, words) in
    pure_i ! (owns (usize ∷ usize ∷ []) words vals.1) _ ((refl, typed.0.1.fits), ((refl, typed.1.0.1.fits), tt)) $
    move ! (1 ∷ 0 ∷ []) $ fjoin ! $
    -- [the lent ring and the words; the right;
    -- the open borrow; the other field; the way back; obs γ; auth γ; half the token; that of T; the others]
    nothing ! $ move ! (9 ∷ 0 ∷ []) $ join ! $ move ! (8 ∷ 0 ∷ []) $ join ! $ join ! $
    let same = ap (λ (u : DequeState (el_x E)). length u.items) seen in
    let len = length x.ring.items - before - behind in
    let is : len ≡ length d.items - before - behind = omega (arith, same) in
    let within : before + len ≤ length d.items = omega (arith, same, enough) in
    knows ! {φ = before + behind ≤ length x.ring.items} (omega (arith, same, enough)) $ knows ! lives $ join ! $
    calls_met 𝓛 ! 𝓜 𝓣 (g.ended X) (g.clauses X 𝓛 𝓜.mem 𝓡.returns)
    (met 𝓤 𝓛 𝓜 𝓡 (code.calls-arraydeque_ring::ring::Ring::lend 𝓡.env wired) X L)
    ((Two κs, (r, (q₁, tt)), (bounds.0, tt), (lent, words), vals), tt) (id⊢ 𝓤 _)
    (and_then ! (get ! refl) (and_then ! (get ! refl) (and_then ! (get ! refl) (no_more !)))) (loan_lawful E)
    (λ v it ws it_typed. lands_as ! refl refl it_typed.0 $
    let α : NamedLft = named_lft 2 0 tt (Two κs) in let It = loan.the_row α (R E) in
    move ! (2 ∷ []) $ use1 𝓛 (‵ (ring.lends_loan (R E) lent before len it) ⊛ raw _) (id⊢ 𝓤 _) $
    split ! $ move ! (1 ∷ []) $ first_fact ! (λ value. first_fact ! (λ ring_cut. heard ! _ (λ piece. fsplit ! $
    -- [what δ follows; what the loan's name follows;
    -- the loan; the tokens; the right; the open borrow; the other field; the way back; obs γ; auth γ; the others]
    let written : RingState (el_x E) → List (el_x E) = λ u. take len (dropped before u.items) in
    let V : RingState (el_x E) → DequeState (el_x E) =
    λ u. view E N B (after_part E N B x d seen kept before len within (written u)) in
    let F : DequeState (el_x E) → DequeState (el_x E) =
    λ u. part_rewritten before len d (take len (dropped before u.items)) in
    move ! (6 ∷ 7 ∷ []) $ join ! $ move ! (6 ∷ 7 ∷ 8 ∷ 5 ∷ 1 ∷ 0 ∷ []) $
    hands_on ! tt (mem (Dr E N B)) (mem (Rr E)) (mem (Rr E)) F V
    (λ u. ring.part_rewritten before len x.ring (written u)) age rb ro rb (ro + 0) d
    (λ u. deque_whole E N B LB 𝓛 rb ro (F (V u)) x (ring.part_rewritten before len x.ring (written u))
    (seen_part E N B x d seen kept before len within (written u))
    (kept_part E N B x d seen kept before len within (written u))) (λ ν.
    -- [half the token; what γ follows;
    -- what ν follows; what the loan's name follows; the loan; the tokens; the others]
    let Rows = mem (Array (R E) 0) in
    let joined : List (el_x E) → List (el_x E) → List (el_x E) =
    λ us vs. as_many it.first.now us ++ as_many it.second.now vs in
    move ! (2 ∷ 3 ∷ []) $ use2 𝓛 (‵ (after₂ (mem (Dr E N B)) Rows Rows ν it.first.ghost_name it.second.ghost_name
    (λ us vs. part_rewritten before len d (joined us vs)))) (followed_both 𝓛 (mem (Dr E N B)) (mem (Rr E)) Rows _ _ _
    _ _ _ _ (λ us vs. part_written E N B x d seen kept before len within (joined us vs))) $
    -- [what ν follows; half the token; what γ follows; the loan; the tokens; the others]
    let out : LoanState (el_x E) = record it { name = ν } in
    move ! (2 ∷ 0 ∷ []) $ fjoin ! $
    rewrite ! 0 (λ k. ‵ (lends_loan (R E) (param 1 (number N)) (param 2 B) a.0 before k out)) is refl $
    move ! (2 ∷ []) $
    use1 𝓛 (‵ (It.own_val out (v ∷ []))) (loan_renamed α (R E) 𝓛 it ν (v ∷ [])) $
    -- [the loan; what the deque follows; half the token; the tokens; the others]
    move ! (3 ∷ 4 ∷ []) $ use2 𝓛 (‵ (flft κ r) ⊛ raw (toks 𝓛 3 κs.1 qs.1)) (come_back 𝓛 κs (r, qs.1)) $
    split ! $ move ! (4 ∷ 0 ∷ []) $
    use2 𝓛 (‵ (flft κ q)) (𝓛.lfts.lft_join κ q) $ join ! $
    -- [the tokens; the loan; what the deque follows]
    returns ! (look_at ! 0 refl) $ free_all ! refl $ keep ! (2 ∷ 1 ∷ 0 ∷ []) $
    suffices ! _ (ends v out tt) $ nothing ! $ frame ! $ move ! (1 ∷ 2 ∷ []) $ frame ! $ frame ! $
    let none : d.start + length d.items ≤ N → it.second.now ≡ [] = λ in_one_piece. piece (omega (
      arith,
      ap (λ (u : DequeState (el_x E)). u.start) seen,
      ap (λ (u : DequeState (el_x E)). length u.items) seen,
    )) in
    let items = ap (λ (u : DequeState (el_x E)). take len (dropped before u.items)) seen in
    let starts : x.ring.start ≡ d.start = ap (λ (u : DequeState (el_x E)). u.start) seen in
    let cut : length it.first.now ≡ min len (N - place_from d.start before N) =
    ring_cut ∙ ap (λ (s : ℕ). min len (x.ring.capacity - place_from s before x.ring.capacity)) starts
    ∙ ap (λ (n : ℕ). min len (n - place_from d.start before n)) kept.0 in
    says_three ! (rw (← is) (value ∙ items, cut, none)) $ done !)))))))))))))))
