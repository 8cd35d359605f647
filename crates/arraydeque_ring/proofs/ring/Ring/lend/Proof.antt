-- `lend` lends a part of the items: its slots lend two runs, and the ring follows what they follow. Assumes `Logic`.
use Rattle.std.proofs.mem.Facts.{says_three}
use Rattle.arraydeque_ring.{
  proofs.{
    loans.{
      Made.{loan_lawful, loan_renamed},
      Names.{hands_on, followed_both, part_lent},
      Parts.{first_filled, rest_filled, lent_part, cut, one_piece, part_after},
      Rings.{Rr, ring_apart},
    },
    memory.{
      Called.{calls_met, first_fact, knows},
      Kit.{fjoin3, fsplit3, ◌++◌, nothing, refl, List, [], ◌∷◌, ℕ, ◌+◌, ◌<◌, ◌≤◌, ◌^◌, arith},
      Kit.length,
      Kit.{full_share, id⊢, fat, flft, w64, tables, owns, ‵, raw, ◌⊛◌, ◌$◌, !, move, use1},
      Kit.{use2, split, join, frame, fsplit, fjoin, suffices, done, of_opd, addr, load, look},
      Kit.{bin, take, stop, fld, no_more, and_then, returns, alloc_all, pass_all, free_all},
      Kit.{look_at, get},
      Kit.{through, sets, lands_as, usize, mem, part_at, heard, El, R, el_x, after₂},
      Kit.{Array, both_by, rewrite, MutBor, named_lft, pure_i},
      Methods.{method, spent, machine_values},
      Regions.{Sr, Seen},
    },
    slots.Slots.lend_round.Met.met,
  },
  specs.{
    Loans.{LoanState, place_from},
    Ring.RingState,
    RingLends.{part_rewritten, lends_loan},
    Runs.as_many,
    SlotsLends.two_lists,
  },
}
use Rattle.std.proofs.Common.{◌≡◌, ◌-◌, drop as dropped}
use types.{Late.ages, Mut.open_ref, Run.well_typed}
use contract.Lifetimes.{toks}
use denote.Plain.{uint_in, uint_out}
use base.Share
use Rattle.arraydeque_ring.specs.SlotsLends as Lends
use Rattle.arraydeque_ring.specs.contracts.slots.loan.Loan as loan
use Rattle.arraydeque_ring.specs.contracts.slots.Slots.lend_round as g
use Rattle.arraydeque_ring.specs.contracts.ring.Ring.lend as f
use Rattle.arraydeque_ring.proofs.ring.Ring.lend.Statement as stated
use Rattle.arraydeque_ring.proofs.ring.Ring.lend.Code as code

pub lend_spec : {M : Type 1} → stated.statement M
unfolding both_by
lend_spec 𝓤 𝓛 𝓜 𝓡 wired X L =
    let E : El = record { row = X; laws = L } in
    let 𝓣 = tables 𝓤 𝓛.H 𝓜 𝓡 𝓡.env in
    method 1 2 (Rr E) 𝓛 (spent 1 𝓛 _) 𝓜 𝓡 _ _ (f.clauses X 𝓛 𝓜.mem 𝓡.returns) _ _
    (code.unfolded 𝓤 𝓛.H 𝓜 𝓡 wired (X, tt)) (λ κs qs bounds a _ typed post ends.
    let κ = κs.0 in let q = qs.0 in let l = Share.left q in let r = Share.right q in
    let rb = a.0.ref_ptr.0 in let ro = a.0.ref_ptr.1 in let d = a.0.now in
    let before = a.1.0 in let behind = a.1.1.0 in
    first_fact ! (λ lives. heard ! _ (λ some.
    alloc_all ! (λ locals. pass_all ! refl ((tt, tt), typed) $
    -- [obs; the borrow; its token; the others]
    move ! (2 ∷ []) $ use1 𝓛 (‵ (flft κ l) ⊛ ‵ (flft κ r)) (𝓛.lfts.lft_split κ q) $ split ! $ move ! (2 ∷ 3 ∷ 0 ∷ []) $
    open_ref ! tt (mem (Rr E)) {x = d} {b = rb} {o = ro} $ ring_apart E ! d rb ro (λ x open_ring Way whole.
    -- [the slots; the other fields; the way back; the open borrow, in three; half its token; the others]
    move ! (1 ∷ []) $ fsplit3 ! $
    -- [the start; the length; nothing; the slots; ..]
    use1 𝓛 (‵ (fat _ _ _ _ _)) (uint_out 𝓛 full_share w64 x.start rb (ro + 16)) $ well_typed ! (λ start_ok.
    sets ! (of_opd ! (load ! (through ! refl (fld ! refl (stop !))) (look ! 0 refl))) refl start_ok $ move ! (1 ∷ []) $
    use1 𝓛 (‵ (fat _ _ _ _ _)) (uint_out 𝓛 full_share w64 x.len rb (ro + 24)) $ well_typed ! (λ len_ok.
    sets ! (of_opd ! (load ! (through ! refl (fld ! refl (stop !))) (look ! 0 refl))) refl len_ok $
    use1 𝓛 (‵ (part_at usize full_share x.len rb (ro + 24))) (uint_in 𝓛 full_share w64 x.len rb (ro + 24)) $
    move ! (1 ∷ []) $
    use1 𝓛 (‵ (part_at usize full_share x.start rb (ro + 16))) (uint_in 𝓛 full_share w64 x.start rb (ro + 16)) $
    fjoin3 ! $ move ! (1 ∷ []) $
    let many = open_ring.len in let len = x.len - before - behind in
    let is : len ≡ length d.items - before - behind = omega arith in
    let within : before + len ≤ length d.items = omega (arith, some) in
    let enough : before + behind ≤ x.len = omega (arith, some) in
    let longest : x.len < 2 ^ 64 = len_ok.1.fits in let fits : len < 2 ^ 64 = omega arith in
    sets ! (bin ! (get ! refl) (get ! refl) (omega arith)) refl (tt, record { fits = omega arith }) $
    sets ! (bin ! (get ! refl) (get ! refl) (omega arith)) refl (tt, record { fits = fits }) $
    sets ! (addr ! (through ! refl (fld ! refl (stop !)))) refl (tt, tt) $
    -- [the slots; the other fields; the way back; the open borrow, in three; half its token; the others]
    sets ! (addr ! (through ! refl (stop !))) refl (tt, tt) $
    move ! (3 ∷ []) $ ages ! (λ age. move ! (1 ∷ []) $ part_lent ! tt (Sr E) age κ x.slots rb (ro + 0) (λ δ.
    let lent : MutBor (Seen E) = record { ref_ptr = (rb, ro + 0); ghost_name = δ; now = x.slots } in
    let words : ℕ × (ℕ × (ℕ × Unit {0})) = (x.start, (before, (len, tt))) in
    let vals = machine_values 1 κs 3 (lent, words) in
    pure_i ! (owns (usize ∷ usize ∷ usize ∷ []) words vals.1) _
    ((refl, start_ok.1.fits), ((refl, typed.0.1.fits), ((refl, fits), tt))) $
    -- [the words; the lent slots;
    -- the right; the open borrow; the other fields; the way back; obs γ; auth γ; half its token; the others]
    move ! (1 ∷ 0 ∷ []) $ fjoin ! $ move ! (7 ∷ 8 ∷ []) $ join ! $ join ! $
    knows ! (rest_filled open_ring before len within) $ knows ! (first_filled open_ring before len within) $ join ! $
    let long = open_ring.laid.length_is in let room = open_ring.laid.within in let region = open_ring.laid.in_region in
    knows ! {φ = before + len ≤ length x.slots.places} (omega arith) $ join ! $
    knows ! {φ = x.start ≤ length x.slots.places} (omega arith) $ join ! $
    knows ! lives $ join ! $
    calls_met 𝓛 ! 𝓜 𝓣 (g.ended X) (g.clauses X 𝓛 𝓜.mem 𝓡.returns)
    (met 𝓤 𝓛 𝓜 𝓡 (code.calls-arraydeque_ring::slots::Slots::lend_round 𝓡.env wired) X L)
    ((κs, (r, qs.1), bounds, (lent, words), vals), tt) (id⊢ 𝓤 _)
    (and_then ! (get ! refl) (and_then ! (get ! refl) (and_then ! (get ! refl) (and_then ! (get ! refl) (no_more !)))))
    (loan_lawful E)
    (λ v it ws it_typed. lands_as ! refl refl it_typed.0 $
    let α = named_lft 2 0 tt κs in let place = place_from x.start before (length x.slots.places) in
    move ! (2 ∷ []) $ use1 𝓛 (‵ (Lends.lends_loan (R E) lent place 0 it) ⊛ raw _) (id⊢ 𝓤 _) $ split ! $
    move ! (1 ∷ []) $ first_fact ! (λ held. heard ! _ (λ held'. fsplit ! $
    -- [what δ follows; what the loan's name follows;
    -- the loan; the tokens; the right; the open borrow; the other fields; the way back; obs γ; auth γ]
    let Lists = mem (two_lists (R E)) in let Put = λ (w : List (el_x E) × List (el_x E)).
    Lends.two_written (R E) lent place 0 it.first.now it.second.now w.0 w.1 in
    let V = λ (w : List (el_x E) × List (el_x E)).
    part_rewritten before len d (as_many it.first.now w.0 ++ as_many it.second.now w.1) in
    let F = λ (u : RingState (el_x E)). part_rewritten before len d (take len (dropped before u.items)) in
    move ! (6 ∷ 7 ∷ []) $ join ! $ move ! (6 ∷ 7 ∷ 8 ∷ 5 ∷ 1 ∷ 0 ∷ []) $
    hands_on ! tt (mem (Rr E)) (mem (Sr E)) Lists F V Put age rb ro rb (ro + 0) d (λ w.
    whole (Put w) (F (V w))
    (part_after open_ring before len within it.first.now it.second.now held held' w.0 w.1)) (λ ν.
    -- [half the token; what γ follows; what ν follows; what the loan's name follows; the loan; the tokens]
    let Rows = mem (Array (R E) 0) in move ! (2 ∷ 3 ∷ []) $
    use2 𝓛 (‵ (after₂ (mem (Rr E)) Rows Rows ν it.first.ghost_name it.second.ghost_name (λ us vs. V (us, vs))))
    (followed_both 𝓛 (mem (Rr E)) Lists Rows _ _ _ _ _ _ _ (λ us vs. refl)) $
    -- [what ν follows; half the token; what γ follows; the loan; the tokens]
    let out : LoanState (el_x E) = record it { name = ν } in
    move ! (2 ∷ 0 ∷ []) $ fjoin ! $ rewrite ! 0 (λ k. ‵ (lends_loan (R E) a.0 before k out)) is refl $ move ! (2 ∷ []) $
    use1 𝓛 (‵ ((loan.the_row α (R E)).own_val out (v ∷ []))) (loan_renamed α (R E) 𝓛 it ν (v ∷ [])) $
    -- [the loan; what the ring follows; half the token; the tokens]
    move ! (3 ∷ []) $ use1 𝓛 (‵ (flft κ r) ⊛ raw (toks 𝓛 1 κs.1 qs.1)) (id⊢ 𝓤 _) $ split ! $ move ! (4 ∷ 0 ∷ []) $
    use2 𝓛 (‵ (flft κ q)) (𝓛.lfts.lft_join κ q) $ join ! $
    returns ! (look_at ! 0 refl) $ free_all ! refl $
    suffices ! _ (ends v out tt) $ nothing ! $ frame ! $ move ! (1 ∷ []) $ frame ! $ frame ! $
    says_three ! (rw (← is) (
      lent_part open_ring before len within it.first.now it.second.now held held',
      cut open_ring before len within it.first.now it.second.now held held',
      one_piece open_ring before len within it.first.now it.second.now held held',
    )) $ done !)))))))))))))
